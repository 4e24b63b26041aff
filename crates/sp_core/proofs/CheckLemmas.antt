-- Why events that come from outside are refused.
use Rattle.std.proofs.Common.{◌≡◌, ℕ, Bool, true, false, cond, List, [], ◌∷◌, ◌++◌, Option, None, Some, refl, sym, ap, ◌∙◌, map}
use Rattle.std.specs.Prelude.{not, nat_le, ◌^◌, ◌&&◌, ◌||◌, option_and_then, option_map, is_some, ◌==◌}
use Rattle.std.specs.List.{list_any}
use Rattle.sp_requests.specs.declared.connection.Link.{Link}
use Rattle.sp_requests.specs.declared.connection.Link.TheVariants as link
use Rattle.dgc_client.specs.Table as client
use Rattle.sp_events.specs.Events.{event_of}
use Rattle.sp_events.specs.FaultNames.{Refuses, RefusesOrLacks, core_fault_number}
use Rattle.sp_events.specs.declared.event.Event as outside
use Rattle.sp_events.specs.declared.event.Event.TheVariants as event
use Rattle.sp_events.specs.declared.fault.CoreFault.{CoreFault}
use Rattle.sp_events.specs.declared.fault.CoreFault.TheVariants as fault
use Rattle.space_ids.specs.declared.value.Value.{Value}
use Rattle.sp_results.specs.Held.{is_of_call, of_roots}
use Rattle.sp_living.specs.Views.{kept}
use Rattle.sp_results.specs.Waiting.{is_waiting}
use Rattle.sp_rules.specs.OwnEvents.{is_of_root}
use Rattle.sp_rules.specs.Classes.{Setting}
use Rattle.sp_rules.specs.Events.{Event}
use Rattle.sp_rules.specs.Refusals.{Refusal, WornOut, checks, first_refusal, is_give_back, is_worn, refusal, refusal_number, refuse_if}
use Rattle.sp_rules.specs.State.{State, KeptResult, Until, RootAcked, Acked, Passed}

-- ---- worn out first

and-true : (t : Bool) → (t && true) ≡ t
and-true true = refl
and-true false = refl

pub refusal-is : (g : Setting) (lent : List ℕ) (s : State) (e : Event) → is_give_back e ≡ false → refusal g lent s e ≡ cond (is_worn s) (Some WornOut) (first_refusal (checks g lent s e))
unfolding refusal
refusal-is g lent s e other =
    (λ j. cond (is_worn s && not (other j)) (Some WornOut) (first_refusal (checks g lent s e)))
    ∙ ap (λ t. cond t (Some WornOut) (first_refusal (checks g lent s e))) (and-true (is_worn s))

pub worn-number : (g : Setting) (lent : List ℕ) (s : State) (e : Event) (worn : Bool) → is_give_back e ≡ false → worn ≡ is_worn s → worn ≡ true → option_map refusal_number (refusal g lent s e) ≡ Some 98
worn-number g lent s e worn other w late =
    ap (option_map refusal_number) (refusal-is g lent s e other ∙ ap (λ t. cond t (Some WornOut) (first_refusal (checks g lent s e))) (sym w ∙ late))

pub fresh-number : (g : Setting) (lent : List ℕ) (s : State) (e : Event) (worn : Bool) → is_give_back e ≡ false → worn ≡ is_worn s → worn ≡ false
    → option_map refusal_number (refusal g lent s e) ≡ option_map refusal_number (first_refusal (checks g lent s e))
fresh-number g lent s e worn other w early =
    ap (option_map refusal_number) (refusal-is g lent s e other ∙ ap (λ t. cond t (Some WornOut) (first_refusal (checks g lent s e))) (sym w ∙ early))

-- no event from outside is a give-back
pub outside-other : (e : outside.Event) → is_give_back (event_of e) ≡ false
outside-other (event.Moment moment) = refl
outside-other event.Sweep = refl
outside-other (event.RootAck task) = refl
outside-other (event.Bind name value) = refl
outside-other (event.Rebind name value) = refl
outside-other (event.Unbind name) = refl
outside-other (event.Lookup peer name) = refl
outside-other (event.Opened conn dialled) = refl
outside-other (event.Refused peer) = refl
outside-other (event.Received conn message) = refl
outside-other (event.Closed conn) = refl
outside-other (event.ReadFailed conn) = refl
outside-other (event.Bad conn) = refl
outside-other (event.WriteFailed conn unsent) = refl

-- ---- one reason

pub told : (fails wanted : Bool) (f : CoreFault) (why : Refusal) (r : Option CoreFault) → r ≡ cond fails (Some f) None → fails ≡ wanted → core_fault_number f ≡ Some (refusal_number why)
    → option_map refusal_number (first_refusal (refuse_if wanted why)) ≡ option_and_then core_fault_number r
told fails wanted f why r is same number =
    (λ j. option_map refusal_number (first_refusal (refuse_if (sym same j) why)))
    ∙ elim fails as (λ b. option_map refusal_number (first_refusal (refuse_if b why)) ≡ option_and_then core_fault_number (cond b (Some f) None)) [ true ↦ sym number | false ↦ refl ]
    ∙ ap (option_and_then core_fault_number) (sym is)

-- ---- what a fault tells

pub refused-none : (r : Option Refusal) → option_map refusal_number r ≡ None → r ≡ None
refused-none None is = refl
refused-none (Some refusal) is = cc

numbered : (f : CoreFault) → core_fault_number f ≡ None → f ≡ fault.Memory
numbered (fault.Start why) is = cc
numbered fault.UnknownTask is = cc
numbered fault.NotLent is = cc
numbered fault.NotHeld is = cc
numbered fault.WrongKind is = cc
numbered fault.Strange is = cc
numbered fault.WornOut is = cc
numbered fault.Busy is = cc
numbered fault.Memory is = refl

pub refused-some : (r : Option Refusal) (f : CoreFault) → option_map refusal_number r ≡ core_fault_number f → Refuses r f
refused-some None f is = numbered f (sym is)
refused-some (Some refusal) f is = sym is

pub refused-memory : (r : Option Refusal) (f : CoreFault) → option_map refusal_number r ≡ None → f ≡ fault.Memory → Refuses r f
refused-memory None f is memory = memory
refused-memory (Some refusal) f is memory = cc

-- ---- connections

pub is-mapped : {A B : Type 0} (f : A → B) (o : Option A) → is_some (option_map f o) ≡ is_some o
is-mapped f None = refl
is-mapped f (Some x) = refl

pub other-open : (conn : ℕ) → Some (link.Open conn) ≡ Some link.Dialling → ⊥
other-open conn e = cc

pub no-link : (o : Option Link) → o ≡ None → o ≡ Some link.Dialling → ⊥
no-link o none some = cc

-- ---- results of the space's own roots and lookups

pub held-as : (task : ℕ) (results : List KeptResult) (roots : List (ℕ × Option Value)) → map kept roots ≡ of_roots results → is_waiting roots task ≡ list_any (is_of_root task) results
held-as task results roots are = rows roots ∙ ap (list_any (is_of_root task)) are ∙ all results
  where
    rows : (rs : List (ℕ × Option Value)) → is_waiting rs task ≡ list_any (is_of_root task) (map kept rs)
    rows [] = refl
    rows (r ∷ rs) = ap (λ b. (r.0 == task) || b) (rows rs)

    of : (u : Until) (value : Option Value) (rest more : Bool) → more ≡ rest
        → (is_of_root task (record { until = u; value = value }) || rest) ≡ cond (not (is_of_call (record { until = u; value = value }))) (is_of_root task (record { until = u; value = value }) || more) more
    of (RootAcked t) value rest more same = ap (λ b. (t == task) || b) (sym same)
    of (Acked c n) value rest more same = sym same
    of (Passed m) value rest more same = sym same

    pull : (b : Bool) (r : KeptResult) (xs : List KeptResult) → list_any (is_of_root task) (cond b (r ∷ xs) xs) ≡ cond b (is_of_root task r || list_any (is_of_root task) xs) (list_any (is_of_root task) xs)
    pull true r xs = refl
    pull false r xs = refl

    all : (rs : List KeptResult) → list_any (is_of_root task) (of_roots rs) ≡ list_any (is_of_root task) rs
    all [] = refl
    all (r ∷ rs) = pull (not (is_of_call r)) r (of_roots rs) ∙ sym (of r.until r.value (list_any (is_of_root task) rs) (list_any (is_of_root task) (of_roots rs)) (all rs))

-- ---- numbers

or-false : (b : Bool) → (b || false) ≡ b
or-false true = refl
or-false false = refl

pub worn-is : (s : State) (o t c q : Bool) → o ≡ nat_le (2 ^ 63) s.objects_made → t ≡ nat_le (2 ^ 63) s.tasks_made → c ≡ nat_le (2 ^ 63) s.calls_made → q ≡ nat_le (2 ^ 63) (client.numbers_of s.leases)
    → (o || (t || (c || q))) ≡ is_worn s
worn-is s o t c q a b d e = λ j. a j || (b j || (d j || (e ∙ sym (or-false (nat_le (2 ^ 63) (client.numbers_of s.leases)))) j))
