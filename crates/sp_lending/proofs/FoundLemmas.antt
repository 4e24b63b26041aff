-- A task in hand beside the living one, if its space takes it.
use Rattle.std.proofs.Common.{◌≡◌, ℕ, ◌+◌, Bool, true, false, cond, List, [], ◌++◌, Option, None, Some, refl, sym, ap, subst, ◌∙◌, reverse}
use Rattle.std.specs.Prelude.{not, ◌==◌, ◌&&◌}
use Rattle.std.specs.List.{list_any}
use Rattle.std.proofs.lemmas.Bool.{eqb-true, false≢true}
use Rattle.sp_lender.specs.Hands.{IsHistorys}
use Rattle.sp_living.specs.Hands.{task_of}
use Rattle.sp_living.specs.Views.{recorded_in, turned}
use Rattle.sp_laws.specs.Calls.{point}
use Rattle.sp_laws.proofs.FittedLemmas.{record-is}
use Rattle.sp_rules.specs.Behaviours.{Op, Create, Get, Put, Call}
use Rattle.sp_rules.specs.Classes.{Setting}
use Rattle.sp_rules.specs.Events.{Event, Committed, Parked, GivenBack, Finished}
use Rattle.sp_rules.specs.LivingTasks.{after_steps}
use Rattle.sp_rules.specs.Refusals.{Check, Refusal, NotHeld, NotLent, WornOut, WrongKind, check_committed, check_finished, check_parked, first_refusal, fits_call, fits_store, holds_op, is_in_hand, is_worn, refusal, refuse_if, stand_after, stands_at}
use Rattle.sp_rules.specs.Runs.{lent_if, replayed}
use Rattle.sp_rules.specs.Space.{state_of}
use Rattle.sp_rules.specs.State.{State, Living, ready_at, task_at}
use Rattle.sp_rules.specs.Tasks.{Stand, Runs, AsksFor, HasEnded, stand, steps}
use Rattle.sp_rules.proofs.ReadyLemmas.{ready-is}
use Rattle.sp_tasks.specs.Recorded.{Recorded}
use Rattle.sp_tasks.specs.Rows.{Hand}
use Rattle.sp_tasks.proofs.SameLemmas.{and-left, and-right, record-same}
use Rattle.sp_core.specs.Cores.{is_historys, is_lent, lent_as}
use Rattle.sp_core.specs.declared.space_core.SpaceCore.{SpaceCore}
use Rattle.sp_lending.specs.Hands.{IsNow}
use Rattle.sp_lending.proofs.AlikeLemmas.{as_task}
use Rattle.sp_lending.proofs.LentIds.{lends-those, lent_ids}
use Rattle.sp_lending.proofs.RecordLemmas.{reverse-turned, turned-twice}

-- The task of this hand lives, and is lent.
pub record Found (s : State) (core : SpaceCore) (hand : Hand) : Type 0 where
  pub living : Living
  pub there : task_at s hand.id ≡ Some living
  pub ready : ready_at s hand.id ≡ Some living
  pub waits : living.waits ≡ false
  pub past : recorded_in living ≡ hand.past
  pub counted : living.steps ≡ hand.steps
  pub lent : is_lent core hand.id ≡ true
  pub historys : IsHistorys (ready_at s hand.id) hand

-- ---- it is the one of the history

historys-same : (o : Option Living) (t : Living) (hand : Hand) → o ≡ Some t → recorded_in t ≡ hand.past → t.steps ≡ hand.steps → IsHistorys o hand
historys-same o t hand is past counted =
    subst (λ (p : Option Living). IsHistorys p hand) (sym is)
    (ap (λ (r : Recorded). r.began) (sym past), ap (λ (r : Recorded). reverse r.given) (sym past) ∙ reverse-turned t.given, sym counted)

pub found-as : (s : State) (core : SpaceCore) (hand : Hand) → is_historys (ready_at s hand.id) hand ≡ true → is_lent core hand.id ≡ true → Found s core hand
found-as s core hand historys lent = by (ready_at s hand.id) refl historys
  where
    by : (o : Option Living) → ready_at s hand.id ≡ o → is_historys o hand ≡ true → Found s core hand
    by None is e = absurd (false≢true e)
    by (Some t) is e =
        let both = ready-is (task_at s hand.id) t is in
        let past : recorded_in t ≡ hand.past = record-same (recorded_in t) hand.past (and-right (t.steps == hand.steps) _ e) in
        let counted : t.steps ≡ hand.steps = eqb-true t.steps hand.steps (and-left (t.steps == hand.steps) _ e) in
        record {
          living = t;
          there = both.0;
          ready = is;
          waits = both.1;
          past = past;
          counted = counted;
          lent = lent;
          historys = historys-same (ready_at s hand.id) t hand is past counted;
        }

any-if : (b : Bool) (id : ℕ) (ids : List ℕ) → list_any (◌==◌ id) (cond b ids []) ≡ true → (b ≡ true) × (list_any (◌==◌ id) ids ≡ true)
any-if true id ids e = (refl, e)
any-if false id ids e = absurd (false≢true e)

found-in : (s : State) (core : SpaceCore) (hand : Hand) → is_in_hand (lent_as s hand (lent_ids core)) s hand.id ≡ true → Found s core hand
found-in s core hand e =
    let any = any-if (is_historys (ready_at s hand.id) hand) hand.id (lent_ids core) (and-left (list_any (◌==◌ hand.id) (lent_as s hand (lent_ids core))) _ e) in
    found-as s core hand any.0 (sym (lends-those core hand.id) ∙ any.1)

-- ---- what is not refused

holds-first : (worn b : Bool) (why : Refusal) (rest : List Check) → cond worn (Some WornOut) (first_refusal (refuse_if (not b) why ++ rest)) ≡ None → (b ≡ true) × (first_refusal rest ≡ None)
holds-first true b why rest e = absurd (cc)
holds-first false true why rest e = (refl, e)
holds-first false false why rest e = absurd (cc)

passes : (b : Bool) (why : Refusal) (rest : List Check) → first_refusal (refuse_if (not b) why ++ rest) ≡ None → (b ≡ true) × (first_refusal rest ≡ None)
passes true why rest e = (refl, e)
passes false why rest e = absurd (cc)

pub found-back : (g : Setting) (s : State) (core : SpaceCore) (hand : Hand) → refusal g (lent_as s hand (lent_ids core)) s (GivenBack hand.id hand.made) ≡ None → Found s core hand
unfolding refusal
found-back g s core hand e = found-in s core hand (holds-first (is_worn s && false) (is_in_hand (lent_as s hand (lent_ids core)) s hand.id) NotLent [] e).0

-- an operation on the store, which fits it
pub record FoundAt (g : Setting) (s : State) (core : SpaceCore) (hand : Hand) (op : Op) : Type 0 where
  pub found : Found s core hand
  pub fits : fits_store g s op ≡ true

pub found-commit : (g : Setting) (s : State) (core : SpaceCore) (hand : Hand) (op : Op) → refusal g (lent_as s hand (lent_ids core)) s (Committed hand.id hand.made op) ≡ None → FoundAt g s core hand op
unfolding refusal
found-commit g s core hand op e =
    let at = stand_after hand.made (task_at s hand.id) in
    let first = holds-first (is_worn s && true) (is_in_hand (lent_as s hand (lent_ids core)) s hand.id) NotLent (refuse_if (not (holds_op g (task_at s hand.id) op)) NotHeld ++ check_committed g s op at) e in
    let second = passes (holds_op g (task_at s hand.id) op) NotHeld (check_committed g s op at) first.1 in
    let third = passes (fits_store g s op) WrongKind (refuse_if (not (stands_at op at)) WrongKind) second.1 in
    record { found = found-in s core hand first.0; fits = third.0 }

-- a call at which it stands
abbrev pub IsCalled : Stand → Type 0
IsCalled Runs = ⊥
IsCalled (AsksFor (Create class)) = ⊥
IsCalled (AsksFor (Get object slot)) = ⊥
IsCalled (AsksFor (Put object slot value)) = ⊥
IsCalled (AsksFor (Call target method arguments)) = Unit {0}
IsCalled (HasEnded outcome) = ⊥

called : (g : Setting) (t : Option Living) (at : Stand) → first_refusal (check_parked g t (Some at)) ≡ None → IsCalled at
called g t Runs e = absurd (cc)
called g t (AsksFor (Create class)) e = let h = passes (fits_call g (Create class)) WrongKind [] (passes (holds_op g t (Create class)) NotHeld (refuse_if (not (fits_call g (Create class))) WrongKind) e).1 in absurd (false≢true h.0)
called g t (AsksFor (Get object slot)) e =
    let h = passes (fits_call g (Get object slot)) WrongKind [] (passes (holds_op g t (Get object slot)) NotHeld (refuse_if (not (fits_call g (Get object slot))) WrongKind) e).1 in absurd (false≢true h.0)
called g t (AsksFor (Put object slot value)) e =
    let h = passes (fits_call g (Put object slot value)) WrongKind [] (passes (holds_op g t (Put object slot value)) NotHeld (refuse_if (not (fits_call g (Put object slot value))) WrongKind) e).1 in absurd (false≢true h.0)
called g t (AsksFor (Call target method arguments)) e = tt
called g t (HasEnded outcome) e = absurd (cc)

pub record FoundCalling (s : State) (core : SpaceCore) (hand : Hand) : Type 0 where
  pub found : Found s core hand
  pub calls : IsCalled (stand (steps hand.made found.living.task))

pub found-park : (g : Setting) (s : State) (core : SpaceCore) (hand : Hand) → refusal g (lent_as s hand (lent_ids core)) s (Parked hand.id hand.made) ≡ None → FoundCalling s core hand
unfolding refusal
found-park g s core hand e =
    let first = holds-first (is_worn s && true) (is_in_hand (lent_as s hand (lent_ids core)) s hand.id) NotLent (check_parked g (task_at s hand.id) (stand_after hand.made (task_at s hand.id))) e in
    let found = found-in s core hand first.0 in
    record {
      found = found;
      calls = called g (Some found.living) (stand (steps hand.made found.living.task))
          (subst (λ (o : Option Living). first_refusal (check_parked g o (stand_after hand.made o)) ≡ None) found.there first.1);
    }

-- its end
abbrev pub IsEnded : Stand → Type 0
IsEnded Runs = ⊥
IsEnded (AsksFor op) = ⊥
IsEnded (HasEnded outcome) = Unit {0}

ended : (t : Option Living) (at : Stand) → first_refusal (check_finished t (Some at)) ≡ None → IsEnded at
ended t Runs e = absurd (cc)
ended t (AsksFor op) e = absurd (cc)
ended t (HasEnded outcome) e = tt

pub record FoundEnded (s : State) (core : SpaceCore) (hand : Hand) : Type 0 where
  pub found : Found s core hand
  pub ends : IsEnded (stand (steps hand.made found.living.task))

pub found-finish : (g : Setting) (s : State) (core : SpaceCore) (hand : Hand) → refusal g (lent_as s hand (lent_ids core)) s (Finished hand.id hand.made) ≡ None → FoundEnded s core hand
unfolding refusal
found-finish g s core hand e =
    let first = holds-first (is_worn s && true) (is_in_hand (lent_as s hand (lent_ids core)) s hand.id) NotLent (check_finished (task_at s hand.id) (stand_after hand.made (task_at s hand.id))) e in
    let found = found-in s core hand first.0 in
    record {
      found = found;
      ends = ended (Some found.living) (stand (steps hand.made found.living.task))
          (subst (λ (o : Option Living). first_refusal (check_finished o (stand_after hand.made o)) ≡ None) found.there first.1);
    }

-- ---- where it stands

-- the point to which its record and its own instructions bring it
pub found-task : (g : Setting) (h : List Event) (core : SpaceCore) (hand : Hand) → (f : Found (state_of g h) core hand) → steps hand.made f.living.task ≡ task_of g hand
found-task g h core hand f =
    let t = f.living in
    let given : t.given ≡ turned hand.past.given = sym (turned-twice t.given) ∙ ap (λ (r : Recorded). turned r.given) f.past in
    ap (steps hand.made) (record-is g h hand.id t f.there ∙ ap (λ b. lent_if b (point g t)) f.waits ∙ (λ j. steps (f.counted j) (replayed g (f.past j).began (given j))))

pub found-now : (g : Setting) (h : List Event) (core : SpaceCore) (hand : Hand) (now : Living) → (f : Found (state_of g h) core hand) → IsNow g hand now
    → after_steps hand.made f.living ≡ as_task f.living.id f.living.origin now
found-now g h core hand now f is =
    let t = f.living in
    let task = found-task g h core hand f ∙ sym is.task in
    let past : recorded_in t ≡ recorded_in now = f.past ∙ sym is.past in
    let given : t.given ≡ now.given = sym (turned-twice t.given) ∙ ap (λ (r : Recorded). turned r.given) past ∙ turned-twice now.given in
    let waits : t.waits ≡ now.waits = f.waits ∙ sym is.ready in
    let counted : t.steps + hand.made ≡ now.steps = ap (λ k. k + hand.made) f.counted ∙ sym is.counted in
    λ j. record { id = t.id; origin = t.origin; waits = waits j; task = task j; began = (past j).began; given = given j; steps = counted j }

pub now-found : (g : Setting) (h : List Event) (core : SpaceCore) (hand : Hand) → (f : Found (state_of g h) core hand) → IsNow g hand (after_steps hand.made f.living)
now-found g h core hand f = record { ready = f.waits; past = f.past; counted = ap (λ k. k + hand.made) f.counted; task = found-task g h core hand f }
