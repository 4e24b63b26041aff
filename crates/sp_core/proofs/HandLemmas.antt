-- Tasks in hand: whether they are lent, where they stand, and why their events are refused.
use Rattle.std.proofs.Common.{◌≡◌, ℕ, Bool, true, false, cond, List, [], ◌∷◌, ◌++◌, Option, None, Some, refl, sym, ap, subst, ◌∙◌}
use Rattle.std.specs.Prelude.{not, is_some, ◌==◌, ◌&&◌, ◌||◌, option_and_then, option_map, unwrap_or}
use Rattle.std.specs.List.{list_all, list_any}
use Rattle.std.proofs.lemmas.Bool.{eq-eqb, false≢true}
use Rattle.space_ids.specs.declared.ids.ObjId.{ObjId}
use Rattle.space_ids.specs.declared.ids.Ref.{Ref}
use Rattle.space_ids.specs.declared.value.Value.{Value}
use Rattle.sp_events.specs.FaultNames.{Refuses, core_fault_number}
use Rattle.sp_events.specs.declared.fault.CoreFault.{CoreFault}
use Rattle.sp_events.specs.declared.fault.CoreFault.TheVariants as fault
use Rattle.sp_rules.specs.Behaviours.{Op, Create, Get, Put, Call, Outcome}
use Rattle.sp_rules.specs.Classes.{Setting}
use Rattle.sp_rules.specs.Events.{Event, Committed, Finished, GivenBack, Parked}
use Rattle.sp_rules.specs.References.{is_id_in, is_reference_in, own_ids, reference_of, references_in, references_of}
use Rattle.sp_rules.specs.Refusals as Refusals
use Rattle.sp_rules.specs.Refusals.{Check, NotHeld, NotLent, WornOut, WrongKind, checks, check_committed, check_finished, check_parked, first_refusal, fits_call, holds_op, is_give_back, is_worn, refusal, refusal_number, refuse_if, result_of, stand_after, stands_at}
use Rattle.sp_rules.specs.State.{State, Living, ready_at, task_at, that_is_ready}
use Rattle.sp_rules.specs.Tasks.{Stand, Runs, AsksFor, HasEnded, stand, steps}
use Rattle.sp_tasks.specs.Behaviours.{stand_of}
use Rattle.sp_tasks.specs.Rows as rows
use Rattle.sp_tasks.specs.Rows.{Hand, TaskRow, row_holds, row_holds_object, row_holds_op, row_of}
use Rattle.sp_tasks.specs.Same.{is_recorded}
use Rattle.sp_tasks.specs.declared.behaviour.Op.{Op as Asked}
use Rattle.sp_tasks.specs.declared.behaviour.Outcome.{Outcome as End}
use Rattle.sp_tasks.specs.declared.behaviour.Stand.{Stand as Told}
use Rattle.sp_tasks.specs.declared.behaviour.Stand.TheVariants as told
use Rattle.sp_tasks.proofs.HeldLemmas.{all_values, any_own}
use Rattle.sp_tasks.proofs.SameLemmas.{and-left, and-right, record-itself}
use Rattle.sp_living.specs.Hands.{StandsAt, task_of}
use Rattle.sp_living.specs.Views.{Seen, recorded_in, seen, seen_row}
use Rattle.sp_living.proofs.HandLemmas.{InHand, taken, task-is}
use Rattle.sp_living.proofs.TaskLemmas.{matched}
use Rattle.sp_core.specs.Cores.{IsCore, Lends, is_historys, is_lent, lends, lent_as}
use Rattle.sp_core.specs.Hands.{finished, parked}
use Rattle.sp_core.specs.declared.space_core.SpaceCore.{SpaceCore}
use Rattle.sp_core.proofs.CheckLemmas.{refusal-is, refused-some}

only : {A : Type 0} (x y : A) → Some x ≡ Some y → x ≡ y
only x y h = ap (λ o. unwrap_or o x) h

and-false : (t : Bool) → (t && false) ≡ false
and-false true = refl
and-false false = refl

-- ---- rows and living tasks

-- the row of a task shows what is seen of it
pub at-row : (g : Setting) (s : State) (core : SpaceCore) (id : ℕ) → IsCore g s core
    → option_map (λ (row : TaskRow). seen_row (id, row)) (row_of id core.state.living.tasks.rows) ≡ option_map seen (task_at s id)
at-row g s core id is = matched g s.tasks_made s.tasks core.state.living.tasks id is.state.living.tasks

-- ---- whether a task is lent

pub in-its-hand : (g : Setting) (s : State) (core : SpaceCore) (hand : Hand) → IsCore g s core → lends core hand ≡ true → InHand g s core.state.living hand
in-its-hand g s core hand is here = taken g s core.state.living hand is.state.living here

pick : (id : ℕ) (b flag : Bool) (lent : List ℕ) → list_any (◌==◌ id) lent ≡ flag → (flag && b) ≡ (list_any (◌==◌ id) (cond b lent []) && true)
pick id true flag lent l = ap (λ x. x && true) (sym l)
pick id false flag lent l = and-false flag

hand-by : (id : ℕ) (o : Option TaskRow) (p : Option Living) (hand : Hand) (lent : List ℕ) → option_map (λ (row : TaskRow). seen_row (id, row)) o ≡ option_map seen p
    → list_any (◌==◌ id) lent ≡ unwrap_or (option_map (λ (row : TaskRow). row.lent) o) false → ((t : Living) → p ≡ Some t → t.waits ≡ true → rows.is_in_hand o hand ≡ false)
    → rows.is_in_hand o hand ≡ (list_any (◌==◌ id) (cond (is_historys (that_is_ready p) hand) lent []) && is_some (that_is_ready p))
hand-by id None None hand lent e l idle = refl
hand-by id None (Some t) hand lent e l idle = cc
hand-by id (Some row) None hand lent e l idle = cc
hand-by id (Some row) (Some t) hand lent e l idle =
    elim t.waits as (λ w. t.waits ≡ w → rows.is_in_hand (Some row) hand ≡ (list_any (◌==◌ id) (cond (is_historys (cond w None (Some t)) hand) lent []) && is_some (cond w None (Some t)))) [
      | true ↦ λ waits. idle t refl waits
      | false ↦ λ goes.
          let same : seen_row (id, row) ≡ seen t = only (seen_row (id, row)) (seen t) e in
          pick id (row.steps == hand.steps && is_recorded row.past hand.past) row.lent lent l
          ∙ (λ j. list_any (◌==◌ id) (cond ((same j).steps == hand.steps && is_recorded (same j).past hand.past) lent []) && true)
    ] refl

-- whether a task in hand is lent, as the rules tell
pub in-hand : (g : Setting) (s : State) (core : SpaceCore) (hand : Hand) (lent : List ℕ) → IsCore g s core → Lends core lent
    → lends core hand ≡ Refusals.is_in_hand (lent_as s hand lent) s hand.id
in-hand g s core hand lent is lending =
    hand-by hand.id (row_of hand.id core.state.living.tasks.rows) (task_at s hand.id) hand lent (at-row g s core hand.id is) (lending hand.id)
    (λ t there waits. elim (lends core hand) as (λ b. lends core hand ≡ b → b ≡ false) [
      | true ↦ λ here.
          let h = in-its-hand g s core hand is here in
          let same : h.living ≡ t = only h.living t (sym h.there ∙ there) in
          sym waits ∙ ap (λ (u : Living). u.waits) (sym same) ∙ h.waits
      | false ↦ λ away. refl
    ] refl)

-- ---- refusals of their events: 98 first, then 91, then the others

first-of-hand : (t : Bool) (rest : List Check) → first_refusal (refuse_if (not t) NotLent ++ rest) ≡ cond t (first_refusal rest) (Some NotLent)
first-of-hand true rest = refl
first-of-hand false rest = refl

pub hand-refusal : (g : Setting) (s : State) (core : SpaceCore) (hand : Hand) (lent : List ℕ) (e : Event) (rest : List Check) (worn here : Bool) → IsCore g s core → Lends core lent → is_give_back e ≡ false
    → checks g (lent_as s hand lent) s e ≡ refuse_if (not (Refusals.is_in_hand (lent_as s hand lent) s hand.id)) NotLent ++ rest
    → worn ≡ is_worn s → here ≡ lends core hand
    → refusal g (lent_as s hand lent) s e ≡ cond worn (Some WornOut) (cond here (first_refusal rest) (Some NotLent))
hand-refusal g s core hand lent e rest worn here is lending other check w h =
    refusal-is g (lent_as s hand lent) s e other
    ∙ (λ j. cond (sym w j) (Some WornOut) (first_refusal (check j)))
    ∙ ap (λ r. cond worn (Some WornOut) r) (first-of-hand (Refusals.is_in_hand (lent_as s hand lent) s hand.id) rest
    ∙ ap (λ b. cond b (first_refusal rest) (Some NotLent)) (sym (h ∙ in-hand g s core hand lent is lending)))

-- the same by number
pub numbers : (worn here : Bool) (r : Option Refusals.Refusal) → option_map refusal_number (cond worn (Some WornOut) (cond here r (Some NotLent))) ≡ cond worn (Some 98) (cond here (option_map refusal_number r) (Some 91))
numbers true here r = refl
numbers false true r = refl
numbers false false r = refl

pub hand-number : (g : Setting) (s : State) (core : SpaceCore) (hand : Hand) (lent : List ℕ) (e : Event) (rest : List Check) (worn here : Bool) → IsCore g s core → Lends core lent → is_give_back e ≡ false
    → checks g (lent_as s hand lent) s e ≡ refuse_if (not (Refusals.is_in_hand (lent_as s hand lent) s hand.id)) NotLent ++ rest
    → worn ≡ is_worn s → here ≡ lends core hand
    → option_map refusal_number (refusal g (lent_as s hand lent) s e) ≡ cond worn (Some 98) (cond here (option_map refusal_number (first_refusal rest)) (Some 91))
hand-number g s core hand lent e rest worn here is lending other check w h =
    ap (option_map refusal_number) (hand-refusal g s core hand lent e rest worn here is lending other check w h) ∙ numbers worn here (first_refusal rest)

-- ---- a task that is not lent: 98, else 91

unlent-refused : (g : Setting) (s : State) (core : SpaceCore) (hand : Hand) (lent : List ℕ) (e : Event) (rest : List Check) (worn : Bool) (f : CoreFault) → IsCore g s core → Lends core lent → is_give_back e ≡ false
    → checks g (lent_as s hand lent) s e ≡ refuse_if (not (Refusals.is_in_hand (lent_as s hand lent) s hand.id)) NotLent ++ rest
    → worn ≡ is_worn s → lends core hand ≡ false → core_fault_number f ≡ cond worn (Some 98) (Some 91) → Refuses (refusal g (lent_as s hand lent) s e) f
unlent-refused g s core hand lent e rest worn f is lending other check w apart number =
    refused-some _ f (hand-number g s core hand lent e rest worn false is lending other check w (sym apart) ∙ sym number)

pub unlent-commit : (g : Setting) (s : State) (core : SpaceCore) (hand : Hand) (lent : List ℕ) (op : Op) (worn : Bool) (f : CoreFault) → IsCore g s core → Lends core lent → worn ≡ is_worn s → lends core hand ≡ false
    → core_fault_number f ≡ cond worn (Some 98) (Some 91) → Refuses (refusal g (lent_as s hand lent) s (Committed hand.id hand.made op)) f
unlent-commit g s core hand lent op worn f is lending w apart number =
    unlent-refused g s core hand lent (Committed hand.id hand.made op) (refuse_if (not (holds_op g (task_at s hand.id) op)) NotHeld ++ check_committed g s op (stand_after hand.made (task_at s hand.id))) worn f is lending refl refl w apart number

pub unlent-park : (g : Setting) (s : State) (core : SpaceCore) (hand : Hand) (lent : List ℕ) (worn : Bool) (f : CoreFault) → IsCore g s core → Lends core lent → worn ≡ is_worn s → lends core hand ≡ false
    → core_fault_number f ≡ cond worn (Some 98) (Some 91) → Refuses (refusal g (lent_as s hand lent) s (Parked hand.id hand.made)) f
unlent-park g s core hand lent worn f is lending w apart number =
    unlent-refused g s core hand lent (Parked hand.id hand.made) (check_parked g (task_at s hand.id) (stand_after hand.made (task_at s hand.id))) worn f is lending refl refl w apart number

pub unlent-end : (g : Setting) (s : State) (core : SpaceCore) (hand : Hand) (lent : List ℕ) (worn : Bool) (f : CoreFault) → IsCore g s core → Lends core lent → worn ≡ is_worn s → lends core hand ≡ false
    → core_fault_number f ≡ cond worn (Some 98) (Some 91) → Refuses (refusal g (lent_as s hand lent) s (Finished hand.id hand.made)) f
unlent-end g s core hand lent worn f is lending w apart number =
    unlent-refused g s core hand lent (Finished hand.id hand.made) (check_finished (task_at s hand.id) (stand_after hand.made (task_at s hand.id))) worn f is lending refl refl w apart number

-- ---- given back

not-worn : (worn : Bool) (r : Option Refusals.Refusal) → cond (worn && false) (Some WornOut) r ≡ r
not-worn true r = refl
not-worn false r = refl

pub back-refusal : (g : Setting) (s : State) (core : SpaceCore) (hand : Hand) (lent : List ℕ) (here : Bool) → IsCore g s core → Lends core lent → here ≡ lends core hand
    → refusal g (lent_as s hand lent) s (GivenBack hand.id hand.made) ≡ cond here None (Some NotLent)
unfolding refusal
back-refusal g s core hand lent here is lending h =
    not-worn (is_worn s) (cond (not (Refusals.is_in_hand (lent_as s hand lent) s hand.id)) (Some NotLent) None)
    ∙ ap (λ b. cond (not b) (Some NotLent) None) (sym (h ∙ in-hand g s core hand lent is lending))
    ∙ elim here as (λ b. cond (not b) (Some NotLent) None ≡ cond b None (Some NotLent)) [ true ↦ refl | false ↦ refl ]

pub not-lent : (r : Option Refusals.Refusal) → r ≡ Some NotLent → Refuses r fault.NotLent
not-lent r is = subst (λ (r : Option Refusals.Refusal). Refuses r fault.NotLent) (sym is) refl

-- ---- where it stands

pub stands : (g : Setting) (s : State) (core : SpaceCore) (hand : Hand) (at : Told) → IsCore g s core → (h : InHand g s core.state.living hand) → StandsAt g hand at
    → stand (steps hand.made h.living.task) ≡ stand_of at
stands g s core hand at is h stood = ap stand (task-is g s core.state.living hand is.state.living h) ∙ stood

-- whether it is at an operation on the store
pub op-stands : (g : Setting) (s : State) (core : SpaceCore) (hand : Hand) (at : Told) (op : Op) → IsCore g s core → (h : InHand g s core.state.living hand) → StandsAt g hand at
    → stands_at op (stand_after hand.made (task_at s hand.id)) ≡ stands_at op (Some (stand_of at))
op-stands g s core hand at op is h stood =
    ap (λ (o : Option Living). stands_at op (stand_after hand.made o)) h.there ∙ ap (λ (x : Stand). stands_at op (Some x)) (stands g s core hand at is h stood)

-- ---- an end

finish-checked : (g : Setting) (s : State) (core : SpaceCore) (hand : Hand) (at : Told) → IsCore g s core → (h : InHand g s core.state.living hand) → StandsAt g hand at
    → check_finished (task_at s hand.id) (stand_after hand.made (task_at s hand.id)) ≡ check_finished (Some h.living) (Some (stand_of at))
finish-checked g s core hand at is h stood =
    ap (λ (o : Option Living). check_finished o (stand_after hand.made o)) h.there ∙ ap (λ (x : Stand). check_finished (Some h.living) (Some x)) (stands g s core hand at is h stood)

pub not-ended : (g : Setting) (s : State) (core : SpaceCore) (hand : Hand) (at : Told) → IsCore g s core → (h : InHand g s core.state.living hand) → StandsAt g hand at → ((outcome : End) → at ≡ told.HasEnded outcome → ⊥)
    → first_refusal (check_finished (task_at s hand.id) (stand_after hand.made (task_at s hand.id))) ≡ Some WrongKind
not-ended g s core hand at is h stood never = ap first_refusal (finish-checked g s core hand at is h stood) ∙ by at never
  where
    by : (at : Told) → ((outcome : End) → at ≡ told.HasEnded outcome → ⊥) → first_refusal (check_finished (Some h.living) (Some (stand_of at))) ≡ Some WrongKind
    by told.Runs never = refl
    by (told.AsksFor op) never = refl
    by (told.HasEnded outcome) never = absurd (never outcome refl)

pub has-ended : (g : Setting) (s : State) (core : SpaceCore) (hand : Hand) (at : Told) (outcome : Outcome) (held : Bool) → IsCore g s core → (h : InHand g s core.state.living hand) → StandsAt g hand at → stand_of at ≡ HasEnded outcome
    → held ≡ row_holds h.row (references_in (result_of outcome))
    → first_refusal (check_finished (task_at s hand.id) (stand_after hand.made (task_at s hand.id))) ≡ cond held None (Some NotHeld)
has-ended g s core hand at outcome held is h stood ends holding =
    let refs = references_in (result_of outcome) in
    ap first_refusal (finish-checked g s core hand at is h stood) ∙ ap (λ (x : Stand). first_refusal (check_finished (Some h.living) (Some x))) ends
    ∙ ap (λ b. cond (not b) (Some NotHeld) None) ((λ j. list_all (is_reference_in ((sym h.same j).held)) refs) ∙ sym holding)
    ∙ elim held as (λ b. cond (not b) (Some NotHeld) None ≡ cond b None (Some NotHeld)) [ true ↦ refl | false ↦ refl ]

-- ---- what it asks for

-- what a task holds, as its row tells
pub op-held : (g : Setting) (s : State) (core : SpaceCore) (hand : Hand) (op : Op) → IsCore g s core → (h : InHand g s core.state.living hand) → holds_op g (Some h.living) op ≡ row_holds_op core.id h.row op
op-held g s core hand op is h = by op
  where
    same : h.living.task.held ≡ h.row.held
    same = ap (λ (x : Seen). x.held) (sym h.same)

    object : (id : ObjId) → is_id_in (own_ids g.id h.living.task.held) id ≡ row_holds_object core.id h.row id
    object id = (λ j. is_id_in (own_ids (sym is.id j) (same j)) id) ∙ sym (any_own core.id id h.row.held)

    by : (op : Op) → holds_op g (Some h.living) op ≡ row_holds_op core.id h.row op
    by (Create class) = refl
    by (Get id slot) = object id
    by (Put id slot value) = λ j. object id j && list_all (is_reference_in (same j)) (reference_of value)
    by (Call target method arguments) = λ j. is_reference_in (same j) target && (ap (λ (held : List Ref). list_all (is_reference_in held) (flat arguments)) same ∙ sym (all_values h.row.held arguments)) j
      where
        flat : List Value → List Ref
        flat vs = references_of vs

pub op-holds : (g : Setting) (s : State) (core : SpaceCore) (hand : Hand) (op : Op) (held : Bool) → IsCore g s core → (h : InHand g s core.state.living hand) → held ≡ row_holds_op core.id h.row op → holds_op g (task_at s hand.id) op ≡ held
op-holds g s core hand op held is h holding = ap (λ (o : Option Living). holds_op g o op) h.there ∙ op-held g s core hand op is h ∙ sym holding

-- ---- a call

park-checked : (g : Setting) (s : State) (core : SpaceCore) (hand : Hand) (at : Told) → IsCore g s core → (h : InHand g s core.state.living hand) → StandsAt g hand at
    → check_parked g (task_at s hand.id) (stand_after hand.made (task_at s hand.id)) ≡ check_parked g (Some h.living) (Some (stand_of at))
park-checked g s core hand at is h stood =
    ap (λ (o : Option Living). check_parked g o (stand_after hand.made o)) h.there ∙ ap (λ (x : Stand). check_parked g (Some h.living) (Some x)) (stands g s core hand at is h stood)

-- the first of the reasons to refuse a call
pub call-refused : (g : Setting) (s : State) (core : SpaceCore) (hand : Hand) (at : Told) (op : Op) (held fits : Bool) → IsCore g s core → (h : InHand g s core.state.living hand) → StandsAt g hand at → stand_of at ≡ AsksFor op
    → held ≡ row_holds_op core.id h.row op → fits ≡ fits_call g op
    → first_refusal (check_parked g (task_at s hand.id) (stand_after hand.made (task_at s hand.id))) ≡ cond held (cond fits None (Some WrongKind)) (Some NotHeld)
call-refused g s core hand at op held fits is h stood asks holding fitting =
    ap first_refusal (park-checked g s core hand at is h stood) ∙ ap (λ (x : Stand). first_refusal (check_parked g (Some h.living) (Some x))) asks
    ∙ (λ j. first_refusal (refuse_if (not ((op-held g s core hand op is h ∙ sym holding) j)) NotHeld ++ refuse_if (not (sym fitting j)) WrongKind))
    ∙ cases held fits
  where
    cases : (a b : Bool) → first_refusal (refuse_if (not a) NotHeld ++ refuse_if (not b) WrongKind) ≡ cond a (cond b None (Some WrongKind)) (Some NotHeld)
    cases true true = refl
    cases true false = refl
    cases false b = refl

pub not-called : (g : Setting) (s : State) (core : SpaceCore) (hand : Hand) (at : Told) → IsCore g s core → (h : InHand g s core.state.living hand) → StandsAt g hand at → ((op : Asked) → at ≡ told.AsksFor op → ⊥)
    → first_refusal (check_parked g (task_at s hand.id) (stand_after hand.made (task_at s hand.id))) ≡ Some WrongKind
not-called g s core hand at is h stood never = ap first_refusal (park-checked g s core hand at is h stood) ∙ by at never
  where
    by : (at : Told) → ((op : Asked) → at ≡ told.AsksFor op → ⊥) → first_refusal (check_parked g (Some h.living) (Some (stand_of at))) ≡ Some WrongKind
    by told.Runs never = refl
    by (told.AsksFor op) never = absurd (never op refl)
    by (told.HasEnded outcome) never = refl

-- ---- which number counts

pub first-worn : (worn : Bool) (n : Option ℕ) → worn ≡ true → cond worn (Some 98) n ≡ Some 98
first-worn worn n w = ap (λ b. cond b (Some 98) n) w

pub first-other : (worn : Bool) (n : Option ℕ) → worn ≡ false → cond worn (Some 98) n ≡ n
first-other worn n w = ap (λ b. cond b (Some 98) n) w
