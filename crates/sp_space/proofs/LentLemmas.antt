-- The tasks that a core lends; a task in hand beside the living one; and that of an event of a lent task it matters alone whether that task is lent.
use Rattle.std.proofs.Common.{◌≡◌, ℕ, Bool, true, false, cond, nat_eq, List, [], ◌∷◌, ◌++◌, Option, None, Some, refl, sym, ap, subst, ◌∙◌}
use Rattle.std.specs.Prelude.{not, is_some, ◌==◌, ◌&&◌, ◌||◌, option_map, unwrap_or}
use Rattle.std.specs.List.{list_any}
use Rattle.std.proofs.lemmas.Bool.{eq-eqb, eqb-true, false≢true}
use Rattle.sp_living.specs.Hands.{task_of}
use Rattle.sp_living.specs.Views.{Seen, recorded_in}
use Rattle.sp_living.proofs.HandLemmas as living
use Rattle.sp_rules.specs.Behaviours.{Op}
use Rattle.sp_rules.specs.Classes.{Setting}
use Rattle.sp_rules.specs.Events.{Committed, Parked, GivenBack, Finished}
use Rattle.sp_rules.specs.Refusals.{NotHeld, NotLent, WornOut, check_committed, check_finished, check_parked, first_refusal, holds_op, is_worn, refusal, refuse_if, stand_after}
use Rattle.sp_rules.specs.State.{State, Living, ready_at, task_at}
use Rattle.sp_rules.specs.Tasks.{steps}
use Rattle.sp_tasks.specs.Behaviours.{op_of}
use Rattle.sp_tasks.specs.Rows.{Hand, TaskRow, row_of}
use Rattle.sp_tasks.specs.Same.{is_recorded}
use Rattle.sp_tasks.specs.declared.behaviour.Op.{Op as Asked}
use Rattle.sp_tasks.proofs.SameLemmas.{and-left, record-itself}
use Rattle.sp_core.specs.Cores.{IsCore, Lends, has_lent, is_historys, is_lent, lends, lent_as}
use Rattle.sp_core.specs.Hands.{committed, finished, fits, given_back, parked}
use Rattle.sp_core.specs.declared.lent_task.LentTask.{LentTask}
use Rattle.sp_core.specs.declared.space_core.SpaceCore.{SpaceCore}

-- ---- which tasks are lent

abbrev flag : Option TaskRow → Bool
flag o = unwrap_or (option_map (λ (row : TaskRow). row.lent) o) false

-- the ids of rows of which this is so
abbrev those : (ℕ → Bool) → List (ℕ × TaskRow) → List ℕ
those is [] = []
those is (e ∷ es) = cond (is e.0) (e.0 ∷ those is es) (those is es)

none-at : (b c : Bool) → c ≡ false → cond b c false ≡ c
none-at true c e = refl
none-at false c e = sym e

any-in : (is : ℕ → Bool) (id : ℕ) (es : List (ℕ × TaskRow)) → list_any (◌==◌ id) (those is es) ≡ cond (is_some (row_of id es)) (is id) false
any-in is id [] = refl
any-in is id (e ∷ es) =
    elim (nat_eq id e.0) as (λ b. nat_eq id e.0 ≡ b → list_any (◌==◌ id) (cond (is e.0) (e.0 ∷ those is es) (those is es)) ≡ cond (is_some (cond b (Some e.1) (row_of id es))) (is id) false) [
      | true ↦ λ here.
          let same : is id ≡ is e.0 = ap is (eqb-true id e.0 here) in
          elim (is e.0) as (λ b. is e.0 ≡ b → list_any (◌==◌ id) (cond b (e.0 ∷ those is es) (those is es)) ≡ is id) [
            | true ↦ λ flagged. ap (λ b. b || list_any (◌==◌ id) (those is es)) here ∙ sym (same ∙ flagged)
            | false ↦ λ other. any-in is id es ∙ none-at (is_some (row_of id es)) (is id) (same ∙ other)
          ] refl
      | false ↦ λ apart.
          elim (is e.0) as (λ b. list_any (◌==◌ id) (cond b (e.0 ∷ those is es) (those is es)) ≡ cond (is_some (row_of id es)) (is id) false) [
            | true ↦ ap (λ b. b || list_any (◌==◌ id) (those is es)) apart ∙ any-in is id es
            | false ↦ any-in is id es
          ]
    ] refl

flagged : (o : Option TaskRow) → cond (is_some o) (flag o) false ≡ flag o
flagged None = refl
flagged (Some row) = refl

abbrev pub lent_ids : SpaceCore → List ℕ
lent_ids core = those (is_lent core) core.state.living.tasks.rows

-- there is a list of them
pub lends-those : (core : SpaceCore) → Lends core (lent_ids core)
lends-those core id = any-in (is_lent core) id core.state.living.tasks.rows ∙ flagged (row_of id core.state.living.tasks.rows)

-- ---- a task in hand

pub record Lent (g : Setting) (s : State) (core : SpaceCore) (hand : Hand) : Type 0 where
  pub living : Living
  pub there : task_at s hand.id ≡ Some living
  pub ready : ready_at s hand.id ≡ Some living
  pub waits : living.waits ≡ false
  pub past : recorded_in living ≡ hand.past
  pub counted : living.steps ≡ hand.steps
  pub stands : steps hand.made living.task ≡ task_of g hand
  pub here : list_any (◌==◌ hand.id) (lent_ids core) ≡ true
  pub lent : lent_as s hand (lent_ids core) ≡ lent_ids core

itself : (n : ℕ) → (n == n) ≡ true
itself n = eq-eqb n n refl

pub lent-hand : (g : Setting) (s : State) (core : SpaceCore) (hand : LentTask) → IsCore g s core → has_lent core hand ≡ true → Lent g s core hand.task
lent-hand g s core hand is own =
    let h = living.taken g s core.state.living hand.task is.state.living (and-left (lends core hand.task) (fits core.spare hand.task hand.twin) own) in
    let past : recorded_in h.living ≡ hand.task.past = ap (λ (x : Seen). x.past) (sym h.same) ∙ h.past in
    let counted : h.living.steps ≡ hand.task.steps = ap (λ (x : Seen). x.steps) (sym h.same) ∙ h.steps in
    let historys : is_historys (ready_at s hand.task.id) hand.task ≡ true =
    ap (λ (o : Option Living). is_historys o hand.task) h.ready
    ∙ (λ j. (counted j == hand.task.steps) && is_recorded (past j) hand.task.past) ∙ ap (λ b. b && is_recorded hand.task.past hand.task.past) (itself hand.task.steps) ∙ record-itself hand.task.past in
    record {
      living = h.living;
      there = h.there;
      ready = h.ready;
      waits = h.waits;
      past = past;
      counted = counted;
      stands = living.task-is g s core.state.living hand.task is.state.living h;
      here = lends-those core hand.task.id ∙ ap flag h.row-is ∙ h.lent;
      lent = ap (λ b. cond b (lent_ids core) []) historys;
    }

-- ---- refusals

-- whether a task is lent, is all that an event of it asks of the list
alone : (id : ℕ) (lent : List ℕ) → list_any (◌==◌ id) lent ≡ true → list_any (◌==◌ id) lent ≡ list_any (◌==◌ id) (id ∷ [])
alone id lent here = here ∙ sym (ap (λ b. b || false) (itself id))

pub finish-alone : (g : Setting) (s : State) (core : SpaceCore) (hand : Hand) → Lent g s core hand → refusal g (lent_as s hand (lent_ids core)) s (finished hand) ≡ refusal g (hand.id ∷ []) s (finished hand)
unfolding refusal
finish-alone g s core hand l =
    ap (λ (lent : List ℕ). refusal g lent s (finished hand)) l.lent
    ∙ ap (λ b. cond (is_worn s && true) (Some WornOut) (first_refusal (refuse_if (not (b && is_some (ready_at s hand.id))) NotLent ++ check_finished (task_at s hand.id) (stand_after hand.made (task_at s hand.id))))) (alone hand.id (lent_ids core) l.here)

pub park-alone : (g : Setting) (s : State) (core : SpaceCore) (hand : Hand) → Lent g s core hand → refusal g (lent_as s hand (lent_ids core)) s (parked hand) ≡ refusal g (hand.id ∷ []) s (parked hand)
unfolding refusal
park-alone g s core hand l =
    ap (λ (lent : List ℕ). refusal g lent s (parked hand)) l.lent
    ∙ ap (λ b. cond (is_worn s && true) (Some WornOut) (first_refusal (refuse_if (not (b && is_some (ready_at s hand.id))) NotLent ++ check_parked g (task_at s hand.id) (stand_after hand.made (task_at s hand.id))))) (alone hand.id (lent_ids core) l.here)

pub back-alone : (g : Setting) (s : State) (core : SpaceCore) (hand : Hand) → Lent g s core hand → refusal g (lent_as s hand (lent_ids core)) s (given_back hand) ≡ refusal g (hand.id ∷ []) s (given_back hand)
unfolding refusal
back-alone g s core hand l =
    ap (λ (lent : List ℕ). refusal g lent s (given_back hand)) l.lent
    ∙ ap (λ b. cond (is_worn s && false) (Some WornOut) (first_refusal (refuse_if (not (b && is_some (ready_at s hand.id))) NotLent))) (alone hand.id (lent_ids core) l.here)

-- one that comes back without an instruction is not refused
unrefused : (worn here ready : Bool) → here ≡ true → ready ≡ true → cond (worn && false) (Some WornOut) (first_refusal (refuse_if (not (here && ready)) NotLent)) ≡ None
unrefused true true true here ready = refl
unrefused false true true here ready = refl
unrefused worn false ready here some = absurd (false≢true here)
unrefused worn true false here some = absurd (false≢true some)

-- how many instructions it has made since, does not matter to that
historys-same : (o : Option Living) (hand after : Hand) → after.steps ≡ hand.steps → after.past ≡ hand.past → is_historys o after ≡ is_historys o hand
historys-same None hand after counted past = refl
historys-same (Some t) hand after counted past = λ j. (t.steps == counted j) && is_recorded (recorded_in t) (past j)

pub back-taken : (g : Setting) (s : State) (core : SpaceCore) (hand after : Hand) → Lent g s core hand → after ≡ record hand { made = 0 } → refusal g (lent_as s after (lent_ids core)) s (given_back after) ≡ None
unfolding refusal
back-taken g s core hand after l same =
    ap (λ (x : Hand). refusal g (lent_as s x (lent_ids core)) s (given_back x)) same
    ∙ ap (λ b. refusal g (cond b (lent_ids core) []) s (given_back (record hand { made = 0 }))) (historys-same (ready_at s hand.id) hand (record hand { made = 0 }) refl refl)
    ∙ ap (λ (lent : List ℕ). refusal g lent s (given_back (record hand { made = 0 }))) l.lent
    ∙ unrefused (is_worn s) (list_any (◌==◌ hand.id) (lent_ids core)) (is_some (ready_at s hand.id)) l.here (ap is_some l.ready)

pub commit-alone : (g : Setting) (s : State) (core : SpaceCore) (hand : Hand) (op : Asked) → Lent g s core hand → refusal g (lent_as s hand (lent_ids core)) s (committed hand op) ≡ refusal g (hand.id ∷ []) s (committed hand op)
unfolding refusal
commit-alone g s core hand op l =
    ap (λ (lent : List ℕ). refusal g lent s (committed hand op)) l.lent
    ∙ ap (λ b. cond (is_worn s && true) (Some WornOut) (first_refusal (refuse_if (not (b && is_some (ready_at s hand.id))) NotLent
    ++ (refuse_if (not (holds_op g (task_at s hand.id) (op_of op))) NotHeld ++ check_committed g s (op_of op) (stand_after hand.made (task_at s hand.id)))))) (alone hand.id (lent_ids core) l.here)
