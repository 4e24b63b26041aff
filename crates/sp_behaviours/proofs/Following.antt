-- A task that follows a machine goes on following it: through each instruction, and through each reply that is due.
use Rattle.std.proofs.Common.{◌≡◌, ℕ, zero, suc, ◌+◌, Bool, true, false, List, [], ◌∷◌, length, ◌≤◌, refl, ap, sym, subst, ◌∙◌, arith, Option, Some, None}
use Rattle.std.specs.Prelude.{ℤ, drop, nat_le, option_map, if◌then◌else◌}
use Rattle.cls_link.specs.Links.{Links}
use Rattle.space_ids.specs.declared.ids.ClassId.{ClassId}
use Rattle.space_ids.specs.declared.ids.Ref.{Ref}
use Rattle.space_ids.specs.declared.value.Value.{Value}
use Rattle.space_ids.specs.declared.value.Value.TheVariants as value
use Rattle.sp_rules.specs.Behaviours as rules
use Rattle.sp_rules.specs.Classes.{Setting}
use Rattle.sp_rules.specs.References.{references_in, with_reference, with_references}
use Rattle.sp_rules.specs.Tasks as tasks
use Rattle.sp_rules.specs.Tasks.{Task}
use Rattle.vm_heap.specs.Heap.{Cell}
use Rattle.vm_heap.specs.References as heap
use Rattle.vm_heap.specs.References.{Table, row_for}
use Rattle.vm_heap.specs.Tagged.{Tagged, Fresh, Int, Null, ReferenceRow, Remote}
use Rattle.vm_act.specs.Next.{Next, On, Ends, Asks, Stuck}
use Rattle.vm_act.specs.Remote.{answered, leave_call, on_held, on_row, pop_receiver, push_result, without_arguments}
use Rattle.vm_act.specs.Steps.{go_on, on_top, push, where_true, with_operands}
use Rattle.vm_act.specs.declared.asked.Asked.{Asked}
use Rattle.vm_act.specs.declared.asked.Asked.TheVariants as asked
use Rattle.vm_act.specs.declared.asked.FieldValue.{FieldValue}
use Rattle.vm_act.specs.declared.asked.FieldValue.TheVariants as field
use Rattle.vm_act.specs.declared.asked.Reply.{Reply}
use Rattle.vm_act.specs.declared.asked.Reply.TheVariants as reply
use Rattle.vm_act.specs.declared.ending.Thrown.TheVariants as thrown
use Rattle.vm_act.specs.declared.machine.Machine.{Machine}
use Rattle.vm_step.specs.Steps as insns
use Rattle.vm_step.specs.Ends as ends
use Rattle.vm_step.specs.Ends.{End, Threw, ThrewObject, end_of}
use Rattle.vm_step.specs.Run.{State, Running, Waits, Over, Lost, after, answer, made, made_in, fuel_after, over, run, step, FitsFuel, IsDue, IsNeverStuck}
use Rattle.vm_step.specs.Task.{outcome_at}
use Rattle.vm_step.specs.declared.outcome.Outcome.{Outcome}
use Rattle.vm_step.specs.declared.outcome.Outcome.TheVariants as outcome
use Rattle.vm_step.proofs.Runs.{IsNeverStuck-answer, IsNeverStuck-step, IsQuiet, answered_quiet, at_once}
use Rattle.sp_behaviours.specs.Behaviours.{after_reply, asking, behaviour_of, by_next, by_reply, completed_by, op_at, reply_to, told, told_end, told_ending, told_some}
use Rattle.sp_behaviours.specs.Follows.{Follows, HoldsAs, HoldsAsked, PlaysOn, is_over, stand_before, stand_of, waiting}
use Rattle.sp_behaviours.proofs.Coming.{Comes, comes, stays-within}
use Rattle.sp_behaviours.proofs.OwnSteps.{IsGiven, answer-gives, answer-gives-back, answer-runs-out, answer-throws, answer-throws-lent, stand-is, step-asks, step-ended, step-ends, step-plain}
use Rattle.sp_behaviours.proofs.Stays.{Stays, copy-keeps, goes, pushes, step-stays}

-- ---- one instruction

hold-on : (g : Setting) (held later : List Ref) (table now : Table) → later ≡ held → now ≡ table → HoldsAs g held table → HoldsAs g later now
hold-on g held later table now same stays holds = record {
  rows = ap (λ (t : Table). t.rows) stays ∙ holds.rows ∙ sym same;
  own = ap (λ (t : Table). t.own) stays ∙ holds.own;
  limit = ap (λ (t : Table). t.limit) stays ∙ holds.limit;
  within = subst (λ rows. length rows ≤ g.limits.references) (sym same) holds.within;
}

over-follows : (links : Links) (g : Setting) (t : Task) (o : Option End) (fuel : ℕ) → t.behaviour ≡ rules.Over (told_ending links.classes o) → t.fuel ≡ fuel
    → IsNeverStuck links (over o fuel) → Follows links g t (over o fuel)
over-follows links g t None fuel b f safe = absurd (at_once links Lost safe)
over-follows links g t (Some end) fuel b f safe =
    record { depth = 0; behaviour = stand-is t (rules.Over (told_end links.classes end)) fuel b f; fuel = f; held = tt; calls = tt; never_stuck = safe }

-- a task with fuel is at an instruction: its tree is deeper than nothing
at-instruction : (links : Links) (t : Task) (m : Machine) (fuel depth : ℕ) → suc fuel ≤ depth → t.behaviour ≡ behaviour_of links depth m
    → (d : ℕ) × (fuel ≤ d) × (t.behaviour ≡ by_next links.classes m.heap.cells (behaviour_of links d) (insns.step links m))
unfolding behaviour_of
at-instruction links t m fuel zero le b = absurd (omega (arith, le))
at-instruction links t m fuel (suc d) le b = (d, omega (arith, le), b)

-- without fuel it has ended, however deep its tree is
spent-at : (links : Links) (m : Machine) (depth : ℕ) → tasks.stand_at (behaviour_of links depth m) 0 ≡ tasks.HasEnded rules.Spent
unfolding behaviour_of
spent-at links m zero = refl
spent-at links m (suc d) = by (insns.step links m)
  where
    by : (n : Next) → tasks.stand_at (by_next links.classes m.heap.cells (behaviour_of links d) n) 0 ≡ tasks.HasEnded rules.Spent
    by (On m') = refl
    by (Ends ending) = refl
    by (Asks op m') = refl
    by Stuck = refl

spent-stands : (links : Links) (t : Task) (m : Machine) (depth : ℕ) → t.behaviour ≡ behaviour_of links depth m → t.fuel ≡ 0 → tasks.stand t ≡ tasks.HasEnded rules.Spent
spent-stands links t m depth b f = stand-is t (behaviour_of links depth m) 0 b f ∙ spent-at links m depth

module _ (links : Links) (g : Setting) (t : Task) (m : Machine) (fuel depth : ℕ) (le : fuel ≤ depth) (f : t.fuel ≡ suc fuel) (holds : HoldsAs g t.held m.references) where
  next-follows : (n : Next) → t.behaviour ≡ by_next links.classes m.heap.cells (behaviour_of links depth) n → Stays links m.references n
      → IsNeverStuck links (after m.heap.cells n fuel) → Follows links g (tasks.step t) (after m.heap.cells n fuel)
  next-follows (On m') b stays safe =
      let e = step-plain t (behaviour_of links depth m') fuel b f in
      record {
        depth = depth;
        behaviour = (le, ap (λ (u : Task). u.behaviour) e);
        fuel = ap (λ (u : Task). u.fuel) e;
        held = hold-on g t.held (tasks.step t).held m.references m'.references (ap (λ (u : Task). u.held) e) stays holds;
        calls = tt;
        never_stuck = safe;
      }
  next-follows (Ends ending) b stays safe =
      let e = step-ends t (told_ending links.classes (end_of m.heap.cells ending)) fuel b f in
      over-follows links g (tasks.step t) (end_of m.heap.cells ending) fuel (ap (λ (u : Task). u.behaviour) e) (ap (λ (u : Task). u.fuel) e) safe
  next-follows (Asks op m') b stays safe =
      let e = step-asks t (op_at links.classes op m') (λ given. by_reply links.classes (behaviour_of links depth) op m' (completed_by op given)) fuel b f in
      let held : HoldsAs g (tasks.step t).held m'.references = hold-on g t.held (tasks.step t).held m.references m'.references (ap (λ (u : Task). u.held) e) stays.0 holds in
      record {
        depth = depth;
        behaviour = (le, ap (λ (u : Task). u.behaviour) e ∙ b);
        fuel = ap (λ (u : Task). u.fuel) e ∙ f;
        held = (held, subst (λ (rows : List Ref). HoldsAsked rows op) held.rows stays.1);
        calls = stays.2;
        never_stuck = safe;
      }
  next-follows Stuck b stays safe = absurd (at_once links Lost safe)

  next-made : (n : Next) → t.behaviour ≡ by_next links.classes m.heap.cells (behaviour_of links depth) n → IsNeverStuck links (after m.heap.cells n fuel)
      → (tasks.step t).made ≡ t.made + Rattle.vm_step.specs.Run.made_by n
  next-made (On m') b safe = ap (λ (u : Task). u.made) (step-plain t (behaviour_of links depth m') fuel b f)
  next-made (Ends ending) b safe = ap (λ (u : Task). u.made) (step-ends t (told_ending links.classes (end_of m.heap.cells ending)) fuel b f)
  next-made (Asks op m') b safe =
      let none : t.made ≡ t.made + 0 = omega arith in
      ap (λ (u : Task). u.made) (step-asks t (op_at links.classes op m') (λ given. by_reply links.classes (behaviour_of links depth) op m' (completed_by op given)) fuel b f) ∙ none
  next-made Stuck b safe = absurd (at_once links Lost safe)

-- the state after an instruction is never stuck either
safe-step : (links : Links) (m : Machine) (fuel : ℕ) → IsNeverStuck links (Running m (suc fuel)) → IsNeverStuck links (after m.heap.cells (insns.step links m) fuel)
unfolding step
safe-step links m fuel safe = IsNeverStuck-step links (Running m (suc fuel)) safe

-- an instruction that asks, and what is over, leave the task as it is
waits-still : (links : Links) (t : Task) (op : Asked) (m : Machine) (fuel depth : ℕ) → t.behaviour ≡ asking links.classes (behaviour_of links depth) op m → t.fuel ≡ suc fuel → tasks.step t ≡ t
waits-still links t op m fuel depth b f = step-asks t (op_at links.classes op m) (λ given. by_reply links.classes (behaviour_of links depth) op m (completed_by op given)) fuel b f

pub step-follows : (links : Links) (g : Setting) (t : Task) (s : State) → Follows links g t s → Follows links g (tasks.step t) (step links s)
unfolding step
step-follows links g t (Running m zero) f =
    let ended = spent-stands links t m f.depth f.behaviour.1 f.fuel in
    let e = step-ended t rules.Spent ended in
    record {
      depth = 0;
      behaviour = ap tasks.stand e ∙ ended;
      fuel = ap (λ (u : Task). u.fuel) e ∙ f.fuel;
      held = tt;
      calls = tt;
      never_stuck = IsNeverStuck-step links (Running m zero) f.never_stuck;
    }
step-follows links g t (Running m (suc fuel)) f =
    let at = at-instruction links t m fuel f.depth f.behaviour.0 f.behaviour.1 in
    next-follows links g t m fuel at.0 at.1 f.fuel f.held (insns.step links m) at.2 (step-stays links m) (IsNeverStuck-step links (Running m (suc fuel)) f.never_stuck)
step-follows links g t (Waits op m fuel) f =
    subst (λ (u : Task). Follows links g u (Waits op m fuel)) (sym (waits-still links t op m fuel f.depth f.behaviour.1 f.fuel)) f
step-follows links g t (Over end fuel) f =
    subst (λ (u : Task). Follows links g u (Over end fuel)) (sym (step-ended t (told_end links.classes end) f.behaviour)) f
step-follows links g t Lost f = absurd (at_once links Lost f.never_stuck)

pub steps-follow : (links : Links) (g : Setting) (t : Task) (s : State) (k : ℕ) → Follows links g t s → Follows links g (tasks.steps k t) (run links k s)
unfolding run tasks.steps
steps-follow links g t s zero f = f
steps-follow links g t s (suc k) f = steps-follow links g (tasks.step t) (step links s) k (step-follows links g t s f)

made-one : (links : Links) (g : Setting) (t : Task) (s : State) → Follows links g t s → (tasks.step t).made ≡ t.made + made_in links s
made-one links g t (Running m zero) f =
    let none : t.made ≡ t.made + 0 = omega arith in
    ap (λ (u : Task). u.made) (step-ended t rules.Spent (spent-stands links t m f.depth f.behaviour.1 f.fuel)) ∙ none
made-one links g t (Running m (suc fuel)) f =
    let at = at-instruction links t m fuel f.depth f.behaviour.0 f.behaviour.1 in
    next-made links g t m fuel at.0 at.1 f.fuel f.held (insns.step links m) at.2 (safe-step links m fuel f.never_stuck)
made-one links g t (Waits op m fuel) f =
    let none : t.made ≡ t.made + 0 = omega arith in ap (λ (u : Task). u.made) (waits-still links t op m fuel f.depth f.behaviour.1 f.fuel) ∙ none
made-one links g t (Over end fuel) f =
    let none : t.made ≡ t.made + 0 = omega arith in ap (λ (u : Task). u.made) (step-ended t (told_end links.classes end) f.behaviour) ∙ none
made-one links g t Lost f = absurd (at_once links Lost f.never_stuck)

pub steps-made : (links : Links) (g : Setting) (t : Task) (s : State) (k : ℕ) → Follows links g t s → (tasks.steps k t).made ≡ t.made + made links k s
unfolding made tasks.steps
steps-made links g t s zero f = omega arith
steps-made links g t s (suc k) f =
    let here : (tasks.step t).made ≡ t.made + made_in links s = made-one links g t s f in
    let more : (tasks.steps k (tasks.step t)).made ≡ (tasks.step t).made + made links k (step links s) = steps-made links g (tasks.step t) (step links s) k (step-follows links g t s f) in
    omega (arith, here, more)

-- a machine that may go on has not ended
not-over : (links : Links) (depth : ℕ) (m : Machine) → tasks.is_at_end (behaviour_of links depth m) ≡ false
unfolding behaviour_of
not-over links zero m = refl
not-over links (suc d) m = by (insns.step links m)
  where
    by : (n : Next) → tasks.is_at_end (by_next links.classes m.heap.cells (behaviour_of links d) n) ≡ false
    by (On m') = refl
    by (Ends ending) = refl
    by (Asks op m') = refl
    by Stuck = refl

-- an instruction of its own ends it where it ends the machine
pub ends-made : (links : Links) (g : Setting) (t : Task) (m : Machine) (fuel : ℕ) → Follows links g t (Running m (suc fuel)) → tasks.is_at_end (tasks.step t).behaviour ≡ is_over (run links 1 (Running m (suc fuel)))
unfolding run step
ends-made links g t m fuel f =
    let at = at-instruction links t m fuel f.depth f.behaviour.0 f.behaviour.1 in
    by at.0 (insns.step links m) at.2 (safe-step links m fuel f.never_stuck)
  where
    over-ends : (o : Option End) → IsNeverStuck links (over o fuel) → true ≡ is_over (over o fuel)
    over-ends None safe = absurd (at_once links Lost safe)
    over-ends (Some end) safe = refl

    by : (d : ℕ) (n : Next) → t.behaviour ≡ by_next links.classes m.heap.cells (behaviour_of links d) n → IsNeverStuck links (after m.heap.cells n fuel)
        → tasks.is_at_end (tasks.step t).behaviour ≡ is_over (after m.heap.cells n fuel)
    by d (On m') b safe = ap (λ (u : Task). tasks.is_at_end u.behaviour) (step-plain t (behaviour_of links d m') fuel b f.fuel) ∙ not-over links d m'
    by d (Ends ending) b safe =
        ap (λ (u : Task). tasks.is_at_end u.behaviour) (step-ends t (told_ending links.classes (end_of m.heap.cells ending)) fuel b f.fuel) ∙ over-ends (end_of m.heap.cells ending) safe
    by d (Asks op m') b safe = ap (λ (u : Task). tasks.is_at_end u.behaviour) (waits-still links t op m' fuel d b f.fuel) ∙ ap tasks.is_at_end b
    by d Stuck b safe = absurd (at_once links Lost safe)

-- what waits for a reply stands where it stood
pub asks-unchanged : (links : Links) (g : Setting) (t : Task) (s : State) (op : Asked) (m : Machine) (fuel : ℕ) → Follows links g t s → step links s ≡ Waits op m fuel → tasks.step t ≡ t
unfolding step
asks-unchanged links g t (Running m' zero) op m fuel f e = absurd (cc)
asks-unchanged links g t (Running m' (suc fuel')) op m fuel f e =
    let at = at-instruction links t m' fuel' f.depth f.behaviour.0 f.behaviour.1 in
    by at.0 (insns.step links m') at.2 e
  where
    by-end : (o : Option End) → over o fuel' ≡ Waits op m fuel → ⊥
    by-end None is = absurd (cc)
    by-end (Some end) is = absurd (cc)

    by : (d : ℕ) (n : Next) → t.behaviour ≡ by_next links.classes m'.heap.cells (behaviour_of links d) n → after m'.heap.cells n fuel' ≡ Waits op m fuel → tasks.step t ≡ t
    by d (On x) b is = absurd (cc)
    by d (Ends ending) b is = absurd (by-end (end_of m'.heap.cells ending) is)
    by d (Asks asked x) b is = waits-still links t asked x fuel' d b f.fuel
    by d Stuck b is = absurd (cc)
asks-unchanged links g t (Waits asked m' fuel') op m fuel f e = waits-still links t asked m' fuel' f.depth f.behaviour.1 f.fuel
asks-unchanged links g t (Over end fuel') op m fuel f e = absurd (cc)
asks-unchanged links g t Lost op m fuel f e = absurd (cc)

pub asks-stay : (links : Links) (g : Setting) (t : Task) (s : State) (op : Asked) (m : Machine) (fuel : ℕ) → Follows links g t s → run links 1 s ≡ Waits op m fuel → tasks.step t ≡ t
unfolding run
asks-stay links g t s op m fuel f e = asks-unchanged links g t s op m fuel f e

-- ---- where it stands

pub stands : (links : Links) (g : Setting) (t : Task) (s : State) → Follows links g t s → tasks.stand t ≡ stand_of links s
stands links g t (Running m zero) f = spent-stands links t m f.depth f.behaviour.1 f.fuel
stands links g t (Running m (suc fuel)) f =
    let at = at-instruction links t m fuel f.depth f.behaviour.0 f.behaviour.1 in
    by at.0 (insns.step links m) at.2
  where
    by : (d : ℕ) (n : Next) → t.behaviour ≡ by_next links.classes m.heap.cells (behaviour_of links d) n → tasks.stand t ≡ stand_before links n
    by d (On m') b = stand-is t (rules.Plain (behaviour_of links d m')) (suc fuel) b f.fuel
    by d (Ends ending) b = stand-is t (rules.Ends (told_ending links.classes (end_of m.heap.cells ending))) (suc fuel) b f.fuel
    by d (Asks op m') b = stand-is t (asking links.classes (behaviour_of links d) op m') (suc fuel) b f.fuel
    by d Stuck b = stand-is t (rules.Ends rules.Spent) (suc fuel) b f.fuel
stands links g t (Waits op m fuel) f = stand-is t (asking links.classes (behaviour_of links f.depth) op m) (suc fuel) f.behaviour.1 f.fuel
stands links g t (Over end fuel) f = f.behaviour
stands links g t Lost f = absurd (at_once links Lost f.never_stuck)

pub ends-told : (links : Links) (g : Setting) (t : Task) (s : State) (outcome : Outcome) → Follows links g t s → outcome_at links.classes s ≡ Some outcome
    → tasks.stand t ≡ tasks.HasEnded (told outcome)
ends-told links g t (Running m fuel) outcome f e = absurd (cc)
ends-told links g t (Waits op m fuel) outcome f e = absurd (cc)
ends-told links g t (Over end fuel) outcome f e = stands links g t (Over end fuel) f ∙ ap (λ o. tasks.HasEnded (told_some o)) e
ends-told links g t Lost outcome f e = absurd (cc)

-- all that it has left but one unit, which stays with it, is what it lends
pub lent-left : (links : Links) (g : Setting) (t : Task) (op : Asked) (m : Machine) (fuel : ℕ) → Follows links g t (Waits op m fuel) → tasks.lent t ≡ fuel
lent-left links g t op m fuel f = let have : t.fuel ≡ suc fuel = f.fuel in omega (arith, have)

-- ---- replies

-- what the reply leads to goes on with the references that the task then holds
abbrev GoesOn : Setting → List Ref → Next → Type 0
GoesOn g held (On m) = HoldsAs g held m.references
GoesOn g held (Ends ending) = Unit {0}
GoesOn g held (Asks op m) = ⊥
GoesOn g held Stuck = Unit {0}

reply-follows : (links : Links) (g : Setting) (u : Task) (cells : List Cell) (fuel depth : ℕ) (n : Next) → fuel ≤ depth
    → u.behaviour ≡ after_reply links.classes cells (behaviour_of links depth) n → u.fuel ≡ fuel → GoesOn g u.held n → IsNeverStuck links (after cells n fuel) → Follows links g u (after cells n fuel)
reply-follows links g u cells fuel depth (On m) le b f holds safe = record { depth = depth; behaviour = (le, b); fuel = f; held = holds; calls = tt; never_stuck = safe }
reply-follows links g u cells fuel depth (Ends ending) le b f holds safe = over-follows links g u (end_of cells ending) fuel b f safe
reply-follows links g u cells fuel depth (Asks op m) le b f holds safe = absurd holds
reply-follows links g u cells fuel depth Stuck le b f holds safe = absurd (at_once links Lost safe)

from-stays : (links : Links) (g : Setting) (held : List Ref) (table : Table) (n : Next) → HoldsAs g held table → IsQuiet n → Stays links table n → GoesOn g held n
from-stays links g held table (On m) holds quiet stays = hold-on g held held table m.references refl stays holds
from-stays links g held table (Ends ending) holds quiet stays = tt
from-stays links g held table (Asks op m) holds quiet stays = quiet
from-stays links g held table Stuck holds quiet stays = tt

-- a task t whose machine m waits for a value, and the task w that is given it, with the fuel that is left
module _ (links : Links) (g : Setting) (t w : Task) (m : Machine) (left depth : ℕ) (plays : PlaysOn links g) (le : left ≤ depth) (holds : HoldsAs g t.held m.references) where
  abbrev cells : List Cell
  cells = m.heap.cells

  abbrev go : Machine → rules.Behaviour
  go = behaviour_of links depth

  -- what the value leads to, where it is given
  abbrev Leads : Option Value → Next → Type 0
  Leads v n = tasks.after_reply t.behaviour v ≡ after_reply links.classes cells go n

  abbrev Goes : Option Value → Next → Type 0
  Goes v n = IsGiven g v t left w → Leads v n → IsQuiet n → IsNeverStuck links (after cells n left) → Follows links g w (after cells n left)

  -- a reply that brings no reference
  plain-reply : (v : Option Value) (n : Next) → references_in v ≡ [] → Stays links m.references n → Goes v n
  plain-reply v n none stays is leads quiet safe =
      let same : with_references t.held (references_in v) ≡ t.held = ap (with_references t.held) none in
      let fits = stays-within g t.held m.references holds in
      let b : w.behaviour ≡ after_reply links.classes cells go n =
      is.behaviour ∙ (λ j. tasks.within_limit g (same j) (leads j)) ∙ ap (λ b. if b then after_reply links.classes cells go n else rules.Over (rules.Threw g.classes.out_of_memory)) fits in
      reply-follows links g w cells left depth n le b is.fuel
      (subst (λ held. GoesOn g held n) (sym (is.held ∙ same)) (from-stays links g t.held m.references n holds quiet stays)) safe

  -- one that brings a reference, to a machine with the same ones
  module _ (v : Option Value) (r : Ref) (next : ℕ → Machine → Next) (x : Machine) (one : references_in v ≡ r ∷ []) (same : x.references ≡ m.references)
      (keeps : (table : Table) (row : ℕ) (y : Machine) → y.references ≡ table → Stays links table (next row y)) where
    abbrev came : List Ref
    came = with_reference t.held r

    abbrev arrived : Machine
    arrived = record x { references = heap.with_reference r x.references }

    abbrev reached : Option ℕ → Next
    reached o = on_row (λ row. next row arrived) o

    abbrev decided : Bool → Next → rules.Behaviour
    decided b n = if b then after_reply links.classes cells go n else rules.Over (rules.Threw g.classes.out_of_memory)

    by-row : (o : Option ℕ) → IsGiven g v t left w → Comes g came arrived.references o → w.behaviour ≡ tasks.within_limit g came (after_reply links.classes cells go (reached o)) → IsQuiet (reached o)
        → IsNeverStuck links (after cells (reached o) left) → Follows links g w (after cells (reached o) left)
    by-row None is over b quiet safe =
        over-follows links g w (Some (Threw thrown.OutOfMemoryError)) left
        (b ∙ ap (λ b. decided b (reached None)) over.over ∙ ap (λ o. rules.Over (told_some (option_map (λ class. outcome.Threw class) o))) (sym plays.out_of_memory))
        is.fuel safe
    by-row (Some row) is arrives b quiet safe =
        let same-held : w.held ≡ came = is.held ∙ ap (with_references t.held) one in
        reply-follows links g w cells left depth (next row arrived) le (b ∙ ap (λ b. decided b (next row arrived)) arrives.fits) is.fuel
        (subst (λ held. GoesOn g held (next row arrived)) (sym same-held)
        (from-stays links g came arrived.references (next row arrived) arrives.holds quiet (keeps arrived.references row arrived refl))) safe

    held-reply : Goes v (on_held r next x)
    held-reply is leads quiet safe =
        by-row (row_for r x.references) is (comes g t.held x.references r (hold-on g t.held t.held m.references x.references refl same holds))
        (is.behaviour ∙ (λ j. tasks.within_limit g (with_references t.held (one j)) (leads j))) quiet safe

  remote-reply : (v : Option Value) (r : Ref) (x : Machine) → references_in v ≡ r ∷ [] → x.references ≡ m.references → Goes v (on_held r (λ row. push (Remote row) go_on) x)
  remote-reply v r x one same =
      held-reply v r (λ row y. push (Remote row) go_on y) x one same (λ table row y is. pushes links table (Remote row) go_on (goes links table) y is)

  -- what a call gives
  result-reply : (v : Option Value) (x : Machine) → x.references ≡ m.references → Goes v (push_result v x)
  result-reply None x same = plain-reply None (go_on x) refl (goes links m.references x same)
  result-reply (Some value.Null) x same = plain-reply (Some value.Null) (push Null go_on x) refl (pushes links m.references Null go_on (goes links m.references) x same)
  result-reply (Some (value.Int n)) x same = plain-reply (Some (value.Int n)) (push (Int n) go_on x) refl (pushes links m.references (Int n) go_on (goes links m.references) x same)
  result-reply (Some (value.Ints ns)) x same = plain-reply (Some (value.Ints ns)) (push_result (Some (value.Ints ns)) x) refl (copy-keeps links m.references ns x same)
  result-reply (Some (value.Ref r)) x same = remote-reply (Some (value.Ref r)) r x refl same

  call-reply : (count : ℕ) (v : Option Value) → Goes v (leave_call count v m)
  call-reply count v = by (nat_le count (length m.stack.frame.operands))
    where
      top : (operands : List Tagged) → Goes v (on_top (λ receiver below. push_result v (with_operands below (without_arguments count m))) operands)
      top [] is leads quiet safe = absurd (at_once links Lost safe)
      top (receiver ∷ below) is leads quiet safe = result-reply v (with_operands below (without_arguments count m)) refl is leads quiet safe

      by : (b : Bool) → Goes v (where_true b (pop_receiver v (without_arguments count m)))
      by true is leads quiet safe = top (drop count m.stack.frame.operands) is leads quiet safe
      by false is leads quiet safe = absurd (at_once links Lost safe)

-- ---- the reply to each that may be asked

module _ (links : Links) (g : Setting) (t : Task) (m : Machine) (fuel : ℕ) (plays : PlaysOn links g) where
  -- the task follows the reply, if it is this one
  abbrev Replied : Asked → rules.Reply → Reply → Type 0
  Replied op r given =
      Follows links g t (Waits op m fuel) → FitsFuel op given fuel → IsNeverStuck links (after m.heap.cells (answered op given m) (fuel_after op given fuel))
      → Follows links g (tasks.answer g r (waiting op t)) (after m.heap.cells (answered op given m) (fuel_after op given fuel))

  -- what the behaviour of the task leads to
  leads : (op : Asked) (f : Follows links g t (Waits op m fuel)) (v : Option Value)
      → tasks.after_reply t.behaviour v ≡ by_reply links.classes (behaviour_of links f.depth) op m (completed_by op v)
  leads op f v = ap (λ b. tasks.after_reply b v) f.behaviour.1

  made-reply : (class : ClassId) (r : Ref) → Replied (asked.Create class) (rules.Gives (Some (value.Ref r))) (reply.Made r)
  made-reply class r f fits safe =
      let v : Option Value = Some (value.Ref r) in
      held-reply links g t (tasks.answer g (rules.Gives v) t) m fuel f.depth plays f.behaviour.0 f.held.0 v r
      (λ row x. push (Fresh m.stack.frame.index (ReferenceRow row)) go_on x) m refl refl
      (λ table row x is. pushes links table (Fresh m.stack.frame.index (ReferenceRow row)) go_on (goes links table) x is)
      (answer-gives g v t fuel f.fuel) (leads (asked.Create class) f v) (answered_quiet (asked.Create class) (reply.Made r) m) safe

  null-reply : (object : Ref) (slot : ℕ) → Replied (asked.Get object slot) (rules.Gives (Some value.Null)) (reply.Holds field.Null)
  null-reply object slot f fits safe =
      let v : Option Value = Some value.Null in
      plain-reply links g t (tasks.answer g (rules.Gives v) t) m fuel f.depth plays f.behaviour.0 f.held.0 v (push Null go_on m) refl
      (pushes links m.references Null go_on (goes links m.references) m refl)
      (answer-gives g v t fuel f.fuel) (leads (asked.Get object slot) f v) (answered_quiet (asked.Get object slot) (reply.Holds field.Null) m) safe

  int-reply : (object : Ref) (slot : ℕ) (n : ℤ) → Replied (asked.Get object slot) (rules.Gives (Some (value.Int n))) (reply.Holds (field.Int n))
  int-reply object slot n f fits safe =
      let v : Option Value = Some (value.Int n) in
      plain-reply links g t (tasks.answer g (rules.Gives v) t) m fuel f.depth plays f.behaviour.0 f.held.0 v (push (Int n) go_on m) refl
      (pushes links m.references (Int n) go_on (goes links m.references) m refl)
      (answer-gives g v t fuel f.fuel) (leads (asked.Get object slot) f v) (answered_quiet (asked.Get object slot) (reply.Holds (field.Int n)) m) safe

  holds-reply : (object : Ref) (slot : ℕ) (r : Ref) → Replied (asked.Get object slot) (rules.Gives (Some (value.Ref r))) (reply.Holds (field.Reference r))
  holds-reply object slot r f fits safe =
      let v : Option Value = Some (value.Ref r) in
      remote-reply links g t (tasks.answer g (rules.Gives v) t) m fuel f.depth plays f.behaviour.0 f.held.0 v r m refl refl
      (answer-gives g v t fuel f.fuel) (leads (asked.Get object slot) f v) (answered_quiet (asked.Get object slot) (reply.Holds (field.Reference r)) m) safe

  written-reply : (object : Ref) (slot : ℕ) (written : FieldValue) → Replied (asked.Put object slot written) (rules.Gives None) reply.Written
  written-reply object slot written f fits safe =
      plain-reply links g t (tasks.answer g (rules.Gives None) t) m fuel f.depth plays f.behaviour.0 f.held.0 None (go_on m) refl
      (goes links m.references m refl)
      (answer-gives g None t fuel f.fuel) (leads (asked.Put object slot written) f None) (answered_quiet (asked.Put object slot written) reply.Written m) safe

  returned-reply : (target : Ref) (method count : ℕ) (v : Option Value) (back : ℕ) → Replied (asked.Call target method count) (rules.GivesBack v back) (reply.Returned v back)
  returned-reply target method count v back f fits safe =
      let op : Asked = asked.Call target method count in
      let deep : fuel ≤ f.depth = f.behaviour.0 in
      let within : back ≤ fuel = fits in
      let le : back ≤ f.depth = omega (arith, deep, within) in
      call-reply links g t (tasks.answer g (rules.GivesBack v back) (tasks.lend_fuel t)) m back f.depth plays le f.held.0 count v
      (answer-gives-back g v back t fuel f.fuel) (leads op f v) (answered_quiet op (reply.Returned v back) m) safe

  spent-reply : (target : Ref) (method count : ℕ) → Replied (asked.Call target method count) rules.RunsOut reply.RunsOut
  spent-reply target method count f fits safe =
      let is = answer-runs-out g t fuel f.fuel in
      over-follows links g (tasks.answer g rules.RunsOut (tasks.lend_fuel t)) (Some ends.Spent) 0 is.behaviour is.fuel safe

  throws-reply : (op : Asked) (class : ClassId) → Replied op (rules.Throws class) (reply.Throws class)
  throws-reply (asked.Create made) class f fits safe =
      let is = answer-throws g class t fuel f.fuel in over-follows links g (tasks.answer g (rules.Throws class) t) (Some (ThrewObject class)) fuel is.behaviour is.fuel safe
  throws-reply (asked.Get object slot) class f fits safe =
      let is = answer-throws g class t fuel f.fuel in over-follows links g (tasks.answer g (rules.Throws class) t) (Some (ThrewObject class)) fuel is.behaviour is.fuel safe
  throws-reply (asked.Put object slot written) class f fits safe =
      let is = answer-throws g class t fuel f.fuel in over-follows links g (tasks.answer g (rules.Throws class) t) (Some (ThrewObject class)) fuel is.behaviour is.fuel safe
  throws-reply (asked.Call target method count) class f fits safe =
      let is = answer-throws-lent g class t fuel f.fuel in
      over-follows links g (tasks.answer g (rules.Throws class) (tasks.lend_fuel t)) (Some (ThrewObject class)) 0 is.behaviour is.fuel safe

  -- the reply as it is given
  as-given : (op : Asked) (r : rules.Reply) (x given : Reply) → x ≡ given → Replied op r x → Replied op r given
  as-given op r x given same is = subst (Replied op r) same is

  all-follow : (op : Asked) (r : rules.Reply) (given : Reply) → reply_to op r ≡ Some given → Replied op r given
  all-follow op (rules.Throws class) given e = let same : reply.Throws class ≡ given = cc in as-given op (rules.Throws class) (reply.Throws class) given same (throws-reply op class)
  all-follow (asked.Create class) (rules.Gives None) given e = absurd (cc)
  all-follow (asked.Create class) (rules.Gives (Some value.Null)) given e = absurd (cc)
  all-follow (asked.Create class) (rules.Gives (Some (value.Int n))) given e = absurd (cc)
  all-follow (asked.Create class) (rules.Gives (Some (value.Ints ns))) given e = absurd (cc)
  all-follow (asked.Create class) (rules.Gives (Some (value.Ref r))) given e =
      let same : reply.Made r ≡ given = cc in as-given (asked.Create class) (rules.Gives (Some (value.Ref r))) (reply.Made r) given same (made-reply class r)
  all-follow (asked.Create class) (rules.GivesBack v back) given e = absurd (cc)
  all-follow (asked.Create class) rules.RunsOut given e = absurd (cc)
  all-follow (asked.Get object slot) (rules.Gives None) given e = absurd (cc)
  all-follow (asked.Get object slot) (rules.Gives (Some value.Null)) given e =
      let same : reply.Holds field.Null ≡ given = cc in as-given (asked.Get object slot) (rules.Gives (Some value.Null)) (reply.Holds field.Null) given same (null-reply object slot)
  all-follow (asked.Get object slot) (rules.Gives (Some (value.Int n))) given e =
      let same : reply.Holds (field.Int n) ≡ given = cc in as-given (asked.Get object slot) (rules.Gives (Some (value.Int n))) (reply.Holds (field.Int n)) given same (int-reply object slot n)
  all-follow (asked.Get object slot) (rules.Gives (Some (value.Ints ns))) given e = absurd (cc)
  all-follow (asked.Get object slot) (rules.Gives (Some (value.Ref r))) given e =
      let same : reply.Holds (field.Reference r) ≡ given = cc in as-given (asked.Get object slot) (rules.Gives (Some (value.Ref r))) (reply.Holds (field.Reference r)) given same (holds-reply object slot r)
  all-follow (asked.Get object slot) (rules.GivesBack v back) given e = absurd (cc)
  all-follow (asked.Get object slot) rules.RunsOut given e = absurd (cc)
  all-follow (asked.Put object slot written) (rules.Gives None) given e =
      let same : reply.Written ≡ given = cc in as-given (asked.Put object slot written) (rules.Gives None) reply.Written given same (written-reply object slot written)
  all-follow (asked.Put object slot written) (rules.Gives (Some v)) given e = absurd (cc)
  all-follow (asked.Put object slot written) (rules.GivesBack v back) given e = absurd (cc)
  all-follow (asked.Put object slot written) rules.RunsOut given e = absurd (cc)
  all-follow (asked.Call target method count) (rules.Gives v) given e = absurd (cc)
  all-follow (asked.Call target method count) (rules.GivesBack v back) given e =
      let same : reply.Returned v back ≡ given = cc in as-given (asked.Call target method count) (rules.GivesBack v back) (reply.Returned v back) given same (returned-reply target method count v back)
  all-follow (asked.Call target method count) rules.RunsOut given e =
      let same : reply.RunsOut ≡ given = cc in as-given (asked.Call target method count) rules.RunsOut reply.RunsOut given same (spent-reply target method count)

pub replies-follow : (links : Links) (g : Setting) (t : Task) (op : Asked) (m : Machine) (fuel : ℕ) (r : rules.Reply) (given : Reply) → PlaysOn links g → Follows links g t (Waits op m fuel)
    → reply_to op r ≡ Some given → IsDue links.classes given (Waits op m fuel) → Follows links g (tasks.answer g r (waiting op t)) (answer given (Waits op m fuel))
unfolding answer
replies-follow links g t op m fuel r given plays f e due =
    all-follow links g t m fuel plays op r given e f due.1 (IsNeverStuck-answer links given (Waits op m fuel) f.never_stuck due)
