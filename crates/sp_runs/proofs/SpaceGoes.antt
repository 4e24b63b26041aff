-- A space whose only task goes on: one step of it.
use Rattle.std.proofs.Common.{◌≡◌, ℕ, ◌-◌, ◌≤◌, List, [], Option, None, Some, sym, ap, subst, ◌∙◌, arith}
use Rattle.std.specs.Prelude.{not, find, option_map, unwrap_or}
use Rattle.cls_link.specs.Links.{Links}
use Rattle.sp_behaviours.specs.Classes.{classes_of}
use Rattle.sp_rules.specs.Classes.{Setting}
use Rattle.sp_rules.specs.Events.{Event, Output}
use Rattle.sp_rules.specs.Origins.{IsTaken}
use Rattle.sp_rules.specs.Space.{state_of}
use Rattle.sp_rules.specs.State.{State, Living, task_at}
use Rattle.sp_rules.specs.Worlds.{step_events}
use Rattle.sp_runs.specs.Going.{GoesOn, HasEnded, answer_of}
use Rattle.sp_runs.specs.InSpace.{answers_to, grown, lowest_ready, steps}
use Rattle.sp_runs.proofs.Alone.{only-there}
use Rattle.sp_runs.proofs.Sets.{IsSet}
use Rattle.sp_runs.proofs.SpaceOnly.{awaits-next, one-way}
use Rattle.sp_runs.proofs.SpaceSteps.{Moves, ends_task, goes_on, moves, only-lowest}
use Rattle.vm_step.specs.Run.{State as Machine}
use Rattle.vm_step.specs.declared.outcome.Outcome.{Outcome}

-- The step ended the task, or left it alone with a unit less of fuel.
pub data Went (program : Links) (g : Setting) (first : Event) (start : Machine) (fuel : ℕ) (later : List Event) (outputs : List Output) : Type 0 where
  has_ended : (end : Outcome) → outputs ≡ answer_of (Some end) → HasEnded program g first start end → Went program g first start fuel later outputs
  goes : outputs ≡ answer_of None → 1 ≤ fuel → GoesOn program g first start (fuel - 1) later → Went program g first start fuel later outputs

none-lowest : (s : State) → s.tasks ≡ [] → lowest_ready s ≡ None
none-lowest s none = ap (λ (ts : List Living). option_map (λ (t : Living). t.id) (find (λ (t : Living). not t.waits) ts)) none

pub went : (program : Links) (g : Setting) (first : Event) (start : Machine) (fuel : ℕ) (h : List Event) (outputs : List Output) (b : GoesOn program g first start fuel h) → IsSet program
    → g.classes ≡ classes_of program → IsTaken g (grown h (step_events 1 b.task.task)) → outputs ≡ answers_to g h (step_events 1 b.task.task)
    → Went program g first start fuel (grown h (step_events 1 b.task.task)) outputs
went program g first start fuel h outputs b set same taken answers =
    let lowest = only-lowest g (state_of g h) b.task b.only in
    let there = only-there g (state_of g h) b.task b.only in
    by lowest there (moves program g start h b.task set same b.taken b.alone b.only b.comes taken)
  where
    es : List Event
    es = step_events 1 b.task.task

    by : lowest_ready (state_of g h) ≡ Some 1 → task_at (state_of g h) 1 ≡ Some b.task → Moves program g start h b.task es → Went program g first start fuel (grown h es) outputs
    by lowest there (ends_task end is left over of_set) =
        has_ended end (answers ∙ is)
        (record {
          ends = record { before = h; grows = b.grows; task = b.task; ready = lowest; lives = there; taken = taken; ended = is };
          only = one-way g h b.task lowest there first end is (none-lowest (state_of g (grown h es)) left) b.awaits;
          over = over;
          of_set = of_set;
        })
    by lowest there (goes_on now is alone only comes less) =
        let has = b.left in
        goes (answers ∙ is) (omega (arith, less, has))
        (record {
          grows = steps h 1 b.task b.grows lowest there;
          taken = taken;
          alone = alone;
          task = now;
          only = only;
          comes = comes;
          left = omega (arith, less, has);
          awaits = awaits-next g h b.task lowest there first is b.awaits;
        })

-- ---- what is told of it

module _ (program : Links) (g : Setting) (first : Event) (start : Machine) (fuel : ℕ) (later : List Event) (outputs : List Output) (went : Went program g first start fuel later outputs)
    (result : Option Outcome) (tells : (end : Option Outcome) → outputs ≡ answer_of end → result ≡ end) where
  -- an end that is told is that of the task
  pub told-end : (outcome : Outcome) → result ≡ Some outcome → HasEnded program g first start outcome
  told-end outcome is = by went
    where
      by : Went program g first start fuel later outputs → HasEnded program g first start outcome
      by (has_ended end answers ended) =
          let same : end ≡ outcome = ap (λ o. unwrap_or o end) (sym (tells (Some end) answers) ∙ is) in
          subst (HasEnded program g first start) same ended
      by (goes answers some now) = let wrong : None ≡ Some outcome = sym (tells None answers) ∙ is in absurd (cc)

  -- without one it goes on
  pub told-none : result ≡ None → (1 ≤ fuel) × GoesOn program g first start (fuel - 1) later
  told-none is = by went
    where
      by : Went program g first start fuel later outputs → (1 ≤ fuel) × GoesOn program g first start (fuel - 1) later
      by (has_ended end answers ended) = let wrong : Some end ≡ None = sym (tells (Some end) answers) ∙ is in absurd (cc)
      by (goes answers some now) = (some, now)
