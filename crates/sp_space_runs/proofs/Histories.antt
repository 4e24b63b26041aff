-- A step of a space, as a world asks for it, makes a history of the rules grow.
use Rattle.std.proofs.Common.{◌≡◌, ℕ, ◌-◌, ◌≤◌, List, [], ◌∷◌, ◌++◌, Option, None, Some, refl, sym, ap, subst, ◌∙◌}
use Rattle.std.specs.Prelude.{cond, false}
use Rattle.cls_link.specs.Links.{Links}
use Rattle.sp_space.specs.Spaces.{IsSpace}
use Rattle.sp_space.specs.declared.parts.Parts.{Parts}
use Rattle.sp_rules.specs.Classes.{Setting}
use Rattle.sp_rules.specs.Events.{Event, Output}
use Rattle.sp_rules.specs.Lists.{with_some}
use Rattle.sp_rules.specs.Origins.{IsTaken}
use Rattle.sp_rules.specs.Refusals.{Refusal, NotLent, refusal}
use Rattle.sp_rules.specs.Space.{outputs_of, state_of}
use Rattle.sp_rules.specs.State.{State, Living, task_at}
use Rattle.sp_rules.specs.Worlds.{lent_for, step_events}
use Rattle.sp_runs.specs.Going.{HasEnded, answer_of}
use Rattle.sp_runs.specs.InSpace.{answers_to, grown}
use Rattle.sp_runs.proofs.Alone.{only-there}
use Rattle.sp_runs.proofs.Sets.{set-of}
use Rattle.sp_runs.proofs.SpaceGoes.{Went, told-end, told-none, went}
use Rattle.sp_space_runs.specs.Going.{Goes}
use Rattle.sp_world.specs.Steps as steps
use Rattle.sp_world.specs.Steps.{events_of_step, refusal_of, state_after, step_at, step_refusal}
use Rattle.vm_step.specs.Run.{State as Machine}
use Rattle.vm_step.specs.declared.outcome.Outcome.{Outcome}

-- ---- histories

pub after-grown : (g : Setting) (h es : List Event) → state_after g (state_of g h) es ≡ state_of g (grown h es)
unfolding state_of
after-grown g h [] = refl
after-grown g h (e ∷ es) = after-grown g (e ∷ h) es

pub answers-grown : (g : Setting) (h es : List Event) → steps.answers_to g (state_of g h) es ≡ answers_to g h es
unfolding state_of outputs_of
answers-grown g h [] = refl
answers-grown g h (e ∷ es) = ap (λ (os : List Output). outputs_of g h e ++ os) (answers-grown g (e ∷ h) es)

parted : (first rest : Option Refusal) → with_some first rest (λ why. Some why) ≡ None → (first ≡ None) × (rest ≡ None)
parted None rest e = (refl, e)
parted (Some why) rest e = absurd (cc)

pub taken-grown : (g : Setting) (h es : List Event) → IsTaken g h → refusal_of g (state_of g h) es ≡ None → IsTaken g (grown h es)
unfolding state_of
taken-grown g h [] taken none = taken
taken-grown g h (e ∷ es) taken none =
    let (first, rest) = parted (refusal g (lent_for e) (state_of g h) e) _ none in taken-grown g (e ∷ h) es ((lent_for e, first), taken) rest

-- a step of a task that does not wait
its-refusal : (g : Setting) (s : State) (t : Living) → task_at s 1 ≡ Some t → t.waits ≡ false → step_refusal g s 1 ≡ None → refusal_of g s (step_events 1 t.task) ≡ None
its-refusal g s t there ready accepted =
    sym (ap (λ (o : Option Living). with_some o (Some NotLent) (λ (t : Living). cond t.waits (Some NotLent) (refusal_of g s (step_events 1 t.task)))) there
    ∙ ap (λ b. cond b (Some NotLent) (refusal_of g s (step_events 1 t.task))) ready) ∙ accepted

-- ---- one step

module _ (program : Links) (g : Setting) (first : Event) (began : Machine) (fuel : ℕ) (space after : Parts) (outputs : List Output) (b : Goes program g first began fuel space)
    (accepted : step_refusal g (state_of g b.history) 1 ≡ None) (answers : outputs ≡ steps.answers_to g (state_of g b.history) (step_at (state_of g b.history) 1))
    (stands : IsSpace g (state_after g (state_of g b.history) (step_at (state_of g b.history) 1)) after) where
  there : task_at (state_of g b.history) 1 ≡ Some b.goes.task
  there = only-there g (state_of g b.history) b.goes.task b.goes.only

  events : step_at (state_of g b.history) 1 ≡ step_events 1 b.goes.task.task
  events = ap (λ (o : Option Living). events_of_step o 1) there

  taken : IsTaken g (grown b.history (step_events 1 b.goes.task.task))
  taken = taken-grown g b.history (step_events 1 b.goes.task.task) b.goes.taken (its-refusal g (state_of g b.history) b.goes.task there b.goes.only.ready accepted)

  went-so : Went program g first began fuel (grown b.history (step_events 1 b.goes.task.task)) outputs
  went-so =
      went program g first began fuel b.history outputs b.goes (set-of b.files program b.is_program) b.classes taken
      (answers ∙ ap (steps.answers_to g (state_of g b.history)) events ∙ answers-grown g b.history (step_events 1 b.goes.task.task))

  stands-so : IsSpace g (state_of g (grown b.history (step_events 1 b.goes.task.task))) after
  stands-so =
      subst (λ (s : State). IsSpace g s after) (after-grown g b.history (step_events 1 b.goes.task.task))
      (subst (λ (es : List Event). IsSpace g (state_after g (state_of g b.history) es) after) events stands)

  module _ (result : Option Outcome) (tells : (end : Option Outcome) → outputs ≡ answer_of end → result ≡ end) where
    -- an end that is told is that of the task
    pub ends-so : (outcome : Outcome) → result ≡ Some outcome → HasEnded program g first began outcome
    ends-so = told-end program g first began fuel (grown b.history (step_events 1 b.goes.task.task)) outputs went-so result tells

    -- without one it goes on
    pub goes-so : result ≡ None → (1 ≤ fuel) × Goes program g first began (fuel - 1) after
    goes-so none =
        let (some, now) = told-none program g first began fuel (grown b.history (step_events 1 b.goes.task.task)) outputs went-so result tells none in (
          some,
          record {
            files = b.files;
            is_program = b.is_program;
            classes = b.classes;
            history = grown b.history (step_events 1 b.goes.task.task);
            goes = now;
            stands = stands-so;
          },
        )
