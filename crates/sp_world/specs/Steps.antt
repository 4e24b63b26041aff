-- Several events of one space, one after the other, and a step of a task as the events that it is. (This project's own.)
use Rattle.std.specs.Prelude.{ℕ, List, [], ◌∷◌, ◌++◌, Option, None, Some, if◌then◌else◌}
use Rattle.sp_rules.specs.Classes.{Setting}
use Rattle.sp_rules.specs.Events.{Event, Output}
use Rattle.sp_rules.specs.Lists.{with_some}
use Rattle.sp_rules.specs.Refusals.{Refusal, NotLent, refusal}
use Rattle.sp_rules.specs.Space.{on}
use Rattle.sp_rules.specs.State.{Living, State, task_at}
use Rattle.sp_rules.specs.Worlds.{lent_for, step_events}

-- the state that they leave, oldest first
abbrev pub state_after : Setting → State → List Event → State
state_after g s [] = s
state_after g s (e ∷ es) = state_after g (on g e s).0 es

-- what they are answered
abbrev pub answers_to : Setting → State → List Event → List Output
answers_to g s [] = []
answers_to g s (e ∷ es) = (on g e s).1 ++ answers_to g (on g e s).0 es

-- why the first of them is refused that is, after those before it
abbrev pub refusal_of : Setting → State → List Event → Option Refusal
refusal_of g s [] = None
refusal_of g s (e ∷ es) = with_some (refusal g (lent_for e) s e) (refusal_of g (on g e s).0 es) (λ why. Some why)

abbrev pub events_of_step : Option Living → ℕ → List Event
events_of_step None id = []
events_of_step (Some t) id = step_events id t.task

-- the events of one instruction of a task
abbrev pub step_at : State → ℕ → List Event
step_at s id = events_of_step (task_at s id) id

-- Why a step of a task is refused, if it is: a task that waits for a reply, or does not live, is not lent.
abbrev pub step_refusal : Setting → State → ℕ → Option Refusal
step_refusal g s id = with_some (task_at s id) (Some NotLent) (λ (t : Living). if t.waits then Some NotLent else refusal_of g s (step_events id t.task))
