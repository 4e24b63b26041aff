-- What one event of a space makes of its living tasks: each stays, goes on with one reply, or begins; and what an event of a lent task makes of that one (this project's own rule; a remote call returns once by the Java RMI specification, 3.1).
use Rattle.std.specs.Prelude.{◌≡◌, ◌⊎◌, ℕ, ◌+◌, ◌≤◌, false, true, List, [], ◌∷◌, Option, None, Some}
use Rattle.sp_rules.specs.Behaviours.{Create, Get, Put, Call, Reply}
use Rattle.sp_rules.specs.Classes.{Setting}
use Rattle.sp_rules.specs.Events.{Event, Committed, Parked, GivenBack, Finished}
use Rattle.sp_rules.specs.LivingTasks.{after_steps, after_reply, op_reply, waiting}
use Rattle.sp_rules.specs.Space.{state_of}
use Rattle.sp_rules.specs.State.{State, Living, task_at, ready_at}
use Rattle.sp_rules.specs.Tasks.{Stand, Runs, AsksFor, HasEnded, start, stand, steps}
use Rattle.sp_laws.specs.Calls.{IsFitting, StartsBy}

-- ---- events of lent tasks, and of the space

-- the lent task that an event is of, if it is of one
abbrev pub lent_task : Event → Option ℕ
lent_task (Committed task k op) = Some task
lent_task (Parked task k) = Some task
lent_task (GivenBack task k) = Some task
lent_task (Finished task k) = Some task
lent_task _ = None

abbrev pub IsOfSpace : Event → Type 0
IsOfSpace e = lent_task e ≡ None

-- ---- what an event of the space makes of tasks

-- a task that waited goes on with one reply, which fits the call at which it stands
pub record IsAnswered (g : Setting) (before after : Living) : Type 0 where
  pub waited : before.waits ≡ true
  pub reply : Reply
  pub fits : IsFitting g before reply
  pub goes_on : after ≡ after_reply g reply before

-- An event begins a task in a state, and its id is above the last that was given.
pub record HasBegun (g : Setting) (s : State) (e : Event) (task : Living) : Type 0 where
  pub above : s.tasks_made + 1 ≤ task.id
  pub starts : StartsBy g s e task.origin task.began.method task.began.arguments
  pub ready : task.waits ≡ false
  pub given : task.given ≡ []
  pub steps : task.steps ≡ 0
  pub stands : task.task ≡ start g task.began.method task.began.arguments task.began.fuel

-- What an event makes in a state of the task of an id. None ends.
abbrev pub GoesOn : Setting → State → Event → Option Living → Option Living → Type 0
GoesOn g s e None None = Unit {0}
GoesOn g s e None (Some after) = HasBegun g s e after
GoesOn g s e (Some before) None = ⊥
GoesOn g s e (Some before) (Some after) = (after ≡ before) ⊎ IsAnswered g before after

-- This holds of each event of the space, after every history.
abbrev pub TasksGoOn : Type 0
TasksGoOn = (g : Setting) (h : List Event) (e : Event) (id : ℕ) → IsOfSpace e
    → GoesOn g (state_of g h) e (task_at (state_of g h) id) (task_at (state_of g (e ∷ h)) id)

-- ---- what an event of a lent task makes of it

-- it waits for the reply if it stands at a call
abbrev pub when_parked : ℕ → Stand → Living → Living
when_parked k Runs t = t
when_parked k (AsksFor (Create class)) t = t
when_parked k (AsksFor (Get object slot)) t = t
when_parked k (AsksFor (Put object slot value)) t = t
when_parked k (AsksFor (Call target method arguments)) t = waiting k t
when_parked k (HasEnded outcome) t = t

-- it is gone if it stands at its end
abbrev pub when_finished : Stand → Living → Option Living
when_finished Runs t = Some t
when_finished (AsksFor op) t = Some t
when_finished (HasEnded outcome) t = None

-- a ready task after an event of it
abbrev pub lent_after : Setting → State → Event → Living → Option Living
lent_after g s (Committed task k op) t = Some (after_reply g (op_reply g op s) (after_steps k t))
lent_after g s (Parked task k) t = Some (when_parked k (stand (steps k t.task)) t)
lent_after g s (GivenBack task k) t = Some (after_steps k t)
lent_after g s (Finished task k) t = when_finished (stand (steps k t.task)) t
lent_after g s _ t = Some t

-- This holds after every history.
abbrev pub LentTasksGoOn : Type 0
LentTasksGoOn = (g : Setting) (h : List Event) (e : Event) (id : ℕ) (t : Living)
    → lent_task e ≡ Some id → ready_at (state_of g h) id ≡ Some t
    → task_at (state_of g (e ∷ h)) id ≡ lent_after g (state_of g h) e t

-- An event of a lent task leaves all others as they were.
abbrev pub OtherTasksStay : Type 0
OtherTasksStay = (g : Setting) (h : List Event) (e : Event) (id other : ℕ) → lent_task e ≡ Some id → (id ≡ other → ⊥)
    → task_at (state_of g (e ∷ h)) other ≡ task_at (state_of g h) other
