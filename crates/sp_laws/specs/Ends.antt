-- How tasks end: one that is finished ends as its own machine does, over its start and its record, and
-- no task ends otherwise (this project's own rule; a remote call returns once by the Java RMI
-- specification, 3.1).
use Rattle.std.specs.Prelude.{◌≡◌, ◌⊎◌, ℕ, Bool, true, false, List, [], ◌∷◌, ◌++◌, None, Some, filter}
use Rattle.sp_rules.specs.Behaviours.{Outcome}
use Rattle.sp_rules.specs.Classes.{Setting}
use Rattle.sp_rules.specs.Events.{Event, Finished, Output, Ended}
use Rattle.sp_rules.specs.Laws.{AllOf}
use Rattle.sp_rules.specs.Runs.{recorded}
use Rattle.sp_rules.specs.Space.{state_of, on, outputs_of}
use Rattle.sp_rules.specs.State.{State, Living, task_at, ready_at}
use Rattle.sp_rules.specs.Tasks.{HasEnded, stand, steps}
use Rattle.sp_laws.specs.LookupEnds.{IsEndOfLookup}
use Rattle.sp_laws.specs.Changes.{IsOfSpace}

abbrev pub is_ended : Output → Bool
is_ended (Ended task outcome) = true
is_ended _ = false

-- what ended, by these outputs
abbrev pub ends_in : List Output → List Output
ends_in outputs = filter is_ended outputs

-- ---- the end of a task

-- The event finishes the task of this id, which was ready. Its start and its record bring it to a
-- point, and so many instructions of its own from there to this end. Then it is gone, and nothing else
-- ended.
pub record IsEndOfRun (g : Setting) (s : State) (e : Event) (id : ℕ) (outcome : Outcome) : Type 0 where
  pub made : ℕ
  pub task : Living
  pub finished : e ≡ Finished id made
  pub ready : ready_at s id ≡ Some task
  pub ends : stand (steps made (recorded g task)) ≡ HasEnded outcome
  pub gone : task_at (on g e s).0 id ≡ None
  pub alone : ends_in (on g e s).1 ≡ Ended id outcome ∷ []

-- ---- the end of a lookup

-- No task has this id at any moment, whether the history has come to it or goes on to it.
pub record IsOfNoTask (g : Setting) (h : List Event) (id : ℕ) : Type 0 where
  pub before : (more early : List Event) → more ++ early ≡ h → task_at (state_of g early) id ≡ None
  pub after : (more : List Event) → task_at (state_of g (more ++ h)) id ≡ None

-- The event is of the space, and ends a lookup that stood among the requests.
pub record IsEndOfNoTask
    (g : Setting) (h : List Event) (e : Event) (id : ℕ) (outcome : Outcome) : Type 0 where
  pub apart : IsOfSpace e
  pub lookup : IsEndOfLookup g (state_of g h) e id outcome
  pub never : IsOfNoTask g h id

-- An Ended is of the task that the event finishes, or of a lookup.
abbrev pub EndsAsRun : Setting → List Event → Event → Output → Type 0
EndsAsRun g h e (Ended id outcome) =
    IsEndOfRun g (state_of g h) e id outcome ⊎ IsEndOfNoTask g h e id outcome
EndsAsRun g h e _ = Unit {0}

-- ---- the laws

-- So with each event after every history.
abbrev pub EndsAreRuns : Type 0
EndsAreRuns = (g : Setting) (h : List Event) (e : Event) → AllOf (EndsAsRun g h e) (outputs_of g h e)

-- A task that an event ends is one that it finishes.
abbrev pub TasksEndAsRuns : Type 0
TasksEndAsRuns = (g : Setting) (h : List Event) (e : Event) (id : ℕ) (t : Living)
    → task_at (state_of g h) id ≡ Some t → task_at (state_of g (e ∷ h)) id ≡ None
    → (outcome : Outcome) × IsEndOfRun g (state_of g h) e id outcome
