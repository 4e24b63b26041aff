-- The work of a task in its space, which keeps it meanwhile: operations on the store, and the event with which it comes back. (This project's own.)
use Rattle.std.specs.Prelude.{◌≡◌, ◌≤◌, ℕ, suc, Bool, true, false, List, [], ◌∷◌, Result, Ok, Err, length, map}
use Rattle.sp_core.specs.Cores.{has_lent}
use Rattle.sp_events.specs.declared.fault.CoreFault.{CoreFault}
use Rattle.sp_outputs.specs.Notes.{output_of}
use Rattle.sp_rules.specs.Classes.{Setting}
use Rattle.sp_rules.specs.Events.{Event, Committed, Parked, GivenBack, Finished, Output}
use Rattle.sp_rules.specs.Space.{on}
use Rattle.sp_rules.specs.State.{State}
use Rattle.sp_lending.specs.Hands.{IsTask}
use Rattle.sp_lending.specs.Spaces.{IsSpace}
use Rattle.sp_lending.specs.declared.parts.Parts.{Parts}
use Rattle.sp_lending.specs.declared.task_parts.TaskParts.{TaskParts}
use Rattle.sp_lending.specs.declared.working.Left.{Left}
use Rattle.sp_lending.specs.declared.working.Left.TheVariants as left
use Rattle.sp_lending.specs.declared.working.Turned.{Turned}
use Rattle.sp_lending.specs.declared.working.Turned.TheVariants as turned

-- ---- events of one task

-- the state after events, newest first, from this one on
abbrev pub state_after : Setting → List Event → State → State
state_after g [] s = s
state_after g (e ∷ events) s = (on g e (state_after g events s)).0

-- an operation on the store
abbrev pub IsCommitOf : ℕ → Event → Type 0
IsCommitOf id (Committed task k op) = task ≡ id
IsCommitOf id _ = ⊥

abbrev pub AreCommitsOf : ℕ → List Event → Type 0
AreCommitsOf id [] = Unit {0}
AreCommitsOf id (e ∷ events) = IsCommitOf id e × AreCommitsOf id events

-- the event with which a task comes back, and whether it may go on then
abbrev pub IsReturnOf : ℕ → Bool → Event → Type 0
IsReturnOf id goes_on (Parked task k) = (task ≡ id) × (goes_on ≡ false)
IsReturnOf id goes_on (GivenBack task k) = (task ≡ id) × (goes_on ≡ true)
IsReturnOf id goes_on (Finished task k) = (task ≡ id) × (goes_on ≡ false)
IsReturnOf id goes_on _ = ⊥

-- ---- its work

-- After at most so many operations of the task its space has it in hand still.
pub record IsAtWork (g : Setting) (s : State) (id most : ℕ) (space : Parts) (task : TaskParts) : Type 0 where
  pub events : List Event
  pub commits : AreCommitsOf id events
  pub within : length events ≤ most
  pub is : IsSpace g (state_after g events s) space
  pub of : IsTask g task
  pub same : task.hand.task.id ≡ id

-- After at most so many operations of the task it came back, and the last event answered these.
pub record HasWorked (g : Setting) (s : State) (id most : ℕ) (space : Parts) (outputs : List Output) (goes_on : Bool) : Type 0 where
  pub events : List Event
  pub commits : AreCommitsOf id events
  pub within : length events ≤ most
  pub last : Event
  pub returns : IsReturnOf id goes_on last
  pub is : IsSpace g (on g last (state_after g events s)).0 space
  pub answers : outputs ≡ (on g last (state_after g events s)).1

-- how many operations there are at most after a turn that left a task so
abbrev pub operations_after : Left → ℕ → ℕ
operations_after left.GoesOn n = suc n
operations_after left.AtCall n = n
operations_after left.Ended n = n
operations_after (left.Refused fault) n = suc n

-- What came of turns: the task is in hand still, or waits or has ended.
abbrev pub IsTurned : Setting → State → ℕ → ℕ → Parts → Result Turned (TaskParts × CoreFault) → Type 0
IsTurned g s id most space (Ok (turned.InHand task)) = IsAtWork g s id most space task
IsTurned g s id most space (Ok (turned.Rests outputs)) = HasWorked g s id most space (map output_of outputs.items) false
IsTurned g s id most space (Err back) = IsAtWork g s id most space back.0

-- The space lends it, if it is in hand still.
abbrev pub IsOwn : Parts → Result Turned (TaskParts × CoreFault) → Type 0
IsOwn space (Ok (turned.InHand task)) = has_lent space.core task.hand ≡ true
IsOwn space (Ok (turned.Rests outputs)) = Unit {0}
IsOwn space (Err back) = has_lent space.core back.0.hand ≡ true
