-- What a task asks of its space is of what it holds, and an entry has the number of the call that set it (this project's own rules; Java RMI specification, 9.1: calls of a client are ordered by their sequence numbers).
use Rattle.std.specs.Prelude.{◌≡◌, ℕ, true, is_some, List, Option, None, Some}
use Rattle.dgc_list.specs.History.{remembered_of}
use Rattle.space_ids.specs.declared.ids.ObjId.{ObjId}
use Rattle.sp_rules.specs.Classes.{Setting}
use Rattle.sp_rules.specs.Events.{Event, Committed, Parked, Finished}
use Rattle.sp_rules.specs.References.{references_in}
use Rattle.sp_rules.specs.Refusals.{refusal, holds, holds_op, result_of, stand_after}
use Rattle.sp_rules.specs.Space.{state_of}
use Rattle.sp_rules.specs.State.{State, task_at}
use Rattle.sp_rules.specs.Tasks.{Stand, Runs, AsksFor, HasEnded}

-- a task stands at an operation of what it holds, or at an end with a result that it holds
abbrev pub StandsAtHeld : Setting → State → ℕ → Option Stand → Type 0
StandsAtHeld g s task None = Unit {0}
StandsAtHeld g s task (Some Runs) = Unit {0}
StandsAtHeld g s task (Some (AsksFor op)) = holds_op g (task_at s task) op ≡ true
StandsAtHeld g s task (Some (HasEnded outcome)) = holds (task_at s task) (references_in (result_of outcome)) ≡ true

-- an operation that is done, a call that is parked, and a result with which a task ends
abbrev pub AsksOfHeld : Setting → State → Event → Type 0
AsksOfHeld g s (Committed task k op) = holds_op g (task_at s task) op ≡ true
AsksOfHeld g s (Parked task k) = StandsAtHeld g s task (stand_after k (task_at s task))
AsksOfHeld g s (Finished task k) = StandsAtHeld g s task (stand_after k (task_at s task))
AsksOfHeld g s _ = Unit {0}

-- This holds of each event that a space does not refuse.
abbrev pub TasksAskOfWhatTheyHold : Type 0
TasksAskOfWhatTheyHold = (g : Setting) (lent : List ℕ) (s : State) (e : Event) → refusal g lent s e ≡ None → AsksOfHeld g s e

-- After every history a client's entry for an object has a number that is remembered.
abbrev pub EntriesHaveNumbers : Type 0
EntriesHaveNumbers = (g : Setting) (h : List Event) (client : List ℕ) (o : ObjId)
    → is_some (remembered_of (state_of g h).owner.entries client o).expires ≡ true → is_some (remembered_of (state_of g h).owner.entries client o).number ≡ true
