-- A book: the entries that the calls of a space append to its history, and the state to which they replay. (This project's own rule.)
use Rattle.std.specs.Prelude.{◌≡◌, ℕ, List, [], ◌∷◌, map, reverse}
use Rattle.sp_rules.specs.Behaviours.{Op, Reply}
use Rattle.sp_rules.specs.Classes.{Setting}
use Rattle.sp_rules.specs.Events.{Event, Committed, Parked, GivenBack, Finished, Output}
use Rattle.sp_rules.specs.LivingTasks.{op_reply}
use Rattle.sp_rules.specs.Space.{state_of, on, all_outputs}
use Rattle.sp_rules.specs.State.{State}

-- An entry stands for n private instructions of a task and then one event; that of an event of the space itself is the event. The reply of
-- a commit is entered with it, that of a parked call is the one that the space gives the task at a later entry.
pub data Entry : Type 0 where
  OnEvent : (event : Event) → Entry
  OnCommit : (task steps : ℕ) (op : Op) (reply : Reply) → Entry
  OnPark : (task steps : ℕ) (op : Op) → Entry
  OnGiveBack OnFinish : (task steps : ℕ) → Entry

abbrev pub event_of : Entry → Event
event_of (OnEvent event) = event
event_of (OnCommit task steps op reply) = Committed task steps op
event_of (OnPark task steps op) = Parked task steps
event_of (OnGiveBack task steps) = GivenBack task steps
event_of (OnFinish task steps) = Finished task steps

-- the history that entries are, newest event first; entries stand oldest first
abbrev pub history_of : List Entry → List Event
history_of entries = reverse (map event_of entries)

-- the state to which entries replay
unfoldable pub book_run : Setting → List Entry → State
book_run g entries = state_of g (history_of entries)

-- all that they answer
abbrev pub book_outputs : Setting → List Entry → List Output
book_outputs g entries = all_outputs g (history_of entries)

-- The reply of a commit is the one that the space gives its operation.
abbrev pub IsTrueEntry : Setting → State → Entry → Type 0
IsTrueEntry g s (OnEvent event) = Unit {0}
IsTrueEntry g s (OnCommit task steps op reply) = reply ≡ op_reply g op s
IsTrueEntry g s (OnPark task steps op) = Unit {0}
IsTrueEntry g s (OnGiveBack task steps) = Unit {0}
IsTrueEntry g s (OnFinish task steps) = Unit {0}

-- each entry is true of the state before it
abbrev pub AreTrueFrom : Setting → State → List Entry → Type 0
AreTrueFrom g s [] = Unit {0}
AreTrueFrom g s (e ∷ es) = IsTrueEntry g s e × AreTrueFrom g (on g (event_of e) s).0 es
