-- What is recorded of a living task. (This project's own.)
use Rattle.std.specs.Prelude.{ℕ, Bool, false, true, List, [], ◌∷◌, ◌++◌, Option, None, Some, ◌≡◌, ◌<◌}
use Rattle.sp_rules.specs.Behaviours.{Reply}
use Rattle.sp_rules.specs.State as rules

-- how it began, and the replies that it was given, oldest first
pub record Recorded : Type 0 where
  pub began : rules.Beginning
  pub given : List rules.Given

-- what is recorded of a task, and for how many more replies its record has room
pub record RecordedRoom : Type 0 where
  pub past : Recorded
  pub room : ℕ

-- a reply, after this number of the task's own instructions, for which it lent its fuel or not
abbrev pub with_entry : ℕ → Bool → Reply → Recorded → Recorded
with_entry steps lent reply past = record past { given = past.given ++ record { steps = steps; lent = lent; reply = reply } ∷ [] }

-- a reply to an operation on the store
abbrev pub with_given : ℕ → Reply → Recorded → Recorded
with_given steps reply past = with_entry steps false reply past

-- a reply to a call
abbrev pub with_answer : ℕ → Reply → Recorded → Recorded
with_answer steps reply past = with_entry steps true reply past

-- the same record, if there is one, with room for one more reply
abbrev pub IsSpareCopy : Option RecordedRoom → Option RecordedRoom → Type 0
IsSpareCopy None None = Unit {0}
IsSpareCopy None (Some copy) = ⊥
IsSpareCopy (Some spare) None = ⊥
IsSpareCopy (Some spare) (Some copy) = (copy.past ≡ spare.past) × (0 < copy.room)
