-- What is seen of a living task and of a held result, beside machines and tables. (This project's own.)
use Rattle.std.specs.Prelude.{ℕ, Bool, List, [], ◌∷◌, ◌++◌, Option}
use Rattle.space_ids.specs.declared.ids.Ref.{Ref}
use Rattle.space_ids.specs.declared.value.Value.{Value}
use Rattle.sp_rules.specs.State.{Living, KeptResult, Origin, RootAcked}
use Rattle.sp_tasks.specs.Recorded.{Recorded}
use Rattle.sp_tasks.specs.Rows.{TaskRow}

-- a list in the other order
abbrev pub turned : {A : Type 0} → List A → List A
turned [] = []
turned (x ∷ xs) = turned xs ++ x ∷ []

-- what a table has of a living task, beside its machine: how it began, whether it waits, the references that it holds, its record, and its own instructions since the last reply
pub record Seen : Type 0 where
  pub id : ℕ
  pub origin : Origin
  pub waits : Bool
  pub held : List Ref
  pub past : Recorded
  pub steps : ℕ

-- what is recorded of a task, the oldest reply first
abbrev pub recorded_in : Living → Recorded
recorded_in t = record { began = t.began; given = turned t.given }

abbrev pub seen : Living → Seen
seen t = record { id = t.id; origin = t.origin; waits = t.waits; held = t.task.held; past = recorded_in t; steps = t.steps }

-- the same of a row of the table
abbrev pub seen_row : ℕ × TaskRow → Seen
seen_row row = record { id = row.0; origin = row.1.origin; waits = row.1.waits; held = row.1.held; past = row.1.past; steps = row.1.steps }

-- the result of a root or lookup that is held
abbrev pub kept : ℕ × Option Value → KeptResult
kept row = record { until = RootAcked row.0; value = row.1 }
