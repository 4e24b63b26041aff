-- When the tables of tasks, results and parked frames stand for those of a state of the rules: one line a part. (This project's own.)
use Rattle.std.specs.Prelude.{◌≡◌, ◌<◌, ◌≤◌, ◌^◌, ℕ, true, false, List, Option, map}
use Rattle.space_ids.specs.declared.value.Value.{Value}
use Rattle.sp_rules.specs.Classes.{Setting}
use Rattle.sp_rules.specs.Laws.{AllOf}
use Rattle.sp_rules.specs.Runs.{AreRecorded}
use Rattle.sp_rules.specs.State.{Living, KeptResult}
use Rattle.sp_rules.specs.State as rules
use Rattle.sp_tasks.specs.Rows.{TaskRow, TaskTable}
use Rattle.sp_results.specs.Held.{AreCallResults, of_roots}
use Rattle.sp_results.specs.declared.call_results.CallResults.{CallResults}
use Rattle.sp_parked.specs.Parkings.{AreParked, parked_of}
use Rattle.sp_parked.specs.declared.frame.ParkedFrame.{ParkedFrame}
use Rattle.sp_parked.specs.declared.parked.Parked.{Parked}
use Rattle.sp_living.specs.Frames.{AreOnce}
use Rattle.sp_living.specs.Views.{kept, seen, seen_row}

-- The moment is that of the state, and below 2^63.
pub record IsMoment (now moment : ℕ) : Type 0 where
  pub same : now ≡ moment
  pub fits : moment < 2 ^ 63

-- A task that waits is not lent.
abbrev pub IsIdle : ℕ × TaskRow → Type 0
IsIdle row = row.1.waits ≡ true → row.1.lent ≡ false

-- The rows are the living tasks, in the order in which they started. Each task is what its record leaves (law `tasks_are_runs`), and none has an id above the last that was given (law `numbers_are_fresh`).
pub record AreTasks (g : Setting) (made : ℕ) (living : List Living) (table : TaskTable) : Type 0 where
  pub rows : map seen_row table.rows ≡ map seen living
  pub last : table.made ≡ made
  pub runs : AreRecorded g living
  pub numbers : AllOf (λ (t : Living). t.id ≤ made) living
  pub idle : AllOf IsIdle table.rows

-- Two tables have the results that are held: one those of the space's own roots and lookups, the other those of calls and lookups that came.
pub record AreResults (moment : ℕ) (results : List KeptResult) (roots : List (ℕ × Option Value)) (calls : CallResults) : Type 0 where
  pub of_own : map kept roots ≡ of_roots results
  pub of_calls : AreCallResults moment results calls

-- The frames of the table are those that are parked, in their order; under one connection and number one is parked (laws `calls_that_come_are_once` and `answers_are_parked`).
pub record AreParkedIn (parked : List rules.ParkedFrame) (table : Parked) : Type 0 where
  pub frames : List (ℕ × ParkedFrame)
  pub are : map (λ (row : ℕ × ParkedFrame). parked_of row.1) frames ≡ parked
  pub ticketed : AreParked frames table
  pub once : AreOnce parked
