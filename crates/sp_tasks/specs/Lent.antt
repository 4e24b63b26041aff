-- Which tasks are lent, by their ids, and what calls make of that. (This project's own.)
use Rattle.std.specs.Prelude.{◌≡◌, ◌==◌, ◌&&◌, ◌||◌, not, ℕ, Bool, false, option_map, unwrap_or}
use Rattle.sp_tasks.specs.Rows.{TaskRow, TaskTable, row_of}

-- whether a task of this id lives and is lent
abbrev pub is_lent_in : ℕ → TaskTable → Bool
is_lent_in id table = unwrap_or (option_map (λ (row : TaskRow). row.lent) (row_of id table.rows)) false

-- Each task is lent afterwards as before.
pub record KeepsLent (old new : TaskTable) : Type 0 where
  pub lent : (id : ℕ) → is_lent_in id new ≡ is_lent_in id old

-- This task is lent afterwards, and each other as before.
pub record LendsToo (task : ℕ) (old new : TaskTable) : Type 0 where
  pub lent : (id : ℕ) → is_lent_in id new ≡ (id == task || is_lent_in id old)

-- This task is not lent afterwards, and each other as before.
pub record LendsNoMore (task : ℕ) (old new : TaskTable) : Type 0 where
  pub lent : (id : ℕ) → is_lent_in id new ≡ (not (id == task) && is_lent_in id old)
