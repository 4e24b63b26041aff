-- How a table keeps the living tasks, beside a tree over those that may go on. (This project's own.)
use Rattle.std.specs.Prelude.{◌≡◌, ◌≤◌, ◌^◌, ◌==◌, ℕ, List, nat_eq, map, Option, None, Some, if◌then◌else◌}
use Rattle.std.specs.List.{AllByRecursion, IsDistinct}
use Rattle.std.specs.Map.{keys_of}
use Rattle.least_tree.specs.Least.{Least, nothing}
use Rattle.sp_tasks.specs.Rows.{TaskRow, is_ready}

-- the number of a row in the tree: its id, if the task may go on
abbrev pub ready_number : ℕ × TaskRow → ℕ
ready_number row = if is_ready row.1 then row.0 else nothing

-- the id that a number is, if it does not stand for none
abbrev pub some_id_of : ℕ → Option ℕ
some_id_of number = if number == nothing then None else Some number

-- Each id stands once, and none is above the last that was given. The tree has the number of each row at the row's index. For this many more rows, at most as many as are free in the table, there is room in the tree too.
pub record IsTable (made spare free : ℕ) (entries : List (ℕ × TaskRow)) (tree : Least) : Type 0 where
  pub distinct : IsDistinct nat_eq (keys_of entries)
  pub below : AllByRecursion (λ id. id ≤ made) (keys_of entries)
  pub last : made ≤ 2 ^ 63
  pub numbers : tree.numbers ≡ map ready_number entries
  pub room : spare ≤ free
  pub indices : spare ≤ tree.room
