-- The references to remote objects that a task has come by: each stands once, in the order in which they came, and a task's values name
-- them by their rows. A task may come by a limited number of them. (This project's own; Java RMI specification, 2.6, on references.)
use Rattle.std.specs.Prelude.{◌≡◌, ◌≤◌, ◌<◌, ℕ, Bool, List, [], ◌∷◌, ◌++◌, length, Option, Some, None, map, nat_lt, ◌&&◌, ◌==◌, if◌then◌else◌, slice_get}
use Rattle.std.specs.List.{position}
use Rattle.std.specs.Str.{bytes_eq}
use Rattle.space_ids.specs.declared.ids.Ref.{Ref}
pub use Rattle.space_ids.specs.References.{is_same_reference}
use Rattle.uuid.specs.declared.Uuid.{Uuid}
use Rattle.vm_heap.specs.Tagged.{most_rows}

-- the id of the task's own space, the references by row, and how many there may be
pub record Table : Type 0 where
  pub own : Uuid
  pub rows : List Ref
  pub limit : ℕ

-- a reference to an object of the task's own space
abbrev pub is_own : Table → Ref → Bool
is_own table reference = bytes_eq reference.space table.own

-- the row of a reference: none if the task has not come by it
unfoldable pub row_of : List Ref → Ref → Option ℕ
row_of rows reference = position (is_same_reference reference) rows

abbrev pub new_row : Table → Option ℕ
new_row table = if nat_lt (length table.rows) table.limit then Some (length table.rows) else None

abbrev pub row_or_new : Table → Option ℕ → Option ℕ
row_or_new table None = new_row table
row_or_new table (Some row) = Some row

-- the row that a reference has once the task has come by it: none if it is over the limit
abbrev pub row_for : Ref → Table → Option ℕ
row_for reference table = row_or_new table (row_of table.rows reference)

abbrev pub with_new_row : Ref → Table → Table
with_new_row reference table =
    if nat_lt (length table.rows) table.limit then record table { rows = table.rows ++ reference ∷ [] } else table

abbrev pub with_reference_unless : Ref → Table → Option ℕ → Table
with_reference_unless reference table None = with_new_row reference table
with_reference_unless reference table (Some row) = table

-- the references once the task has come by one: it counts once, and one over the limit changes nothing
abbrev pub with_reference : Ref → Table → Table
with_reference reference table = with_reference_unless reference table (row_of table.rows reference)

-- of each row is known whether its reference is to an object of this space, and there is room to know it of as many as there may be
pub record AreMarked (own : Uuid) (rows : List Ref) (limit : ℕ) (are_own : List Bool) (room : ℕ) : Type 0 where
  pub marks : are_own ≡ map (λ (r : Ref). bytes_eq r.space own) rows
  pub reserved : limit ≤ room

-- each reference stands once: the row of each is its own
pub record IsTable (rows : List Ref) (limit room : ℕ) : Type 0 where
  pub once : (row : ℕ) (reference : Ref) → slice_get rows row ≡ Some reference → row_of rows reference ≡ Some row
  pub within : length rows ≤ limit
  pub reserved : limit ≤ room
  pub small : limit < most_rows
