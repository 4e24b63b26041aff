use Rattle.std.proofs.Common.{◌≡◌, ℕ, [], length, get_or, take}
use Rattle.std.specs.Prelude.{Contains}
use Rattle.cls_order.specs.Entries.{classes_of, IsTable}
use Rattle.cls_order.proofs.subtype_tables.tables.Given as goal

abbrev pub invariant-loop : goal.invariant-loop
invariant-loop l = length l.tables.items ≡ l.counter

-- the classes so far have their tables
abbrev pub invariant-loop-index : goal.invariant-loop-index
invariant-loop-index l =
    (length l.tables.items ≡ length l.entries)
    × ((k : ℕ) → Contains (take l.index-index l.index-items) k → IsTable (classes_of l.entries) k (get_or l.tables.items k []))
