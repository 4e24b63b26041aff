-- Which classes are marked, or below one that is. (This project's own.)
use Rattle.std.specs.Prelude.{◌<◌, ◌⊎◌, ℕ, Bool, false, Option, Some, None, List, All, Contains, IsTrue, length, slice_get, slice_index_or}
use Rattle.std.specs.List.Sorted.{IsSortedBy}
use Rattle.std.specs.Ordering.{is_lt, nat_cmp}
use Rattle.cls_order.specs.declared.class.Class.{Class}
use Rattle.space_ids.specs.declared.ids.ClassId.{ClassId}
use Rattle.cls_order.specs.declared.entries.Entry.{Entry}
use Rattle.cls_order.specs.Subtypes.{IsProperSubtype}

-- the rank of an entry, and 0 of none
abbrev pub rank_in : Option Entry → ℕ
rank_in None = 0
rank_in (Some m) = m.rank

abbrev pub rank_at : List Entry → ℕ → ℕ
rank_at entries k = rank_in (slice_get entries k)

-- the indices of the entries, each of them, in the order of their ranks
pub record IsByRank (entries : List Entry) (order : List ℕ) : Type 0 where
  pub only : All (λ k. k < length entries) order
  pub each : (k : ℕ) → k < length entries → Contains order k
  pub sorted : IsSortedBy (λ i j. is_lt (nat_cmp (rank_at entries i) (rank_at entries j))) order

-- whether a class is marked, by number
abbrev pub IsMarked : List Bool → ℕ → Type 0
IsMarked marks k = IsTrue (slice_index_or marks k false)

-- a class is marked, or one of its supertypes is
abbrev pub Reaches : List Class → List Bool → ℕ → Type 0
Reaches classes marks k = IsMarked marks k ⊎ ((s : ClassId) × IsProperSubtype classes (record { 0 = k }) s × IsMarked marks s.0)
