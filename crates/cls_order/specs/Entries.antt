-- How a set keeps its classes: in the order of their names, with ranks and tables of supertypes. (This project's own.)
use Rattle.std.specs.Prelude.{◌≡◌, ◌<◌, ◌↔◌, ℕ, Bool, false, Option, Some, None, List, [], All, IsSomeAnd, IsTrue, length, map, slice_get, slice_index_or}
use Rattle.std.specs.List.Sorted.{IsStrictlySortedBy}
use Rattle.cls_order.specs.declared.class.Class.{Class}
use Rattle.space_ids.specs.declared.ids.ClassId.{ClassId}
use Rattle.cls_order.specs.declared.entries.Entry.{Entry}
use Rattle.cls_order.specs.Classes.{direct_supertypes, name_cmp, names}
use Rattle.cls_order.specs.Sets.{IsClassSet, IsResolved}
use Rattle.cls_order.specs.Subtypes.{IsProperSubtype}
use Rattle.cls_order.specs.Walks.{IsFirstOwn}

-- ---- entries

-- the classes of the entries
abbrev pub classes_of : List Entry → List Class
classes_of entries = map (λ m. m.class) entries

-- a class stands in the set, with a rank below this one
abbrev pub IsLower : List Entry → ℕ → ClassId → Type 0
IsLower entries rank class = IsSomeAnd (slice_get entries class.0) (λ m. m.rank < rank)

-- the direct supertypes are ranked below
abbrev pub IsRanked : List Entry → Entry → Type 0
IsRanked entries m = All (IsLower entries m.rank) (direct_supertypes m.class)

-- a table tells by number which classes are proper supertypes of class k
pub record IsTable (classes : List Class) (k : ℕ) (table : List Bool) : Type 0 where
  pub long : length table ≡ length classes
  pub supertypes : (sup : ClassId) → IsTrue (slice_index_or table sup.0 false) ↔ IsProperSubtype classes (record { 0 = k }) sup

-- there is a table for each class
pub record HaveTables (classes : List Class) (tables : List (List Bool)) : Type 0 where
  pub one_each : length tables ≡ length classes
  pub table : (k : ℕ) → k < length classes → IsTable classes k (slice_index_or tables k [])

-- entries that stand in the order of their names
pub record AreOrdered (entries : List Entry) : Type 0 where
  pub ordered : IsStrictlySortedBy name_cmp (names (classes_of entries))

-- entries whose supertypes are known
pub record AreArranged (entries : List Entry) : Type 0 where
  pub ordered : IsStrictlySortedBy name_cmp (names (classes_of entries))
  pub resolved : All (IsResolved (names (classes_of entries))) (classes_of entries)
  pub ranked : All (IsRanked entries) entries

pub record AreEntries (entries : List Entry) (told : List (List Bool)) : Type 0 where
  pub set : IsClassSet (classes_of entries)
  pub ranked : All (IsRanked entries) entries
  pub tables : HaveTables (classes_of entries) told

-- what ranking classes comes to: the first class that is its own supertype, or ranks for all
abbrev pub AreRanks : List Class → List Entry → Option ℕ → Type 0
AreRanks classes entries (Some k) = IsFirstOwn classes k
AreRanks classes entries None = All (IsRanked entries) entries
