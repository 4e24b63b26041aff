-- Numbers of the names with descriptors that the methods of all classes have. (This project's own.)
use Rattle.std.specs.Prelude.{◌≡◌, ◌<◌, ◌≤◌, ◌↔◌, ℕ, Bool, true, false, Option, Some, None, List, [], Contains, length, slice_get, slice_index_or}
use Rattle.std.specs.List.Sorted.{IsPartitionPoint, IsSortedBy}
use Rattle.std.specs.Ordering.{is_lt}
use Rattle.cls_order.specs.declared.class.Class.{Class}
use Rattle.cls_order.specs.declared.entries.Entry.{Entry}
use Rattle.cls_order.specs.Entries.{classes_of}
use Rattle.cls_set.specs.declared.key_numbers.Declared.{Declared}
use Rattle.cls_set.specs.declared.remote.MemberKind.TheVariants.{Methods}
use Rattle.cls_set.specs.Orders.{key_at, key_cmp, keys_of, Key}
use Rattle.number_trees.specs.Trees.{agree}

-- the names and descriptors of the methods of a class, by its index
abbrev pub keys_in : Option Class → List Key
keys_in None = []
keys_in (Some c) = keys_of Methods c.file

abbrev pub keys_at : List Entry → ℕ → List Key
keys_at entries k = keys_in (slice_get (classes_of entries) k)

-- the name and the descriptor of a method
abbrev pub declared_key : List Entry → Declared → Key
declared_key entries declared = key_at (keys_at entries declared.class) declared.method

-- the methods of the first classes, and those of all
abbrev pub HoldsBelow : List Entry → ℕ → List Declared → Type 0
HoldsBelow entries n all = (k i : ℕ) → k < n → i < length (keys_at entries k) → Contains all (record { class = k; method = i })

pub record AreSorted (entries : List Entry) (all : List Declared) : Type 0 where
  pub each : HoldsBelow entries (length entries) all
  pub sorted : IsSortedBy (λ a b. is_lt (key_cmp (declared_key entries a) (declared_key entries b))) all

-- how many of them come before a name and a descriptor
abbrev pub comes_before : List Entry → Key → Declared → Bool
comes_before entries key declared = is_lt (key_cmp (declared_key entries declared) key)

pub record IsKeyNumber (entries : List Entry) (all : List Declared) (key : Key) (number : ℕ) : Type 0 where
  pub within : number ≤ length all
  pub start : IsPartitionPoint (λ d. comes_before entries key d ≡ true) (λ d. comes_before entries key d ≡ false) all number

-- the numbers of the methods of a class
pub record AreNumbersOf (entries : List Entry) (all : List Declared) (class : ℕ) (numbers : List ℕ) : Type 0 where
  pub one_each : length numbers ≡ length (keys_at entries class)
  pub number : (i : ℕ) → i < length (keys_at entries class) → IsKeyNumber entries all (key_at (keys_at entries class) i) (slice_index_or numbers i 0)

-- the number of a method, by its class and its index
abbrev pub number_at : List (List ℕ) → ℕ → ℕ → ℕ
number_at numbers k i = slice_index_or (slice_index_or numbers k []) i 0

-- two methods agree in their numbers exactly where their names and their descriptors are the same
pub record AreKeyNumbers (entries : List Entry) (levels : ℕ) (numbers : List (List ℕ)) : Type 0 where
  pub one_each : length numbers ≡ length entries
  pub rows : (k : ℕ) → k < length entries → length (slice_index_or numbers k []) ≡ length (keys_at entries k)
  pub told : (k i l j : ℕ) → i < length (keys_at entries k) → j < length (keys_at entries l)
      → (agree levels (number_at numbers k i) (number_at numbers l j) ≡ true) ↔ (key_at (keys_at entries k) i ≡ key_at (keys_at entries l) j)
