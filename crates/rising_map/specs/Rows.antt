-- Rows by numbers that rise, as the list of them. (This project's own.)
use Rattle.std.specs.Prelude.{◌≡◌, ℕ, ◌<◌, nat_eq, List, [], ◌∷◌, Option, None, Some}
use Rattle.std.specs.Map.{keys_of, lookup}
use Rattle.indexmap.specs.IndexMap.{spare}
use Rattle.rising_map.specs.declared.map.RisingMap.{RisingMap}

-- each of these numbers is above this one
abbrev pub AreAbove : ℕ → List ℕ → Type 0
AreAbove n [] = Unit {0}
AreAbove n (m ∷ ms) = (n < m) × AreAbove n ms

-- each of these numbers is below this one
abbrev pub AreBelow : ℕ → List ℕ → Type 0
AreBelow n [] = Unit {0}
AreBelow n (m ∷ ms) = (m < n) × AreBelow n ms

-- the numbers rise
abbrev pub Rises : List ℕ → Type 0
Rises [] = Unit {0}
Rises (n ∷ ns) = AreAbove n ns × Rises ns

-- the row that came first
abbrev pub first_row : {T : Type 0} → List (ℕ × T) → Option (ℕ × T)
first_row [] = None
first_row (row ∷ rows) = Some row

-- The numbers of the rows rise, and each row is found by its number.
pub record AreRows {T : Type 0} (rows : List (ℕ × T)) (map : RisingMap T) : Type 0 where
  pub rises : Rises (keys_of rows)
  pub found : (number : ℕ) → lookup (nat_eq number) map.rows.entries ≡ lookup (nat_eq number) rows

-- for how many more rows a map has room
abbrev pub room : {T : Type 0} → RisingMap T → ℕ
room map = spare map.rows

-- whatever rows the map may have, the other may have, if copies of rows are the rows
abbrev pub HasRowsOf : {T : Type 0} → (T → T → Type 0) → RisingMap T → RisingMap T → Type 0
HasRowsOf {T} copies map other = ((row copy : T) → copies row copy → copy ≡ row) → (rows : List (ℕ × T)) → AreRows rows map → AreRows rows other
