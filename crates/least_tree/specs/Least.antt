-- The least of a list of numbers, and a tree over its indices in which each index has the least number at it and below it. (This project's own.)
use Rattle.std.specs.Prelude.{◌≡◌, ℕ, ◌+◌, ◌-◌, ◌*◌, ◌^◌, min, List, [], ◌∷◌, length, slice_index_or}

-- the number that stands for none: no other is greater
abbrev pub nothing : ℕ
nothing = 2 ^ 64 - 1

abbrev pub least : List ℕ → ℕ
least [] = nothing
least (n ∷ ns) = min n (least ns)

-- the number of an index, or nothing
abbrev pub number_at : List ℕ → ℕ → ℕ
number_at numbers index = slice_index_or numbers index nothing

-- the least below an index: below it stand the indices 2 p + 1 and 2 p + 2
abbrev pub least_below : List ℕ → ℕ → ℕ
least_below lows index = min (number_at lows (2 * index + 1)) (number_at lows (2 * index + 2))

-- An index has the least of its own number and of those below it.
abbrev pub IsLow : List ℕ → List ℕ → ℕ → Type 0
IsLow numbers lows index = number_at lows index ≡ min (number_at numbers index) (least_below lows index)

-- numbers by index, and for how many more there is room
pub record Least : Type 0 where
  pub numbers : List ℕ
  pub room : ℕ

-- Each index of the tree has the least number at it and below it.
pub record IsTree (numbers lows : List ℕ) : Type 0 where
  pub len : length lows ≡ length numbers
  pub low : (index : ℕ) → IsLow numbers lows index
