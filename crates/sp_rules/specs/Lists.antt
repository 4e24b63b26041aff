-- Operations on lists with which the rules of a space are written: something is done for each of a list in turn, one row of a table is
-- changed. (This project's own; no rule of a space stands here.)
use Rattle.std.specs.Prelude.{ℕ, zero, suc, ◌+◌, Bool, List, [], ◌∷◌, ◌++◌, Option, None, Some, fold, if◌then◌else◌}

-- what is left of a state after something is done for each of these, in turn
unfoldable pub each : {S A : Type 0} → (S → A → S) → List A → S → S
each f xs s = fold f s xs

-- what is made of something that may be there, or this if it is not
abbrev pub with_some : {A B : Type 0} → Option A → B → (A → B) → B
with_some None none some = none
with_some (Some x) none some = some x

-- the first row of which this is true is changed
abbrev pub at_first : {A : Type 0} → (A → Bool) → (A → A) → List A → List A
at_first is f [] = []
at_first is f (x ∷ xs) = if is x then f x ∷ xs else x ∷ at_first is f xs

-- the row with this number, counted from 0, is changed
abbrev pub at_index : {A : Type 0} → (A → A) → ℕ → List A → List A
at_index f n [] = []
at_index f zero (x ∷ xs) = f x ∷ xs
at_index f (suc n) (x ∷ xs) = x ∷ at_index f n xs

-- the numbers below this one, rising
abbrev pub numbers_below : ℕ → List ℕ
numbers_below zero = []
numbers_below (suc n) = numbers_below n ++ n ∷ []

-- the sum over a list
abbrev pub total : {A : Type 0} → (A → ℕ) → List A → ℕ
total f [] = 0
total f (x ∷ xs) = f x + total f xs
