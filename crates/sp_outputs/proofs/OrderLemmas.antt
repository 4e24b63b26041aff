-- Notes are told rank by rank.
use Rattle.std.proofs.Common.{◌≡◌, ℕ, suc, Bool, true, false, cond, List, [], ◌∷◌, refl, ap, ◌∙◌, arith, nat_le}
use Rattle.std.specs.Prelude.{◌==◌, ◌||◌, not, filter, map}
use Rattle.std.specs.List.{list_any}
use Rattle.std.proofs.Math.Dec.{leb-zero}
use Rattle.sp_rules.specs.Events.{Note, rank, output_of, of_rank}
use Rattle.sp_outputs.specs.Ranks.{has_rank}

-- the notes of this rank and of those above
abbrev pub from_rank : ℕ → List Note → List Note
from_rank k notes = filter (λ (n : Note). nat_le k (rank n)) notes

-- the notes of other ranks
abbrev pub of_others : ℕ → List Note → List Note
of_others k notes = filter (λ (n : Note). not (rank n == k)) notes

-- two filters are one
pub filter-filter : {X : Type 0} (p q r : X → Bool) → ((x : X) → cond (q x) (p x) false ≡ r x) → (xs : List X) → filter p (filter q xs) ≡ filter r xs
filter-filter p q r both [] = refl
filter-filter {X} p q r both (x ∷ xs) =
    (elim (q x) as (λ b. filter p (cond b (x ∷ filter q xs) (filter q xs)) ≡ cond (cond b (p x) false) (x ∷ filter p (filter q xs)) (filter p (filter q xs))) [ true ↦ refl | false ↦ refl ])
    ∙ (λ i. cond (both x i) (x ∷ filter-filter p q r both xs i) (filter-filter p q r both xs i))

-- whether one is among those that a filter leaves
any-filter : {X : Type 0} (p q r : X → Bool) → ((x : X) → cond (q x) (p x) false ≡ r x) → (xs : List X) → list_any p (filter q xs) ≡ list_any r xs
any-filter p q r both [] = refl
any-filter {X} p q r both (x ∷ xs) =
    (elim (q x) as (λ b. list_any p (cond b (x ∷ filter q xs) (filter q xs)) ≡ (cond b (p x) false || list_any p (filter q xs))) [ true ↦ refl | false ↦ refl ])
    ∙ (λ i. both x i || any-filter p q r both xs i)

-- a number is at least itself, and at least the next if it is another
at-least : (k n : ℕ) → cond (nat_le k n) (n == k) false ≡ (n == k)
at-least k n = grind arith

above : (k n : ℕ) → cond (nat_le k n) (not (n == k)) false ≡ nat_le (suc k) n
above k n = grind arith

-- of the notes from a rank on, those of the rank are all that there are
pub of-from : (k : ℕ) (notes : List Note) → of_rank (from_rank k notes) k ≡ of_rank notes k
of-from k notes = ap (map output_of) (filter-filter (λ (n : Note). rank n == k) (λ (n : Note). nat_le k (rank n)) (λ (n : Note). rank n == k) (λ n. at-least k (rank n)) notes)

pub any-from : (k : ℕ) (notes : List Note) → has_rank (from_rank k notes) k ≡ has_rank notes k
any-from k notes = any-filter (λ (n : Note). rank n == k) (λ (n : Note). nat_le k (rank n)) (λ (n : Note). rank n == k) (λ n. at-least k (rank n)) notes

pub others-from : (k : ℕ) (notes : List Note) → of_others k (from_rank k notes) ≡ from_rank (suc k) notes
others-from k notes = filter-filter (λ (n : Note). not (rank n == k)) (λ (n : Note). nat_le k (rank n)) (λ (n : Note). nat_le (suc k) (rank n)) (λ n. above k (rank n)) notes

pub from-zero : (notes : List Note) → from_rank 0 notes ≡ notes
from-zero [] = refl
from-zero (n ∷ notes) = ap (λ b. cond b (n ∷ from_rank 0 notes) (from_rank 0 notes)) (leb-zero (rank n)) ∙ ap (λ (l : List Note). n ∷ l) (from-zero notes)
