-- Sums over rows: of which some go, one is changed, or some are found.
use mathlib.Core.Path.{ap}
use Rattle.std.specs.Prelude.{◌≡◌, refl, cond, ℕ, ◌+◌, ◌≤◌, Bool, true, false, List, [], ◌∷◌, ◌++◌, Option, None, Some, filter, find, map, not, if◌then◌else◌}
use Rattle.std.proofs.Common.{arith}
use Rattle.sp_rules.specs.Lists.{at_first, total}

-- ---- sums

pub total-snoc : {A : Type 0} (f : A → ℕ) (xs : List A) (x : A) → total f (xs ++ x ∷ []) ≡ total f xs + f x
total-snoc f [] x = omega arith
total-snoc f (y ∷ xs) x = let e : total f (xs ++ x ∷ []) ≡ total f xs + f x = total-snoc f xs x in omega arith

pub total-filter : {A : Type 0} (f : A → ℕ) (p : A → Bool) (xs : List A) → total f (filter p xs) ≤ total f xs
total-filter f p [] = omega arith
total-filter f p (x ∷ xs) = pick (p x) (total-filter f p xs)
  where
    pick : (b : Bool) → total f (filter p xs) ≤ total f xs → total f (if b then x ∷ filter p xs else filter p xs) ≤ f x + total f xs
    pick true e = omega arith
    pick false e = omega arith

pub total-parts : {A : Type 0} (f : A → ℕ) (p : A → Bool) (xs : List A) → total f (filter p xs) + total f (filter (λ x. not (p x)) xs) ≡ total f xs
total-parts f p [] = refl
total-parts f p (x ∷ xs) = pick (p x) (total-parts f p xs)
  where
    pick : (b : Bool) → total f (filter p xs) + total f (filter (λ y. not (p y)) xs) ≡ total f xs
        → total f (if b then x ∷ filter p xs else filter p xs) + total f (if not b then x ∷ filter (λ y. not (p y)) xs else filter (λ y. not (p y)) xs) ≡ f x + total f xs
    pick true e = omega arith
    pick false e = omega arith

unfoldable pub value_in : {A : Type 0} (f : A → ℕ) → Option A → ℕ
value_in f None = 0
value_in f (Some a) = f a

-- what is found is in the sum, and what is left without all such is no more than the rest
pub total-find : {A : Type 0} (f : A → ℕ) (p : A → Bool) (xs : List A) → value_in f (find p xs) + total f (filter (λ x. not (p x)) xs) ≤ total f xs
unfolding value_in
total-find f p [] = omega arith
total-find f p (x ∷ xs) = pick (p x) (total-find f p xs) (total-filter f (λ y. not (p y)) xs)
  where
    pick : (b : Bool) → value_in f (find p xs) + total f (filter (λ y. not (p y)) xs) ≤ total f xs → total f (filter (λ y. not (p y)) xs) ≤ total f xs
        → value_in f (cond b (Some x) (find p xs)) + total f (if not b then x ∷ filter (λ y. not (p y)) xs else filter (λ y. not (p y)) xs) ≤ f x + total f xs
    pick true e k = omega arith
    pick false e k = omega arith

pub found-value : {A : Type 0} (f : A → ℕ) (o : Option A) (a : A) → o ≡ Some a → value_in f o ≡ f a
unfolding value_in
found-value f o a e = ap (value_in f) e

-- one row is changed
pub total-first : {A : Type 0} (f : A → ℕ) (p : A → Bool) (g : A → A) (xs : List A)
    → total f (at_first p g xs) + value_in f (find p xs) ≡ total f xs + value_in (λ a. f (g a)) (find p xs)
unfolding value_in
total-first f p g [] = refl
total-first f p g (x ∷ xs) = pick (p x) (total-first f p g xs)
  where
    pick : (b : Bool) → total f (at_first p g xs) + value_in f (find p xs) ≡ total f xs + value_in (λ a. f (g a)) (find p xs)
        → total f (if b then g x ∷ xs else x ∷ at_first p g xs) + value_in f (cond b (Some x) (find p xs)) ≡ f x + total f xs + value_in (λ a. f (g a)) (cond b (Some x) (find p xs))
    pick true e = omega arith
    pick false e = omega arith

pub total-map : {A : Type 0} (f : A → ℕ) (p : A → Bool) (g : A → A) (xs : List A) → ((x : A) → f (g x) ≤ f x) → total f (map (λ x. if p x then g x else x) xs) ≤ total f xs
total-map f p g [] le = omega arith
total-map f p g (x ∷ xs) le = pick (p x) (total-map f p g xs le) (le x)
  where
    pick : (b : Bool) → total f (map (λ y. if p y then g y else y) xs) ≤ total f xs → f (g x) ≤ f x
        → f (if b then g x else x) + total f (map (λ y. if p y then g y else y) xs) ≤ f x + total f xs
    pick true e k = omega arith
    pick false e k = omega arith
