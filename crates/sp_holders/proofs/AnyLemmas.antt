-- One of many.
use Rattle.std.proofs.Common.{◌≡◌, ℕ, zero, suc, ◌+◌, ◌<◌, ◌≤◌, ◌⊎◌, inl, inr, Bool, true, false, cond, List, [], ◌∷◌, ◌++◌, Option, Some, refl, sym, ap, ◌∙◌, map, length, get_or, take, arith}
use Rattle.std.specs.Prelude.{◌||◌, filter, slice_get}
use Rattle.std.specs.List.{flat_map, list_any}
use Rattle.std.proofs.lemmas.List.{take_more}
use Rattle.std.proofs.lemmas.Option.{slice_get_cases}

or-true : (b : Bool) → (b || true) ≡ true
or-true true = refl
or-true false = refl

or-false : (b : Bool) → (b || false) ≡ b
or-false true = refl
or-false false = refl

or-three : (a b c : Bool) → ((a || b) || c) ≡ (a || (b || c))
or-three true b c = refl
or-three false b c = refl

pub or-left : (a b : Bool) → a ≡ true → (a || b) ≡ true
or-left a b h = ap (λ t. t || b) h

pub or-right : (a b : Bool) → b ≡ true → (a || b) ≡ true
or-right a b h = ap (λ t. a || t) h ∙ or-true a

-- ---- one after the other

-- one of them is the one at an index
pub any-here : {A : Type 0} (p : A → Bool) (xs : List A) (i : ℕ) (d : A) → i < length xs → p (get_or xs i d) ≡ true → list_any p xs ≡ true
any-here p [] i d within here = absurd (omega arith)
any-here p (x ∷ xs) zero d within here = ap (λ b. b || list_any p xs) here
any-here p (x ∷ xs) (suc i) d within here = or-right (p x) (list_any p xs) (any-here p xs i d (omega arith) here)

any-last : {A : Type 0} (p : A → Bool) (xs : List A) (x : A) → list_any p (xs ++ x ∷ []) ≡ (list_any p xs || p x)
any-last p [] x = or-false (p x)
any-last p (y ∷ ys) x = ap (λ b. p y || b) (any-last p ys x) ∙ sym (or-three (p y) (list_any p ys) (p x))

-- none so far is one
pub none-more : {A : Type 0} (p : A → Bool) (xs : List A) (i : ℕ) (d : A) → i < length xs → list_any p (take i xs) ≡ false → p (get_or xs i d) ≡ false → list_any p (take (i + 1) xs) ≡ false
none-more p xs i d within none here = ap (list_any p) (take_more xs i d within) ∙ any-last p (take i xs) (get_or xs i d) ∙ (λ j. none j || here j)

-- the same of what is found at an index
pub any-at : {A : Type 0} (p : A → Bool) (q : Option A → Bool) (xs : List A) (i : ℕ) → i < length xs → ((x : A) → q (Some x) ≡ p x) → q (slice_get xs i) ≡ true → list_any p xs ≡ true
any-at {A = A} p q xs i within same here = by (slice_get_cases xs i).1
  where
    by : ((x : A) × (i < length xs) × (slice_get xs i ≡ Some x) × (get_or xs i x ≡ x)) ⊎ ((length xs ≤ i) × (slice_get xs i ≡ Rattle.std.proofs.Common.None)) → list_any p xs ≡ true
    by (inl w) = any-here p xs i w.0 within (ap p w.3 ∙ sym (same w.0) ∙ ap q (sym w.2) ∙ here)
    by (inr w) = let past = w.0 in absurd (omega (arith, within, past))

pub none-at : {A : Type 0} (p : A → Bool) (q : Option A → Bool) (xs : List A) (i : ℕ) → i < length xs → ((x : A) → q (Some x) ≡ p x) → list_any p (take i xs) ≡ false → q (slice_get xs i) ≡ false → list_any p (take (i + 1) xs) ≡ false
none-at {A = A} p q xs i within same none here = by (slice_get_cases xs i).1
  where
    by : ((x : A) × (i < length xs) × (slice_get xs i ≡ Some x) × (get_or xs i x ≡ x)) ⊎ ((length xs ≤ i) × (slice_get xs i ≡ Rattle.std.proofs.Common.None)) → list_any p (take (i + 1) xs) ≡ false
    by (inl w) = none-more p xs i w.0 within none (ap p w.3 ∙ sym (same w.0) ∙ ap q (sym w.2) ∙ here)
    by (inr w) = let past = w.0 in absurd (omega (arith, within, past))

-- ---- others of which it is true

pub any-filter : {A : Type 0} (p q : A → Bool) (xs : List A) → list_any p (filter q xs) ≡ true → list_any p xs ≡ true
any-filter p q [] one = one
any-filter p q (x ∷ xs) one = by (any-filter p q xs) (q x) one
  where
    pick : (list_any p (filter q xs) ≡ true → list_any p xs ≡ true) → (a : Bool) → (a || list_any p (filter q xs)) ≡ true → (a || list_any p xs) ≡ true
    pick more true h = refl
    pick more false h = more h

    by : (list_any p (filter q xs) ≡ true → list_any p xs ≡ true) → (b : Bool) → list_any p (cond b (x ∷ filter q xs) (filter q xs)) ≡ true → (p x || list_any p xs) ≡ true
    by more true h = pick more (p x) h
    by more false h = or-right (p x) (list_any p xs) (more h)

any-append : {A : Type 0} (p : A → Bool) (xs ys : List A) → list_any p (xs ++ ys) ≡ (list_any p xs || list_any p ys)
any-append p [] ys = refl
any-append p (x ∷ xs) ys = ap (λ b. p x || b) (any-append p xs ys) ∙ sym (or-three (p x) (list_any p xs) (list_any p ys))

pub any-flat : {A B : Type 0} (p : B → Bool) (f : A → List B) (xs : List A) → list_any p (flat_map f xs) ≡ list_any (λ (x : A). list_any p (f x)) xs
any-flat p f [] = refl
any-flat p f (x ∷ xs) = any-append p (f x) (flat_map f xs) ∙ ap (λ b. list_any p (f x) || b) (any-flat p f xs)

pub any-map : {A B : Type 0} (p : B → Bool) (f : A → B) (xs : List A) → list_any p (map f xs) ≡ list_any (λ (x : A). p (f x)) xs
any-map p f [] = refl
any-map p f (x ∷ xs) = ap (λ b. p (f x) || b) (any-map p f xs)
