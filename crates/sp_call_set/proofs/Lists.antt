-- Tests of lists.
use Rattle.std.proofs.Common.{◌≡◌, ◌⊎◌, inl, inr, ℕ, zero, suc, ◌+◌, ◌<◌, Bool, true, false, List, [], ◌∷◌, ◌++◌, map, refl, sym, subst, ap, ◌∙◌, arith, add-one, append-nil}
use Rattle.std.specs.Prelude.{◌||◌, ◌&&◌, cond, filter}
use Rattle.std.specs.List.{list_any}
use Rattle.std.proofs.lemmas.List.{map-append}
use Rattle.std.proofs.lemmas.List.Elements.{filter-append}
use Rattle.sp_rules.specs.Lists.{numbers_below}

-- tests that answer the same of each element
pub any_same : {A : Type 0} (p q : A → Bool) → ((x : A) → p x ≡ q x) → (xs : List A) → list_any p xs ≡ list_any q xs
any_same p q same [] = refl
any_same p q same (x ∷ xs) = ap (λ b. b || list_any p xs) (same x) ∙ ap (λ b. q x || b) (any_same p q same xs)

pub any_none : {A : Type 0} (p : A → Bool) → ((x : A) → p x ≡ false) → (xs : List A) → list_any p xs ≡ false
any_none p none [] = refl
any_none p none (x ∷ xs) = ap (λ b. b || list_any p xs) (none x) ∙ any_none p none xs

or_right : (a b : Bool) → b ≡ true → (a || b) ≡ true
or_right true b e = refl
or_right false b e = e

any_last : (p : ℕ → Bool) (xs : List ℕ) (n : ℕ) → p n ≡ true → list_any p (xs ++ n ∷ []) ≡ true
any_last p [] n e = ap (λ b. b || false) e
any_last p (x ∷ xs) n e = or_right (p x) (list_any p (xs ++ n ∷ [])) (any_last p xs n e)

any_before : (p : ℕ → Bool) (xs ys : List ℕ) → list_any p xs ≡ true → list_any p (xs ++ ys) ≡ true
any_before p [] ys e = absurd (cc)
any_before p (x ∷ xs) ys e = by (any_before p xs ys) (p x) e
  where
    by : (list_any p xs ≡ true → list_any p (xs ++ ys) ≡ true) → (b : Bool) → (b || list_any p xs) ≡ true → (b || list_any p (xs ++ ys)) ≡ true
    by go true e = refl
    by go false e = go e

before_or_last : (k n : ℕ) → k < suc n → (k < n) ⊎ (k ≡ n)
before_or_last zero zero h = inr refl
before_or_last (suc k) zero h = absurd (omega (arith, h))
before_or_last zero (suc n) h = inl (omega arith)
before_or_last (suc k) (suc n) h =
    elim (before_or_last k n (omega (arith, h))) [ inl less ↦ inl (omega (arith, less)) | inr same ↦ inr (ap (λ (m : ℕ). suc m) same) ]

-- one of the numbers passes
pub any_below : (p : ℕ → Bool) (k n : ℕ) → k < n → p k ≡ true → list_any p (numbers_below n) ≡ true
any_below p k zero h e = absurd (omega (arith, h))
any_below p k (suc n) h e =
    elim (before_or_last k n h) [
      | inl less ↦ any_before p (numbers_below n) (n ∷ []) (any_below p k n less e)
      | inr same ↦ any_last p (numbers_below n) n (subst (λ m. p m ≡ true) same e)
    ]

pub any_map : {A B : Type 0} (f : A → B) (p : B → Bool) (xs : List A) → list_any p (map f xs) ≡ list_any (λ x. p (f x)) xs
any_map f p [] = refl
any_map f p (x ∷ xs) = ap (λ b. p (f x) || b) (any_map f p xs)

pub any_filter : {A : Type 0} (r p : A → Bool) (xs : List A) → list_any p (filter r xs) ≡ list_any (λ x. r x && p x) xs
any_filter r p [] = refl
any_filter r p (x ∷ xs) = by (any_filter r p xs) (r x)
  where
    by : list_any p (filter r xs) ≡ list_any (λ x. r x && p x) xs → (b : Bool)
        → list_any p (cond b (x ∷ filter r xs) (filter r xs)) ≡ ((b && p x) || list_any (λ x. r x && p x) xs)
    by go true = ap (λ b. p x || b) go
    by go false = go

-- ---- those that pass

pub one_kept : {A : Type 0} (r : A → Bool) (x : A) (xs : List A) → true ≡ r x → xs ++ x ∷ [] ≡ xs ++ filter r (x ∷ [])
one_kept r x xs e = ap (λ b. xs ++ cond b (x ∷ []) []) e

pub one_left : {A : Type 0} (r : A → Bool) (x : A) (xs : List A) → false ≡ r x → xs ≡ xs ++ filter r (x ∷ [])
one_left r x xs e = sym (append-nil xs) ∙ ap (λ b. xs ++ cond b (x ∷ []) []) e

-- one number more
pub one_more : {A : Type 0} (r : A → Bool) (f : ℕ → A) (n : ℕ)
    → filter r (map f (numbers_below (n + 1))) ≡ filter r (map f (numbers_below n)) ++ filter r (f n ∷ [])
one_more r f n = rw (add-one n) (ap (filter r) (map-append f (numbers_below n) (n ∷ [])) ∙ filter-append r (map f (numbers_below n)) (f n ∷ []))
