-- Offsets at which no instruction stands.
use Rattle.std.proofs.Common.{◌≡◌, ◌≢◌, ℕ, zero, suc, inl, inr, ◌+◌, sym, subst, add-one, ◌<◌, ◌≤◌, false, List, [], ◌∷◌, length, get_or, Err, ◌==◌, Fits, w16, refl, arith}
use Rattle.std.specs.List.{list_any}
use Rattle.cf_insns.specs.Listing.{Rises}
use Rattle.cls_set.proofs.Walks.{before}
use Rattle.std.specs.List.Sorted.{IsBinarySearchResult, IsStrictlyIncreasing}
use Rattle.std.specs.Ordering.{nat_cmp}
use Rattle.std.proofs.lemmas.Bool.Decides.{nat_tests}
use Rattle.std.proofs.lemmas.List.Sorted.{searched}
use Rattle.std.proofs.lemmas.Map.Keys.{sorted_from_strictly_increasing, non_decreasing_from_sorted}

-- a number that differs from each of a list is none of them
pub not_among : (xs : List ℕ) (x : ℕ) → ((k : ℕ) → k < length xs → get_or xs k 0 ≢ x) → list_any (λ y. y == x) xs ≡ false
not_among [] x differ = refl
not_among (y ∷ ys) x differ =
    let first : y ≢ x = differ 0 (omega arith) in
    let others : list_any (λ z. z == x) ys ≡ false = not_among ys x (λ k lt. differ (suc k) (omega arith)) in
    grind (arith, nat_tests, others)

apart : (k i n here x : ℕ) → (k < i → here < x) → (i ≤ k → k < n → x < here) → k < n → here ≡ x → ⊥
apart k i n here x below above lt same = grind arith

-- numbers of 16 bits are none that does not fit
pub not_fitting : (xs : List ℕ) (x : ℕ) → ((k : ℕ) → Fits w16 (get_or xs k 0)) → 65535 < x → list_any (λ y. y == x) xs ≡ false
not_fitting xs x fit large = not_among xs x (λ k lt same. omega (arith, fit k))

-- what a binary search does not find among rising numbers is none of them
pub not_found : (xs : List ℕ) (x i : ℕ) → IsStrictlyIncreasing xs → IsBinarySearchResult (λ y. nat_cmp y x) xs (Err i)
    → list_any (λ y. y == x) xs ≡ false
not_found xs x i rising search_says =
    let outside = searched xs x (Err i) search_says (λ i' j le lt. non_decreasing_from_sorted xs (sorted_from_strictly_increasing xs rising) i' j 0 le lt) in
    not_among xs x (λ k lt. apart k i (length xs) (get_or xs k 0) x (outside.1 k) (outside.2 k) lt)

-- each of rising numbers is below all that come after it
pub rise : (xs : List ℕ) → IsStrictlyIncreasing xs → Rises xs
rise xs rising i zero lt inside = absurd (omega (arith, lt))
rise xs rising i (suc j) lt inside =
    let next : j + 1 ≡ suc j = add-one j in
    let last : get_or xs j 0 < get_or xs (suc j) 0 = rw next at (rising j (omega (arith, inside))) in
    elim (before i j) [
      | inl less ↦ let far : get_or xs i 0 < get_or xs j 0 = rise xs rising i j less (omega (arith, inside)) in omega (arith, far, last)
      | inr more ↦ let same : i ≡ j = omega (arith, lt, more) in subst (λ (k : ℕ). get_or xs k 0 < get_or xs (suc j) 0) (sym same) last
    ]
