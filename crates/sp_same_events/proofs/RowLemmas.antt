-- Rows that are the same one by one.
use Rattle.std.proofs.Common.{arith, ◌≡◌, ◌<◌, ◌+◌, ℕ, zero, suc, List, [], ◌∷◌, ◌++◌, length, take, get_or, sym, refl, ap, ◌∙◌, add-one}

next_taken : {A : Type 0} (xs : List A) (i : ℕ) (x : A) → i < length xs → x ≡ get_or xs i x → take (suc i) xs ≡ take i xs ++ x ∷ []
next_taken [] i x below is = absurd (omega (arith, below))
next_taken (y ∷ ys) zero x below is = ap (λ z. z ∷ []) (sym is)
next_taken (y ∷ ys) (suc i) x below is = ap (λ l. y ∷ l) (next_taken ys i x (omega (arith, below)) is)

-- one element more is the same
pub same_next : {A : Type 0} (xs ys : List A) (i : ℕ) (x y : A) → i < length xs → i < length ys → x ≡ get_or xs i x → y ≡ get_or ys i y → x ≡ y → take i xs ≡ take i ys → take (i + 1) xs ≡ take (i + 1) ys
same_next xs ys i x y in_xs in_ys x_is y_is same so_far =
    let turn : take (suc i) xs ≡ take (suc i) ys = next_taken xs i x in_xs x_is ∙ (λ j. so_far j ++ same j ∷ []) ∙ sym (next_taken ys i y in_ys y_is) in
    rw add-one turn
