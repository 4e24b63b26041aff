-- Records in either order, and instructions one after another.
use Rattle.std.proofs.Common.{◌≡◌, ℕ, zero, suc, ◌+◌, List, [], ◌∷◌, ◌++◌, reverse, refl, sym, ap, ◌∙◌, arith}
use Rattle.std.proofs.lemmas.List.{reverse-append}
use Rattle.sp_living.specs.Views.{turned}
use Rattle.sp_rules.specs.Tasks.{Task, step, steps}

pub turned-more : {A : Type 0} (xs : List A) (x : A) → turned (xs ++ x ∷ []) ≡ x ∷ turned xs
turned-more [] x = refl
turned-more (y ∷ ys) x = ap (λ zs. zs ++ y ∷ []) (turned-more ys x)

pub turned-twice : {A : Type 0} (xs : List A) → turned (turned xs) ≡ xs
turned-twice [] = refl
turned-twice (x ∷ xs) = turned-more (turned xs) x ∙ ap (λ ys. x ∷ ys) (turned-twice xs)

pub reverse-turned : {A : Type 0} (xs : List A) → reverse (turned xs) ≡ xs
reverse-turned [] = refl
reverse-turned (x ∷ xs) = reverse-append (turned xs) (x ∷ []) ∙ ap (λ ys. x ∷ ys) (reverse-turned xs)

pub steps-none : (t : Task) → steps 0 t ≡ t
unfolding steps
steps-none t = refl

pub steps-more : (j k : ℕ) (t : Task) → steps k (steps j t) ≡ steps (j + k) t
unfolding steps
steps-more zero k t = let e : k ≡ 0 + k = omega arith in ap (λ n. steps n t) e
steps-more (suc j) k t =
    let e : suc j + k ≡ suc (j + k) = omega arith in
    steps-more j k (step t) ∙ sym (ap (λ n. steps n t) e)
