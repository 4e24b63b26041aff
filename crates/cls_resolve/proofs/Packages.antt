-- The package in a name.
use Rattle.std.proofs.Common.{◌≡◌, ◌≢◌, ℕ, ◌+◌, ◌<◌, Bool, true, false, List, [], ◌∷◌, ◌++◌, length, get_or, take, refl, sym, ap, ◌∙◌, arith}
use Rattle.std.specs.Prelude.{◌==◌, ◌||◌, cond}
use Rattle.std.specs.List.{list_any}
use Rattle.std.proofs.lemmas.Bool.Decides.{nat_tests}
use Rattle.std.proofs.lemmas.List.{take_more}
use Rattle.std.proofs.lemmas.List.Folds.{list_any-append}
use Rattle.cls_resolve.specs.Access.{package_name}

abbrev slash : ℕ → Bool
slash b = b == 47

is_other : (b : ℕ) → b ≢ 47 → slash b ≡ false
is_other b h = grind (arith, nat_tests)

or_false : (x : Bool) → (x || false) ≡ x
or_false true = refl
or_false false = refl

or_true : (x : Bool) → (x || true) ≡ true
or_true true = refl
or_true false = refl

any_other : (bs : List ℕ) (b : ℕ) → slash b ≡ false → list_any slash (bs ++ b ∷ []) ≡ list_any slash bs
any_other bs b e = list_any-append slash bs (b ∷ []) ∙ (ap (λ x. list_any slash bs || (x || false)) e ∙ or_false (list_any slash bs))

any_slash : (bs : List ℕ) → list_any slash (bs ++ 47 ∷ []) ≡ true
any_slash bs = list_any-append slash bs (47 ∷ []) ∙ or_true (list_any slash bs)

-- a further byte that is no '/' changes no package
passes : (bs : List ℕ) (b : ℕ) → slash b ≡ false → package_name (bs ++ b ∷ []) ≡ package_name bs
passes [] b e = ap (λ x. cond (x || false) (b ∷ []) []) e
passes (a ∷ bs) b e =
    ap (λ x. cond (slash a || x) (a ∷ package_name (bs ++ b ∷ [])) []) (any_other bs b e)
    ∙ ap (λ p. cond (slash a || list_any slash bs) (a ∷ p) []) (passes bs b e)

-- a '/' ends one
ends : (bs : List ℕ) → package_name (bs ++ 47 ∷ []) ≡ bs ++ 47 ∷ []
ends [] = refl
ends (a ∷ bs) =
    ap (λ x. cond (slash a || x) (a ∷ package_name (bs ++ 47 ∷ [])) []) (any_slash bs)
    ∙ (ap (λ x. cond x (a ∷ package_name (bs ++ 47 ∷ [])) []) (or_true (slash a)) ∙ ap (λ p. a ∷ p) (ends bs))

pub other_byte : (bs : List ℕ) (i : ℕ) → i < length bs → get_or bs i 0 ≢ 47 → package_name (take (i + 1) bs) ≡ package_name (take i bs)
other_byte bs i h ne = ap package_name (take_more bs i 0 h) ∙ passes (take i bs) (get_or bs i 0) (is_other (get_or bs i 0) ne)

pub slash_byte : (bs : List ℕ) (i : ℕ) → i < length bs → get_or bs i 0 ≡ 47 → package_name (take (i + 1) bs) ≡ take (i + 1) bs
slash_byte bs i h e =
    let more = take_more bs i 0 h ∙ ap (λ b. take i bs ++ b ∷ []) e in
    ap package_name more ∙ (ends (take i bs) ∙ sym more)
