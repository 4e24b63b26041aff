-- The numbers below one, each once more.
use Rattle.std.proofs.Common.{◌≡◌, ℕ, ◌+◌, ◌<◌, inl, inr, List, [], ◌∷◌, ◌++◌, refl, sym, subst, arith}
use Rattle.std.specs.Prelude.{All, Contains}
use Rattle.std.proofs.lemmas.List.Elements.{All-append, All-cons, All-nil, Contains-append_left, Contains-append_right}
use Rattle.cls_order.proofs.Walks.{before}

-- the numbers below one
pub record AreFirst (n : ℕ) (order : List ℕ) : Type 0 where
  pub only : All (λ k. k < n) order
  pub each : (k : ℕ) → k < n → Contains order k

pub one_more : (n : ℕ) (order : List ℕ) → AreFirst n order → AreFirst (n + 1) (order ++ n ∷ [])
one_more n order first =
    record {
      only = All-append (λ k. k < n + 1) order (n ∷ []) (λ k d h. let low = first.only k d h in omega (arith, low)) (All-cons (λ k. k < n + 1) n [] (omega arith) (All-nil (λ k. k < n + 1)));
      each = λ k h.
          elim (before k n) [
            | inl low ↦ Contains-append_left order (n ∷ []) k (first.each k low)
            | inr high ↦ let same : k ≡ n = omega (arith, h, high) in subst (Contains (order ++ n ∷ [])) (sym same) (Contains-append_right order (n ∷ []) n (0, omega arith, refl))
          ];
    }
