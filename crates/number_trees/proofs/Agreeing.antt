-- Numbers that agree in their lowest bits.
use Rattle.std.proofs.Common.{◌≡◌, ℕ, zero, suc, ◌-◌, ◌<◌, ◌%◌, ◌/◌, Bool, true, false, refl, ap, ◌∙◌, arith}
use Rattle.std.specs.Prelude.{◌&&◌, nat_eq}
use Rattle.std.proofs.lemmas.Bool.Decides.{nat_tests}
use Rattle.number_trees.specs.Trees.{agree, Covers}

both : (a b : Bool) → (a && b) ≡ true → (a ≡ true) × (b ≡ true)
both true true e = (refl, refl)
both true false e = absurd (let h : false ≡ true = e in cc)
both false b e = absurd (let h : false ≡ true = e in cc)

same_number : (n : ℕ) → nat_eq n n ≡ true
same_number n = grind (arith, nat_tests)

nat_is : (m n : ℕ) → nat_eq m n ≡ true → m ≡ n
nat_is m n e = grind (arith, nat_tests)

pub agree_same : (levels a : ℕ) → agree levels a a ≡ true
agree_same zero a = refl
agree_same (suc levels) a = ap (λ b. b && agree levels (a / 2) (a / 2)) (same_number (a % 2)) ∙ agree_same levels (a / 2)

halves : (a b : ℕ) → a % 2 ≡ b % 2 → a / 2 ≡ b / 2 → a ≡ b
halves a b low high = omega (arith, low, high)

half_less : (a count : ℕ) → a < count → a / 2 < count - count / 2
half_less a count h = omega (arith, h)

pub agree_is : (levels count a b : ℕ) → Covers levels count → a < count → b < count → agree levels a b ≡ true → a ≡ b
agree_is zero count a b covers low other e = omega (arith, covers, low, other)
agree_is (suc levels) count a b covers low other e =
    let p = both (nat_eq (a % 2) (b % 2)) (agree levels (a / 2) (b / 2)) e in
    halves a b (nat_is (a % 2) (b % 2) p.0) (agree_is levels (count - count / 2) (a / 2) (b / 2) covers (half_less a count low) (half_less b count other) p.1)
