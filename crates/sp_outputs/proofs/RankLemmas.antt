-- Notes of which none has a rank.
use Rattle.std.proofs.Common.{◌≡◌, ℕ, Bool, true, false, cond, List, [], ◌∷◌, refl, ap, ◌∙◌, true≢false}
use Rattle.std.specs.Prelude.{◌==◌, ◌||◌, not, filter, map}
use Rattle.sp_rules.specs.Events as rules
use Rattle.sp_rules.specs.Events.{output_of, of_rank, rank}
use Rattle.sp_outputs.specs.Ranks.{has_rank}
use Rattle.sp_outputs.proofs.OrderLemmas.{of_others}

neither : (a b : Bool) → (a || b) ≡ false → (a ≡ false) × (b ≡ false)
neither true b e = absurd (true≢false e)
neither false b e = (refl, e)

-- none is told
pub none-told : (k : ℕ) (notes : List rules.Note) → has_rank notes k ≡ false → of_rank notes k ≡ []
none-told k [] none = refl
none-told k (n ∷ notes) none =
    let both = neither (rank n == k) (has_rank notes k) none in
    ap (λ b. map output_of (cond b (n ∷ filter (λ (m : rules.Note). rank m == k) notes) (filter (λ (m : rules.Note). rank m == k) notes))) both.0 ∙ none-told k notes both.1

-- and all are left
pub all-left : (k : ℕ) (notes : List rules.Note) → has_rank notes k ≡ false → of_others k notes ≡ notes
all-left k [] none = refl
all-left k (n ∷ notes) none =
    let both = neither (rank n == k) (has_rank notes k) none in
    ap (λ b. cond (not b) (n ∷ of_others k notes) (of_others k notes)) both.0 ∙ ap (λ (l : List rules.Note). n ∷ l) (all-left k notes both.1)
