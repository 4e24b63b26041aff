-- Marks of classes from which nothing is found.
use Rattle.std.proofs.Common.{◌≡◌, ◌⊎◌, inl, inr, ℕ, Bool, true, false, Option, None, List, [], ◌∷◌, sym, subst, ap, ◌∙◌}
use Rattle.std.specs.Prelude.{slice_index_or}
use Rattle.space_ids.specs.declared.ids.ClassId.{ClassId}
use Rattle.cls_search.specs.Searches.{Finds, FindNothing}

false_true : false ≡ true → ⊥
false_true e = cc

same_class : (c d : ClassId) → c.0 ≡ d.0 → c ≡ d
same_class c d e = ap (λ n. record { 0 = n }) e

module _ {A : Type 0} (above : ClassId → List ClassId) (own : ClassId → Option A) where
  pub unmarked : (marks : List Bool) → ((k : ℕ) → slice_index_or marks k false ≡ false) → FindNothing above own marks
  unmarked marks none c t = absurd (false_true (sym (none c.0) ∙ t))

  pub marked_more : (old new : List Bool) (s : ClassId) → FindNothing above own old → Finds above own (s ∷ []) None → ((k : ℕ) → slice_index_or new k false ≡ true → (k ≡ s.0) ⊎ (slice_index_or old k false ≡ true)) → FindNothing above own new
  marked_more old new s before f h c t =
      elim (h c.0 t) [
        | inl e ↦ subst (λ x. Finds above own (x ∷ []) None) (sym (same_class c s e)) f
        | inr o ↦ before c o
      ]
