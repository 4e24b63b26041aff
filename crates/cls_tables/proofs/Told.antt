-- What is told of each class, one class after the other.
use Rattle.std.proofs.Common.{◌≡◌, ◌↔◌, inl, inr, ℕ, ◌+◌, ◌<◌, ◌++◌, Bool, false, List, [], ◌∷◌, IsTrue, length, get_or, sym, subst, ap, ◌∙◌, arith, length-append}
use Rattle.std.proofs.Math.Seq.{get_or-append_seam}
use Rattle.std.proofs.lemmas.List.{get_or_append_left}
use Rattle.cls_set.proofs.Walks.{before}
use Rattle.space_ids.specs.declared.ids.ClassId.{ClassId}

-- a class more
pub told_more : (P : ClassId → Type 0) (told more : List Bool) (k : ℕ) (b : Bool) → length told ≡ k
    → ((class : ClassId) → class.0 < k → IsTrue (get_or told class.0 false) ↔ P class) → (IsTrue b ↔ P (record { 0 = k })) → more ≡ told ++ b ∷ []
    → (length more ≡ k + 1) × ((class : ClassId) → class.0 < k + 1 → IsTrue (get_or more class.0 false) ↔ P class)
told_more P told more k b long so_far is pushed = (
  (let all = ap length pushed in let one = length-append told (b ∷ []) in omega (arith, all, one, long)),
  λ class low.
      elim (before class.0 k) [
        | inl less ↦
            subst (λ c. IsTrue c ↔ P class) (sym (ap (λ xs. get_or xs class.0 false) pushed ∙ get_or_append_left told (b ∷ []) false class.0 (omega (arith, less, long))))
            (so_far class less)
        | inr least ↦
            let same : k ≡ class.0 = omega (arith, least, low) in
            let last : class.0 ≡ length told = omega (arith, same, long) in
            let e : get_or more class.0 false ≡ b = ap (λ xs. get_or xs class.0 false) pushed ∙ (ap (λ i. get_or (told ++ b ∷ []) i false) last ∙ get_or-append_seam told b [] false) in
            subst (λ c. IsTrue c ↔ P class) (sym e) (subst (λ i. IsTrue b ↔ P (record { 0 = i })) same is)
      ],
)
