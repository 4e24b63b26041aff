-- What inherited methods forbid, one method after the other.
use Rattle.std.proofs.Common.{◌≡◌, ◌≢◌, ◌⊎◌, inl, inr, ℕ, Bool, true, false, List, refl, sym, ◌∙◌}
use Rattle.std.specs.Prelude.{◌↔◌, ◌||◌, IsTrue, bytes_eq, not}
use Rattle.std.proofs.lemmas.Slice.Eq.{bytes_eq-Decides}
use Rattle.cf_reader.specs.declared.class_file.Method.{Method}
use Rattle.cf_reader.specs.declared.flags.TheConstants.Flags.{PRIVATE, STATIC, FINAL}
use Rattle.cls_set.specs.declared.inheriting.Inherited.{Inherited}
use Rattle.cls_set.specs.Inheriting.{Forbids, HasOther, IsBarred}
use Rattle.cls_set.specs.Rules.{Has, HasPackageAccess}
use Rattle.cls_order.proofs.Hierarchy.{true_false}

-- of two packages one is not a third one
pub one_differs : (known home other : List ℕ) → (known ≡ home → ⊥) → (known ≢ other) ⊎ (home ≢ other)
one_differs known home other ne =
    elim (bytes_eq known other) as (λ b. bytes_eq known other ≡ b → (known ≢ other) ⊎ (home ≢ other)) [
      | true ↦ λ e. inr (λ h. ne ((bytes_eq-Decides known other).0 e ∙ sym h))
      | false ↦ λ e. inl (λ h. true_false (sym ((bytes_eq-Decides known other).1 h) ∙ e))
    ] refl

-- what one more method forbids, by the parts of what is kept
module _ (old new : Inherited) (high : Method) (from : List ℕ) (visible : ¬ Has high.flags.bits PRIVATE) (static : Bool) (is_static : IsTrue static ↔ Has high.flags.bits STATIC)
    (instances : IsTrue new.has_instance ↔ (IsTrue old.has_instance ⊎ (¬ Has high.flags.bits STATIC)))
    (fixed : IsTrue new.has_fixed ↔ (IsTrue old.has_fixed ⊎ (Has high.flags.bits FINAL ⊎ Has high.flags.bits STATIC)))
    (packages : (other : List ℕ) → HasOther new.packages other ↔ (HasOther old.packages other ⊎ (HasPackageAccess high × (from ≢ other)))) where
  static_or_not : Has high.flags.bits STATIC ⊎ (¬ Has high.flags.bits STATIC)
  static_or_not =
      elim static as (λ b. static ≡ b → Has high.flags.bits STATIC ⊎ (¬ Has high.flags.bits STATIC)) [
        | true ↦ λ e. inl (is_static.0 e)
        | false ↦ λ e. inr (λ h. true_false (sym (is_static.1 h) ∙ e))
      ] refl

  forth : (low : Method) (home : List ℕ) → Forbids new low home → Forbids old low home ⊎ IsBarred low home high from
  forth low home (inl (s, i)) = elim (instances.0 i) [ inl o ↦ inl (inl (s, o)) | inr n ↦ inr (visible, inl (s, n)) ]
  forth low home (inr (s, inl f)) = elim (fixed.0 f) [ inl o ↦ inl (inr (s, inl o)) | inr n ↦ inr (visible, inr (s, inl n)) ]
  forth low home (inr (s, inr (inl (i, p)))) = elim (instances.0 i) [ inl o ↦ inl (inr (s, inr (inl (o, p)))) | inr n ↦ inr (visible, inr (s, inr (inl p))) ]
  forth low home (inr (s, inr (inr h))) = elim ((packages home).0 h) [ inl o ↦ inl (inr (s, inr (inr o))) | inr n ↦ inr (visible, inr (s, inr (inr n))) ]

  still : (low : Method) (home : List ℕ) → Forbids old low home → Forbids new low home
  still low home (inl (s, i)) = inl (s, instances.1 (inl i))
  still low home (inr (s, inl f)) = inr (s, inl (fixed.1 (inl f)))
  still low home (inr (s, inr (inl (i, p)))) = inr (s, inr (inl (instances.1 (inl i), p)))
  still low home (inr (s, inr (inr h))) = inr (s, inr (inr ((packages home).1 (inl h))))

  also : (low : Method) (home : List ℕ) → IsBarred low home high from → Forbids new low home
  also low home (v, inl (s, n)) = inl (s, instances.1 (inr n))
  also low home (v, inr (s, inl f)) = inr (s, inl (fixed.1 (inr f)))
  also low home (v, inr (s, inr (inl p))) =
      elim static_or_not [
        | inl h ↦ inr (s, inl (fixed.1 (inr (inr h))))
        | inr n ↦ inr (s, inr (inl (instances.1 (inr n), p)))
      ]
  also low home (v, inr (s, inr (inr h))) = inr (s, inr (inr ((packages home).1 (inr h))))

  pub one_more : (low : Method) (home : List ℕ) → Forbids new low home ↔ (Forbids old low home ⊎ IsBarred low home high from)
  one_more low home = (forth low home, λ h. elim h [ inl o ↦ still low home o | inr b ↦ also low home b ])

-- what one more private method forbids is nothing more
pub none_more : (old : Inherited) (high : Method) (from : List ℕ) → Has high.flags.bits PRIVATE → (low : Method) (home : List ℕ) → Forbids old low home ↔ (Forbids old low home ⊎ IsBarred low home high from)
none_more old high from hidden low home = (λ h. inl h, λ h. elim h [ inl o ↦ o | inr b ↦ absurd (b.0 hidden) ])

-- tests, as the code joins them
pub test_more : (a b : Bool) (P Q : Type 0) → (IsTrue a ↔ P) → (b ≡ false → Q) → (Q → b ≡ false) → IsTrue (a || not b) ↔ (P ⊎ Q)
test_more true b P Q p there back = (λ e. inl (p.0 refl), λ h. refl)
test_more false true P Q p there back = (λ e. absurd (true_false (sym e)), λ h. elim h [ inl x ↦ p.1 x | inr y ↦ absurd (true_false (back y)) ])
test_more false false P Q p there back = (λ e. inr (there refl), λ h. refl)

pub test_both : (a s f : Bool) (P S F : Type 0) → (IsTrue a ↔ P) → (IsTrue s ↔ S) → (IsTrue f ↔ F) → IsTrue ((a || s) || f) ↔ (P ⊎ (F ⊎ S))
test_both true s f P S F p q r = (λ e. inl (p.0 refl), λ h. refl)
test_both false true f P S F p q r = (λ e. inr (inr (q.0 refl)), λ h. refl)
test_both false false true P S F p q r = (λ e. inr (inl (r.0 refl)), λ h. refl)
test_both false false false P S F p q r = (
  λ e. absurd (true_false (sym e)),
  λ h. elim h [ inl x ↦ p.1 x | inr y ↦ elim y [ inl x ↦ r.1 x | inr z ↦ q.1 z ] ],
)
