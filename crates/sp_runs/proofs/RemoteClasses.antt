-- Classes of a set that are not remote, one after the other.
use Rattle.std.proofs.Common.{◌≡◌, ◌↔◌, inl, inr, ℕ, ◌+◌, ◌<◌, Bool, true, false, List, IsTrue, length, sym, subst, ◌∙◌, arith}
use Rattle.std.specs.Prelude.{slice_get}
use Rattle.std.proofs.lemmas.Bool.{true≢false}
use Rattle.std.proofs.lemmas.Option.{slice_get_within}
use Rattle.cls_set.proofs.Hierarchy.{some_of}
use Rattle.cls_set.proofs.Walks.{before}
use Rattle.cls_set.specs.Classes.{IsInterface}
use Rattle.cls_set.specs.Subtypes.{IsRemote}
use Rattle.cls_set.specs.declared.class.Class.{Class}
use Rattle.space_ids.specs.declared.ids.ClassId.{ClassId}

-- what a test says
pub tested : {P : Type 0} (b : Bool) → (IsTrue b ↔ P) → b ≡ true → P
tested b is e = is.0 e

pub tested_not : {P : Type 0} (b : Bool) → (IsTrue b ↔ P) → b ≡ false → ¬ P
tested_not b is e p =
    let other : b ≡ true = is.1 p in
    absurd (true≢false (sym other ∙ e))

-- one class more that is none
pub none_more : (P : ClassId → Type 0) (k : ℕ) → ((class : ClassId) → class.0 < k → ¬ P class) → ¬ P (record { 0 = k }) → (class : ClassId) → class.0 < k + 1 → ¬ P class
none_more P k so_far last class low p =
    elim (before class.0 k) [
      | inl less ↦ so_far class less p
      | inr least ↦
          let same : class.0 ≡ k = omega (arith, least, low) in
          last (subst (λ i. P (record { 0 = i })) same p)
    ]

-- numbers past the last are of no class
pub none_at_all : (classes : List Class) (k : ℕ) → length classes ≡ k → ((class : ClassId) → class.0 < k → ¬ IsRemote classes class) → (class : ClassId) → ¬ IsRemote classes class
none_at_all classes k long so_far class is =
    let c = some_of (slice_get classes class.0) (λ c. ¬ IsInterface c) is.is_class in
    let within = slice_get_within classes class.0 c.0 c.1 in
    so_far class (omega (arith, within, long)) is
