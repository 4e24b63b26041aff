-- Marks of the declared frames on which a frame is known to land.
use Rattle.std.proofs.Common.{◌≡◌, ℕ, zero, suc, Bool, true, false, Option, List, [], ◌∷◌, replicate, refl, subst, sym}
use Rattle.std.specs.Prelude.{IsSomeAnd, slice_index_or, slice_set}
use Rattle.ver_check.specs.Bodies.{Body, declared_at}
use Rattle.ver_check.specs.Indices.{frame_of}
use Rattle.ver_check.specs.Landed.{LandsOnMarked}
use Rattle.ver_check.specs.Typing.{Lands}
use Rattle.ver_frames.specs.Assignable.{IsFrameAssignable}
use Rattle.ver_frames.specs.Frames.{Frame}

unmarked : (n k : ℕ) → ◌≡◌ {A = Bool} (slice_index_or (replicate n false) k false) false
unmarked zero k = refl
unmarked (suc n) zero = refl
unmarked (suc n) (suc k) = unmarked n k

no_bool : (b : Bool) (X : Type 0) → b ≡ false → b ≡ true → X
no_bool true X e f = absurd (cc)
no_bool false X e f = absurd (cc)

-- one mark is set
written : (P : ℕ → Bool → Type 0) (marks : List Bool) (index k : ℕ) → P k (slice_index_or marks k false) → P index true
    → P k (slice_index_or (slice_set marks index true) k false)
written P [] index k old here = old
written P (first ∷ others) zero zero old here = here
written P (first ∷ others) zero (suc k) old here = old
written P (first ∷ others) (suc index) zero old here = old
written P (first ∷ others) (suc index) (suc k) old here = written (λ n. P (suc n)) others index k old here

module _ (body : Body) (given : Frame) where
  abbrev Fits : Option Frame → Type 0
  Fits declared = IsSomeAnd declared (λ declared. IsFrameAssignable body.classes given declared)

  pub none_marked : (n : ℕ) → LandsOnMarked body given (replicate n false)
  unfolding LandsOnMarked
  none_marked n index marked = no_bool _ _ (unmarked n index) marked

  pub lands_there : (marks : List Bool) (index target : ℕ) → LandsOnMarked body given marks → slice_index_or marks index false ≡ true → frame_of body.declared index ≡ declared_at body target
      → Lands body given target
  unfolding LandsOnMarked
  lands_there marks index target lands marked at = subst Fits at (lands index marked)

  pub one_more_marked : (marks : List Bool) (index target : ℕ) → LandsOnMarked body given marks → frame_of body.declared index ≡ declared_at body target → Lands body given target
      → LandsOnMarked body given (slice_set marks index true)
  unfolding LandsOnMarked
  one_more_marked marks index target lands at here k =
      written (λ n mark. mark ≡ true → Fits (frame_of body.declared n)) marks index k (lands k) (λ _. subst Fits (sym at) here)
