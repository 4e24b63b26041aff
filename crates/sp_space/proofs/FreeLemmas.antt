-- Which tasks a core lends: none between steps, and one in a step.
use Rattle.std.proofs.Common.{◌≡◌, ℕ, Bool, true, false, List, [], Option, None, Some, refl, sym, ap, subst, ◌∙◌}
use Rattle.std.specs.Prelude.{not, is_some, ◌==◌, ◌&&◌, ◌||◌}
use Rattle.std.specs.List.{list_any}
use Rattle.sp_core.specs.Cores.{Lends, is_lent}
use Rattle.sp_core.specs.declared.space_core.SpaceCore.{SpaceCore}
use Rattle.sp_space.specs.Spaces.{IsFree, LendsNoOther}

pub lends-none : (core : SpaceCore) → IsFree core → Lends core []
lends-none core free id = sym (free id)

both-true : (b : Bool) → (b && true) ≡ false → b ≡ false
both-true true e = e
both-true false e = refl

-- a task that a core cannot lend that lends none is not ready
pub unready : (ready : Bool) (lent : Bool) → lent ≡ (ready && not false) → lent ≡ false → ready ≡ false
unready ready lent is none = both-true ready (sym is ∙ none)

-- a core that lends a task lends it alone
pub one-lent : (old new : SpaceCore) (task id : ℕ) → IsFree old → id ≡ task → ((other : ℕ) → is_lent new other ≡ (other == task || is_lent old other)) → LendsNoOther id new
one-lent old new task id free same lends other apart = lends other ∙ ap (λ b. b || is_lent old other) (ap (λ n. other == n) (sym same) ∙ apart) ∙ free other

-- and lends none when it comes back
pub none-lent : (old new : SpaceCore) (id : ℕ) → LendsNoOther id old → ((other : ℕ) → is_lent new other ≡ (not (other == id) && is_lent old other)) → IsFree new
none-lent old new id alone lends other = by (other == id) refl
  where
    by : (b : Bool) → (other == id) ≡ b → is_lent new other ≡ false
    by true is = lends other ∙ ap (λ b. not b && is_lent old other) is
    by false is = lends other ∙ ap (λ b. not b && is_lent old other) is ∙ alone other is

-- so it is where the call that takes it back says whether it did
pub gone-lent : (old new : SpaceCore) (id : ℕ) (ok : Bool) → ok ≡ true → LendsNoOther id old → ((other : ℕ) → is_lent new other ≡ (not (ok && other == id) && is_lent old other)) → IsFree new
gone-lent old new id ok is alone lends = none-lent old new id alone (λ other. lends other ∙ ap (λ b. not (b && other == id) && is_lent old other) is)

pub still-lent : (old new : SpaceCore) (id : ℕ) (ok : Bool) → ok ≡ false → LendsNoOther id old → ((other : ℕ) → is_lent new other ≡ (not (ok && other == id) && is_lent old other)) → LendsNoOther id new
still-lent old new id ok is alone lends other apart = lends other ∙ ap (λ b. not (b && other == id) && is_lent old other) is ∙ alone other apart

pub same-lent : (old new : SpaceCore) (id : ℕ) → LendsNoOther id old → ((other : ℕ) → is_lent new other ≡ is_lent old other) → LendsNoOther id new
same-lent old new id alone lends other apart = lends other ∙ alone other apart

pub still-free : (old new : SpaceCore) → IsFree old → ((other : ℕ) → is_lent new other ≡ is_lent old other) → IsFree new
still-free old new free lends other = lends other ∙ free other
