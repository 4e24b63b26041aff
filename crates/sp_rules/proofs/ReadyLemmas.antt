-- A ready task is one that lives and does not wait.
use mathlib.Core.Path.{sym, ap, subst, ◌∙◌}
use Rattle.std.specs.Prelude.{◌≡◌, refl, Bool, true, false, Option, None, Some, if◌then◌else◌}
use Rattle.sp_rules.specs.State.{Living, that_is_ready}

abbrev IsSome : Option Living → Type 0
IsSome None = ⊥
IsSome (Some t) = Unit {0}

pub ready-is : (o : Option Living) (t : Living) → that_is_ready o ≡ Some t → (o ≡ Some t) × (t.waits ≡ false)
ready-is None t e = absurd (subst IsSome (sym e) tt)
ready-is (Some u) t e = pick u.waits refl e
  where
    pick : (b : Bool) → u.waits ≡ b → (if b then None else Some u) ≡ Some t → (Some u ≡ Some t) × (t.waits ≡ false)
    pick true w f = absurd (subst IsSome (sym f) tt)
    pick false w f = (f, sym (ap waits-of f) ∙ w)
      where
        waits-of : Option Living → Bool
        waits-of None = false
        waits-of (Some v) = v.waits
