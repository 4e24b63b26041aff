-- What follows of what is read, by cases of a test.
use Rattle.std.proofs.Common.{◌≡◌, Bool, true, false, cond, refl}

-- a fact of what a test chooses
pub by_test : {A : Type 0} (P : A → Type 0) (test : Bool) (x y : A) → (test ≡ true → P x) → (test ≡ false → P y) → P (cond test x y)
by_test P true x y passed failed = passed refl
by_test P false x y passed failed = failed refl
