use Rattle.std.proofs.Common.{inl, inr}
use Rattle.cls_set.proofs.inheriting.Packages.with_that_of.Goals as goal

pub returns-then-has_package_access : goal.returns-then-has_package_access
returns-then-has_package_access c = λ other.
    let access = c.has_package_access.ensures.0 c.if-has_package_access.true in (
      λ h. elim ((c.with.ensures other).0 h) [ inl o ↦ inl o | inr n ↦ inr (access, n) ],
      λ h. elim h [ inl o ↦ (c.with.ensures other).1 (inl o) | inr n ↦ (c.with.ensures other).1 (inr n.1) ],
    )
