use Rattle.std.proofs.Common.{ℕ, ◌<◌}
use Rattle.ver_check.specs.Acceptance.{IsSafeAt}
use Rattle.ver_check.proofs.all_methods.check_all.Given as goal

abbrev pub invariant-loop-index : goal.invariant-loop-index
invariant-loop-index l = (k : ℕ) → k < l.index → IsSafeAt l.linked k
