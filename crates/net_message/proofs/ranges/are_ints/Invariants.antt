use Rattle.std.proofs.Common.{ℕ, ◌<◌, get_or, pos}
use Rattle.std.specs.Prelude.{FitsSigned}
use Rattle.std.specs.Int.{w32}
use Rattle.net_message.proofs.ranges.are_ints.Given as goal

abbrev pub invariant-loop-int : goal.invariant-loop-int
invariant-loop-int l = (k : ℕ) → k < l.int-index → FitsSigned w32 (get_or l.ints k (pos 0))
