use Rattle.std.proofs.Common.{ℕ, ◌+◌, ◌*◌, ◌<◌, ◌≢◌, length}
use Rattle.least_tree.specs.Least.{IsLow}
use Rattle.least_tree.proofs.tree.rise.Given as goal

-- all indices are right but the one above
abbrev pub invariant-loop-at : goal.invariant-loop-at
invariant-loop-at l = record {
  index : l.at < length l.lows;
  low : (other : ℕ) → 2 * other + 1 ≢ l.at → 2 * other + 2 ≢ l.at → IsLow l.numbers l.lows other;
}

abbrev pub decreases-loop-at : goal.decreases-loop-at
decreases-loop-at l = l.at
