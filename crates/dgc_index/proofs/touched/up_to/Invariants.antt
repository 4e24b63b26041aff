use Rattle.std.proofs.Common.{◌≡◌, ℕ, ◌<◌, length, get_or}
use Rattle.dgc_index.proofs.touched.up_to.Given as goal

-- each index so far stands at itself
abbrev pub invariant-loop-at : goal.invariant-loop-at
invariant-loop-at l = (length l.indexes.items ≡ l.at) × ((k : ℕ) → k < l.at → get_or l.indexes.items k 0 ≡ k)
