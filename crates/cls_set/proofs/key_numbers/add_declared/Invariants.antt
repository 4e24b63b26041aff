use Rattle.std.proofs.Common.{ℕ, ◌<◌}
use Rattle.std.specs.Prelude.{Contains}
use Rattle.number_trees.specs.Rows.{Starts}
use Rattle.cls_set.proofs.key_numbers.add_declared.Given as goal

-- the methods so far are added
abbrev pub invariant-loop-method : goal.invariant-loop-method
invariant-loop-method l = Starts l.fn.all.items l.all.items × ((i : ℕ) → i < l.method → Contains l.all.items (record { class = l.class; method = i }))
