use Rattle.std.proofs.Common.{◌≡◌, ◌++◌}
use Rattle.std.specs.Vec.Iter.{into_iter_items}
use Rattle.cls_set.proofs.members.number_classes.Given as goal

-- the classes so far, with what is left, are all
abbrev pub invariant-loop-entry : goal.invariant-loop-entry
invariant-loop-entry l = l.members.items ++ into_iter_items l.entry-iterator ≡ l.fn.entries.items
