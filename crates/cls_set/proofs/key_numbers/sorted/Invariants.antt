use Rattle.cls_set.specs.KeyNumbers.{HoldsBelow}
use Rattle.cls_set.proofs.key_numbers.sorted.Given as goal

-- the methods of the classes so far are added
abbrev pub invariant-loop-class : goal.invariant-loop-class
invariant-loop-class l = HoldsBelow l.entries l.class l.all.items
