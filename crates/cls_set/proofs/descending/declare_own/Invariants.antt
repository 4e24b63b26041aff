use Rattle.cls_set.specs.Descending.{AboveAndBelow, HasInherited, IsGrown}
use Rattle.cls_set.proofs.descending.declare_own.Given as goal

-- what is inherited, with the methods so far
abbrev pub invariant-loop-method : goal.invariant-loop-method
invariant-loop-method l = IsGrown l.fn.trees l.trees × HasInherited l.entries l.keys l.trees l.root (AboveAndBelow l.entries l.index l.method)
