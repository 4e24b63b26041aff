use Rattle.cls_set.proofs.Descends.{NoneBarred}
use Rattle.cls_set.proofs.descending.overrides_badly.Given as goal

-- none of the methods so far is barred
abbrev pub invariant-loop-method : goal.invariant-loop-method
invariant-loop-method l = NoneBarred l.entries l.index l.method
