use Rattle.cls_order.proofs.Indices.{AreFirst}
use Rattle.cls_set.proofs.ordering.order.Given as goal

abbrev pub invariant-loop-index : goal.invariant-loop-index
invariant-loop-index l = AreFirst l.index l.order.items
