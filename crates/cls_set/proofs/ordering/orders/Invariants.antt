use Rattle.cls_order.specs.Entries.{classes_of}
use Rattle.cls_set.proofs.Orders.{HaveFirstOrders}
use Rattle.cls_set.proofs.ordering.orders.Given as goal

abbrev pub invariant-loop-entry : goal.invariant-loop-entry
invariant-loop-entry l = HaveFirstOrders l.kind (classes_of l.entries) l.entry-index l.orders.items
