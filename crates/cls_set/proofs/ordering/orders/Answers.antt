use Rattle.std.proofs.Common.{◌≡◌, length, refl, sym, subst, ◌∙◌, arith}
use Rattle.cls_order.specs.declared.class.Class.{Class}
use Rattle.cls_order.specs.declared.entries.Entry.{Entry}
use Rattle.cls_order.specs.Entries.{classes_of}
use Rattle.cls_set.specs.Orders.{keys_of, IsOrder}
use Rattle.cls_order.proofs.Heights.{long_classes}
use Rattle.cls_order.proofs.Hierarchy.{class_read, same_some}
use Rattle.cls_set.proofs.Orders.{order_all, order_more}
use Rattle.cls_set.proofs.ordering.orders.Goals as goal

pub loop-entry-preserved : goal.loop-entry-preserved
loop-entry-preserved c =
    let entries = c.args.entries.now in
    let kind = c.args.kind in
    let n = c.loop-entry.entry-index in
    let row = c.new.result in
    let own = λ (x : Class). IsOrder (keys_of kind x.file) row in
    let here = subst (IsOrder (keys_of kind c.class.inside.file)) (sym c.new.ensures) c.in_ok-order.ensures in
    rw c.in_ok-push.ensures.items (order_more kind (classes_of entries) n c.loop-entry.orders.items row c.loop-entry.invariant
    (λ k e.
    let same = same_some (sym (class_read entries c.entry-item.result n n refl c.loop-entry-test.true) ∙ e) in
    subst own same (subst (λ (x : Entry). own x.class) c.entry-item.is (subst own c.class.view_is here))))

pub returns : goal.returns
returns c =
    let entries = c.args.entries.now in
    let n = c.loop-entry.entry-index in
    let long = long_classes entries in
    let low = c.loop-entry.auto.entry-index-end in
    let high = c.loop-entry-test.false in
    let all : n ≡ length (classes_of entries) = omega (arith, long, low, high) in
    order_all c.args.kind (classes_of entries) n c.loop-entry.orders.items all c.loop-entry.invariant
