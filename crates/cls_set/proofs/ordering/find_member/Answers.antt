use Rattle.std.proofs.Common.{Some, sym, ap, ◌∙◌, arith}
use Rattle.cls_set.specs.Orders.{keys_of, Key}
use Rattle.cls_order.proofs.Hierarchy.{true_false}
use Rattle.cls_set.proofs.Orders.{found_here, none_here}
use Rattle.cls_set.proofs.ordering.find_member.Goals.{else-start-order-via-then-start-order+else-is_named, else-start-order-via-else-start-order}
use Rattle.cls_set.proofs.ordering.find_member.Goals as goal

pub returns-then-is_named : goal.returns-then-is_named
returns-then-is_named c =
    let keys = keys_of c.args.kind c.args.file.now in
    let wanted : Key = (c.args.name.now, c.args.descriptor.now) in
    let found =
    found_here keys c.args.order.now c.requires wanted c.lower_bound-start.result c.lower_bound-start.ensures.start 0 c.if-start-order.true
    (sym c.is_named.ensures ∙ c.if-is_named.true)
    in
    ap (λ i. Some i) c.from.ensures ∙ sym found

pub returns-else-start-order : goal.returns-else-start-order
returns-else-start-order c =
    let keys = keys_of c.args.kind c.args.file.now in
    let order = c.args.order.now in
    let wanted : Key = (c.args.name.now, c.args.descriptor.now) in
    let start = c.lower_bound-start.result in
    sym (none_here keys order c.requires wanted start c.lower_bound-start.ensures.start 0
    (elim c.else-start-order.branch [
      | else-start-order-via-then-start-order+else-is_named w ↦
          λ h is. true_false (sym is ∙ (sym w.is_named.ensures ∙ w.if-is_named.false))
      | else-start-order-via-else-start-order w ↦ λ h is. let past = w.if-start-order.false in absurd (omega (arith, h, past))
    ]))
