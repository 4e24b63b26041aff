use Rattle.std.proofs.Common.{sym, subst, ◌∙◌}
use Rattle.std.specs.Prelude.{Some, slice_get, ◌≡◌}
use Rattle.cls_order.specs.Entries.{classes_of}
use Rattle.cls_set.specs.declared.remote.MemberKind.TheVariants.{Methods}
use Rattle.cls_set.proofs.Orders.{order_read}
use Rattle.cls_set.proofs.class_set.ClassSet.first_method.Goals as goal

pub find_member-requires : goal.find_member-requires
find_member-requires c =
    let a = c.args.class.0 in
    let k = c.class.result.now in
    let set = c.self.inside in
    let orders = set.methods.items in
    let here = subst (λ cs. slice_get cs a ≡ Some k) (sym c.self.view_is) c.class.ensures in
    order_read Methods (classes_of set.members.items) orders c.self.invariant.methods a c.from.result
    c.as_slice-order.result.now c.index.result.now k c.from.ensures here (c.as_slice-order.ensures ∙ c.index.ensures)
