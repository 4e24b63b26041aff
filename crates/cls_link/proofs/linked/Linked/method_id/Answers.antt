use Rattle.std.proofs.Common.{◌≡◌, ap, ◌∙◌}
use Rattle.cls_search.specs.declared.methods.MethodIndex.{MethodIndex}
use Rattle.cls_link.specs.Links.{method_at}
use Rattle.cls_resolve.specs.Meanings.{method_of}
use Rattle.cls_link.specs.Numbers.{number_in}
use Rattle.cls_link.proofs.ByIndex.{method_numbered}
use Rattle.cls_link.proofs.linked.Linked.method_id.Goals as goal

pub returns-clause-declared : goal.returns-clause-declared
returns-clause-declared c =
    let classes = c.args.self.now.classes in
    let m : MethodIndex = method_of c.args.member in
    let same : record { class = c.args.member.class; index = c.from.result } ≡ m = ap (λ n. record { class = c.args.member.class; index = n }) c.from.ensures in
    ap (method_at classes) (c.number.ensures.number ∙ ap (number_in classes) same) ∙ method_numbered classes m c.requires
