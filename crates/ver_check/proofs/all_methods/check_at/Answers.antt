use Rattle.cls_link.specs.Links.{declared_methods}
use Rattle.ver_check.proofs.Accepts.{fault_at}
use Rattle.ver_check.proofs.Links.{method_listed}
use Rattle.ver_check.proofs.all_methods.check_at.Goals as goal

pub check_method-requires : goal.check_method-requires
check_method-requires c =
    let links = c.args.linked.now in
    method_listed links.classes (declared_methods links.classes) links.methods c.requires.links.methods c.args.index c.linked_method-method.result.now c.linked_method-method.ensures

pub returns-clause-fault : goal.returns-clause-fault
returns-clause-fault c =
    let links = c.args.linked.now in
    fault_at links c.args.index c.linked_method-method.result.now c.check_method.result c.linked_method-method.ensures (rw c.set.ensures at c.check_method.ensures.fault)
