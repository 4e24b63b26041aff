use Rattle.std.proofs.Common.{Some, None, ap, subst}
use Rattle.cls_link.specs.Fields as fields
use Rattle.cls_search.specs.FieldSearches.{ResolvesField}
use Rattle.cls_link.specs.Links.{Links}
use Rattle.cls_link.proofs.linked.Linked.field_slot.Goals as goal

pub returns-in-Some : goal.returns-in-Some
returns-in-Some c =
    let same = ap (λ (l : Links). l.classes) c.self.view_is in
    fields.IsSlot.found c.in-Some.field c.slot_of.result
    (subst (λ cs. ResolvesField cs c.args.class c.args.name.now c.args.descriptor.now (Some c.in-Some.field)) same c.in-Some.ensures.found) c.slot_of.ensures

pub returns-in-None : goal.returns-in-None
returns-in-None c =
    let same = ap (λ (l : Links). l.classes) c.self.view_is in
    fields.IsSlot.absent (subst (λ cs. ResolvesField cs c.args.class c.args.name.now c.args.descriptor.now None) same c.in-None.ensures.found)
