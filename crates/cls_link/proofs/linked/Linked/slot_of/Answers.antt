use Rattle.std.proofs.Common.{◌≡◌, ◌≤◌, Some, ap, drop, sym, subst}
use Rattle.std.specs.List.{count_by}
use Rattle.std.specs.Prelude.{slice_get}
use Rattle.cls_link.specs.Fields.{is_instance, AreFieldCounts}
use Rattle.cls_link.specs.Links.{Links}
use Rattle.cls_link.proofs.FieldCounts.{count_at, few_last, held, slot_is}
use Rattle.cls_resolve.proofs.Standing.{class_in}
use Rattle.cls_link.proofs.linked.Linked.slot_of.Goals as goal

pub slot_in-requires-clause-few : goal.slot_in-requires-clause-few
slot_in-requires-clause-few c =
    let classes = c.args.self.now.classes in
    let at = subst (λ cs. slice_get cs c.args.field.class.0 ≡ Some c.class.result.now) c.set.ensures c.class.ensures in
    let table = subst (λ cs. AreFieldCounts cs c.self.inside.field_counts.items) (ap (λ (l : Links). l.classes) c.self.view_is) c.self.invariant.2 in
    let counted = count_at classes c.self.inside.field_counts.items c.args.field.class c.from.result c.index-count.result.now table (class_in classes c.args.field c.requires) c.from.ensures c.index-count.ensures in
    subst (λ fs. count_by is_instance (drop c.args.field.index fs) ≤ c.index-count.result.now) (sym c.as_slice-fields.ensures.items)
    (few_last classes c.args.field.class c.class.result.now c.args.field.index c.index-count.result.now at counted)

pub returns : goal.returns
returns c =
    let classes = c.args.self.now.classes in
    let at = subst (λ cs. slice_get cs c.args.field.class.0 ≡ Some c.class.result.now) c.set.ensures c.class.ensures in
    let table = subst (λ cs. AreFieldCounts cs c.self.inside.field_counts.items) (ap (λ (l : Links). l.classes) c.self.view_is) c.self.invariant.2 in
    let counted = count_at classes c.self.inside.field_counts.items c.args.field.class c.from.result c.index-count.result.now table (class_in classes c.args.field c.requires) c.from.ensures c.index-count.ensures in
    slot_is classes c.args.field c.class.result.now c.index-count.result.now at counted (held classes c.args.field c.class.result.now at c.requires)
    c.as_slice-fields.result.now c.as_slice-fields.ensures.items c.slot_in.result c.slot_in.ensures.of_static c.slot_in.ensures.of_instance c.slot_in.ensures.slot
