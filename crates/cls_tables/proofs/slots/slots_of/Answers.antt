use Rattle.std.proofs.Common.{◌≡◌, Some, subst}
use Rattle.std.specs.Prelude.{slice_get}
use Rattle.cls_tables.proofs.FieldRows.{few_own, slots_known}
use Rattle.cls_tables.proofs.slots.slots_of.Goals as goal

pub overflow_sub-field_count : goal.overflow_sub-field_count
overflow_sub-field_count c =
    let classes = c.args.linked.now.classes in
    let at = subst (λ cs. slice_get cs c.args.class.0 ≡ Some c.class.result.now) c.set.ensures c.class.ensures in
    few_own classes c.args.class c.class.result.now c.as_slice-fields.result.now c.count_instance_fields-own.result c.field_count.result at c.as_slice-fields.ensures.items c.count_instance_fields-own.ensures c.field_count.ensures

pub returns : goal.returns
returns c =
    let classes = c.args.linked.now.classes in
    let at = subst (λ cs. slice_get cs c.args.class.0 ≡ Some c.class.result.now) c.set.ensures c.class.ensures in
    slots_known classes c.args.class c.class.result.now c.as_slice-fields.result.now c.count_instance_fields-own.result c.field_count.result _ at c.as_slice-fields.ensures.items c.count_instance_fields-own.ensures c.field_count.ensures c.in_ok-slots.ensures
