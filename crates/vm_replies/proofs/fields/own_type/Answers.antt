use Rattle.std.proofs.Common.{◌∙◌, Some, arith, sym, ap}
use Rattle.ver_frames.specs.Types.{field_vtype}
use Rattle.vm_replies.proofs.Types.{looks_all, looks_found, looks_more, looks_past}
use Rattle.vm_replies.proofs.fields.own_type.Goals as goal
use Rattle.vm_replies.proofs.fields.own_type.Goals.{then-is_of_instances+else-count-index, else-is_of_instances}

pub returns-then-count-index-clause-found : goal.returns-then-count-index-clause-found
returns-then-count-index-clause-found c =
    looks_found c.args.set.now c.args.fields.now c.args.index c.loop-field.field-index c.loop-field.count c.field-item.result _ c.field-item.is c.loop-field-test.true c.loop-field.invariant
    (sym c.if-is_of_instances.true ∙ c.is_of_instances.ensures) c.if-count-index.true ∙ ap (λ t. Some t) (ap (field_vtype c.args.set.now) (sym c.deref.ensures) ∙ sym c.field_vtype.ensures)

pub loop-field-preserved : goal.loop-field-preserved
loop-field-preserved c =
    elim c.if-is_of_instances.branch [
      | then-is_of_instances+else-count-index w ↦
          rw w.count-is (looks_more c.args.set.now c.args.fields.now c.args.index c.loop-field.field-index c.loop-field.count c.field-item.result _ c.field-item.is c.loop-field-test.true c.loop-field.invariant
          (sym w.if-is_of_instances.true ∙ c.is_of_instances.ensures) w.if-count-index.false)
      | else-is_of_instances w ↦
          rw w.count-is (looks_past c.args.set.now c.args.fields.now c.args.index c.loop-field.field-index c.loop-field.count c.field-item.result _ c.field-item.is c.loop-field-test.true c.loop-field.invariant
          (sym w.if-is_of_instances.false ∙ c.is_of_instances.ensures))
    ]

pub returns-clause-count : goal.returns-clause-count
returns-clause-count c = looks_all c.args.set.now c.args.fields.now c.args.index c.loop-field.field-index c.loop-field.count (omega (arith, c.loop-field-test.false)) c.loop-field.invariant
