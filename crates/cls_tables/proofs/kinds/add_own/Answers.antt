use Rattle.std.proofs.Common.{arith}
use Rattle.cls_tables.proofs.KindRows.{no_kinds, field_added}
use Rattle.cls_tables.proofs.kinds.add_own.Goals as goal

pub loop-field-init : goal.loop-field-init
loop-field-init c = no_kinds c.args.row.now.items

pub loop-field-preserved : goal.loop-field-preserved
loop-field-preserved c =
    let inside = c.loop-field-test.true in
    let end = c.loop-field.auto.field-index-end in
    field_added c.args.row.now.items c.loop-field.row.items c.add_one.new.row.items c.args.fields.now c.loop-field.field-index c.field-item.result (omega (arith, inside, end)) c.field-item.is
    c.loop-field.invariant c.in_ok-add_one.ensures
