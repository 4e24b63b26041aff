use Rattle.cls_tables.proofs.KindRows.{held_again}
use Rattle.cls_tables.proofs.kinds.add_after.Goals as goal

pub returns-then-count_instance_fields-eq0-clause-part : goal.returns-then-count_instance_fields-eq0-clause-part
returns-then-count_instance_fields-eq0-clause-part c =
    held_again c.args.row.now.items c.args.above.start c.args.above.end c.args.fields.now c.count_instance_fields.result c.count_instance_fields.ensures c.if-count_instance_fields-eq0.true
