use Rattle.cls_tables.proofs.KindRows.{span_added}
use Rattle.cls_tables.proofs.kinds.lay_all.Goals as goal

pub loop-number-preserved : goal.loop-number-preserved
loop-number-preserved c =
    let so = c.loop-number.invariant in
    let was = c.in_ok-span.ensures in
    let more =
    span_added c.args.set.now c.loop-number.row.items c.lay.new.row.items c.loop-number.spans.items c.push.new.self.items c.loop-number.number c.in_ok-span.span so.1 was.starts so.2 was.span
    c.in_ok-push.ensures.items in
    (was.laid, more.0, more.1)
