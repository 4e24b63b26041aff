use Rattle.cls_tables.proofs.KindRows.{laid_after, noted}
use Rattle.cls_tables.specs.Kinds.{part}
use Rattle.cls_tables.proofs.kinds.lay_after.Goals as goal

pub returns-clause-laid : goal.returns-clause-laid
returns-clause-laid c =
    let classes = c.args.set.now in
    let was = c.in_ok-span.ensures in
    let is =
    laid_after classes c.args.class c.class.result.now (part c.args.row.now.items c.args.above.start c.args.above.end) c.add_after.new.row.items c.as_slice-fields.result.now c.in_ok-span.span
    c.requires.holds c.class.ensures c.as_slice-fields.ensures.items was.rising was.within was.part in
    noted classes c.args.class c.args.row.now.items c.add_after.new.row.items c.args.memo.now.items c.from.result c.in_ok-span.span c.requires.laid was.starts c.from.ensures c.requires.in_set is
