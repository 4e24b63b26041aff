use Rattle.std.proofs.Common.{◌∙◌, sym, arith}
use Rattle.cls_search.proofs.Heights.{superclass_above}
use Rattle.cls_tables.proofs.KindRows.{holds_below, holds_root, laid_before, nothing_between}
use Rattle.cls_tables.specs.Kinds.{part}
use Rattle.cls_tables.proofs.kinds.+lay.Goals as goal

pub returns-in-Some-clause-span : goal.returns-in-Some-clause-span
returns-in-Some-clause-span t c =
    laid_before c.args.set.now c.args.class c.args.row.now.items c.args.memo.now.items c.from.result c.index.result.now c.in-Some.span c.requires.laid c.requires.in_set c.from.ensures c.index.ensures c.in-Some.is

pub lay-requires : goal.lay-requires
lay-requires t c =
    let up = superclass_above c.args.set.now c.requires.set c.args.class c.in-Some-superclass.superclass c.class-entry.result.now c.class-entry.ensures c.in-Some-superclass.is in
    (omega (arith, up.lower, c.decreases), (c.requires.set, (up.in_set, c.requires.laid)))

pub lay_after-requires-clause-holds : goal.lay_after-requires-clause-holds
lay_after-requires-clause-holds t c =
    let above = c.in_ok-above-in-Some-superclass.above in
    holds_below c.args.set.now c.args.class c.in-Some-superclass.superclass c.class-entry.result.now (part c.lay.new.row.items above.start above.end) c.class-entry.ensures c.in-Some-superclass.is
    c.in_ok-above-in-Some-superclass.ensures.span.holds

pub lay_after-requires-in-None-clause-holds : goal.lay_after-requires-in-None-clause-holds
lay_after-requires-in-None-clause-holds t c =
    let row = c.args.row.now.items in
    holds_root c.args.set.now c.args.class c.class-entry.result.now (part row c.len.result c.len-in-None.result) c.class-entry.ensures c.in-None.is
    (nothing_between row c.len.result c.len-in-None.result (c.len-in-None.ensures ∙ sym c.len.ensures))
