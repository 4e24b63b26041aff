use Rattle.std.proofs.Common.{◌-◌, eqb, true}
use Rattle.std.proofs.lemmas.Result.{err_from_is_err_and}
use Rattle.cf_pool.specs.Pools.{cells_from}
use Rattle.cf_pool.proofs.Cells.{cells-go_on, cells-fail, cells-end, is_last}
use Rattle.cf_pool.proofs.entries.cells_from.Goals as goal

pub returns-in_err-cell : goal.returns-in_err-cell
returns-in_err-cell c =
    let l = c.loop-index in
    let p = err_from_is_err_and c.from_residual.result c.from_residual.ensures.1 in
    rw (p.1, p.2) (cells-fail l.entries.items l.positions.items c.args.count l.index l.is_taken c.args.file.now l.position (cells_from c.args.count true c.args.file.now c.args.at) l.invariant
    (eqb l.index (c.args.count - 1)) c.in_err-cell.field-0.0 c.loop-index-test.true (is_last c.args.count l.index c.loop-index-test.true) c.in_err-cell.ensures)

pub loop-index-preserved : goal.loop-index-preserved
loop-index-preserved c =
    let l = c.loop-index in
    rw (c.in_ok-push.ensures.items, c.in_ok-push-2.ensures.items) (cells-go_on l.entries.items l.positions.items c.args.count l.index l.is_taken c.args.file.now l.position (cells_from c.args.count true c.args.file.now c.args.at) l.invariant
    (eqb l.index (c.args.count - 1)) c.in_ok-cell.cell c.in_ok-cell.after c.loop-index-test.true (is_last c.args.count l.index c.loop-index-test.true) c.in_ok-cell.ensures)

pub returns : goal.returns
returns c =
    let l = c.loop-index in
    rw (c.new.ensures, c.new-2.ensures) (cells-end l.entries.items l.positions.items c.args.count l.index l.is_taken c.args.file.now l.position (cells_from c.args.count true c.args.file.now c.args.at) l.invariant c.loop-index-test.false)
