use Rattle.std.proofs.Common.{◌≡◌, ◌-◌, true}
use Rattle.cf_pool.specs.Pools.{cells_from}
use Rattle.cf_pool.proofs.Cells.{with_cells}
use Rattle.cf_pool.proofs.entries.cells_from.Given as goal

-- the entries so far and those that follow are all of them
abbrev pub invariant-loop-index : goal.invariant-loop-index
invariant-loop-index l =
    with_cells l.entries.items l.positions.items (cells_from (l.count - l.index) l.is_taken l.file l.position) ≡ cells_from l.count true l.file l.at
