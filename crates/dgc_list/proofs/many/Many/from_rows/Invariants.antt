use Rattle.std.proofs.Common.{◌≡◌, take}
use Rattle.dgc_list.proofs.many.Many.from_rows.Given as goal

-- the clients so far are there
abbrev pub invariant-loop-row : goal.invariant-loop-row
invariant-loop-row l = l.many ≡ take l.row-index l.rows
