use Rattle.std.proofs.Common.{◌≡◌, map, take}
use Rattle.cls_tables.specs.Rows.{row_of}
use Rattle.cls_tables.proofs.rows.all_rows.Given as goal

-- the rows of the classes so far are written
abbrev pub invariant-loop-root : goal.invariant-loop-root
invariant-loop-root l = l.rows.items ≡ map (row_of l.nodes l.levels l.keys) (take l.root-index l.roots)
