use Rattle.std.proofs.Common.{◌≡◌, map, take}
use Rattle.cls_tables.specs.Trees.{find}
use Rattle.cls_tables.proofs.rows.row_of.Given as goal

-- what the tree has for the keys so far is written
abbrev pub invariant-loop-key : goal.invariant-loop-key
invariant-loop-key l = l.row.items ≡ map (find l.nodes l.levels l.root) (take l.key-index l.keys)
