use Rattle.std.proofs.Common.{◌≡◌, ◌++◌, take, drop}
use Rattle.cls_tables.proofs.kinds.add_part.Given as goal

-- as much of the part as was copied
abbrev pub invariant-loop-index : goal.invariant-loop-index
invariant-loop-index l = l.row.items ≡ l.fn.row.items ++ take l.index (drop l.span.start l.fn.row.items)
