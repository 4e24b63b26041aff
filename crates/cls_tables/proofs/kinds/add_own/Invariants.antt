use Rattle.std.proofs.Common.{◌≡◌, ◌++◌, take}
use Rattle.cls_tables.specs.Kinds.{own_kinds}
use Rattle.cls_tables.proofs.kinds.add_own.Given as goal

-- what those so far hold is added
abbrev pub invariant-loop-field : goal.invariant-loop-field
invariant-loop-field l = l.row.items ≡ l.fn.row.items ++ own_kinds (take l.field-index l.fields)
