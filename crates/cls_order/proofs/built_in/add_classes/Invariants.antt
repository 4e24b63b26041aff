use Rattle.std.proofs.Common.{◌≡◌, ◌++◌, map, take, Some}
use Rattle.cls_order.specs.BuiltIn.{file_of}
use Rattle.cls_order.proofs.built_in.add_classes.Given as goal

-- the rows so far are added
abbrev pub invariant-loop-name : goal.invariant-loop-name
invariant-loop-name l =
    l.files.items
    ≡ l.fn.files.items ++ map (λ row. file_of (record { name = row.0.now; superclass = Some row.1.now; kind = row.2 })) (take l.name-index l.rows)
