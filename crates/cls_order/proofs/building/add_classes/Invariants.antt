use Rattle.std.proofs.Common.{◌≡◌, ◌++◌, map, length}
use Rattle.std.specs.Vec.Iter.{into_iter_items}
use Rattle.cls_order.specs.Building.{ranked_from}
use Rattle.cls_order.proofs.building.add_classes.Given as goal

-- the entries so far, with what is left, are all
abbrev pub invariant-loop-file : goal.invariant-loop-file
invariant-loop-file l =
    l.entries.items ++ ranked_from (length l.entries.items) (map (λ file. (file, l.is_built_in)) (into_iter_items l.file-iterator))
    ≡ l.fn.entries.items ++ ranked_from (length l.fn.entries.items) (map (λ file. (file, l.is_built_in)) l.fn.files.items)
