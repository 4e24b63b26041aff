use Rattle.std.proofs.Common.{◌≡◌, map}
use Rattle.std.specs.List.{AllWithin}
use Rattle.cls_order.specs.Building.{kept}
use Rattle.cls_order.specs.Classes.{names}
use Rattle.cls_order.specs.Entries.{classes_of}
use Rattle.cls_order.specs.Building.{IsWhole}
use Rattle.cls_order.proofs.resolving.resolve.Given as goal

-- the entries so far are resolved, and all are the same otherwise
abbrev pub invariant-loop-index : goal.invariant-loop-index
invariant-loop-index l =
    (map kept l.entries.items ≡ map kept l.fn.entries.items)
    × AllWithin (λ m. IsWhole (names (classes_of l.fn.entries.items)) m.class) l.entries.items 0 l.index
