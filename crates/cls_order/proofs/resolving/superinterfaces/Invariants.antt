use Rattle.std.proofs.Common.{◌≡◌, map, take, Some}
use Rattle.std.specs.Prelude.{slice_get}
use Rattle.cls_order.specs.Classes.{names}
use Rattle.cls_order.specs.Entries.{classes_of}
use Rattle.cls_order.proofs.resolving.superinterfaces.Given as goal

-- the names of the numbers so far are those that are passed
abbrev pub invariant-loop-name : goal.invariant-loop-name
invariant-loop-name l =
    map (λ id. slice_get (names (classes_of l.entries)) id.0) l.ids.items ≡ map (λ name. Some name) (take l.name-index l.name-items)
