use Rattle.std.proofs.Common.{◌≡◌, Some, take}
use Rattle.std.specs.Prelude.{All, slice_get}
use Rattle.cls_order.specs.declared.class.Class.{Class}
use Rattle.cls_order.specs.Classes.{IsInterface}
use Rattle.cls_order.specs.Entries.{classes_of}
use Rattle.cls_set.proofs.rules.implements_class.Given as goal

-- the superinterfaces so far are interfaces
abbrev pub invariant-loop-interface : goal.invariant-loop-interface
invariant-loop-interface l =
    All (λ s. (k : Class) → slice_get (classes_of l.entries) s.0 ≡ Some k → IsInterface k) (take l.interface-index l.interface-items)
