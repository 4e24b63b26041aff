use Rattle.std.proofs.Common.{◌-◌, length}
use Rattle.cls_order.specs.Entries.{classes_of}
use Rattle.cls_order.specs.Walks.{met_by}
use Rattle.cls_order.proofs.Walks.{IsWalking}
use Rattle.cls_order.proofs.walking.walk_up.Given as goal

-- the walk has passed the classes before next
abbrev pub invariant-up : goal.invariant-up
invariant-up l = IsWalking (classes_of l.entries) l.fn.from l.next (met_by l.walk)

abbrev pub decreases-up : goal.decreases-up
decreases-up l = length l.entries - l.next
