use Rattle.std.proofs.Common.{take}
use Rattle.cls_order.specs.Entries.{classes_of}
use Rattle.cls_order.proofs.Marks.{IsSpreading}
use Rattle.cls_order.proofs.reaching.spread.Given as goal

-- the marks of the classes so far are found
abbrev pub invariant-loop-index : goal.invariant-loop-index
invariant-loop-index l = IsSpreading (classes_of l.entries) l.fn.marks.items l.marks.items (take l.index-index l.order)
