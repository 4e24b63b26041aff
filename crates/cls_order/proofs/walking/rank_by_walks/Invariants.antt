use Rattle.std.proofs.Common.{◌≡◌, ◌<◌, ℕ, get_or}
use Rattle.cls_order.specs.declared.entries.Entry.{Entry}
use Rattle.cls_order.specs.Entries.{classes_of}
use Rattle.cls_order.proofs.Heights.{IsHeight}
use Rattle.cls_order.proofs.walking.rank_by_walks.Given as goal

-- the classes are the same; those so far are ranked by the number of their supertypes
abbrev pub invariant-loop-index : goal.invariant-loop-index
invariant-loop-index l =
    (classes_of l.entries.items ≡ classes_of l.fn.entries.items)
    × ((j : ℕ) (d : Entry) → j < l.index → IsHeight (classes_of l.fn.entries.items) j (get_or l.entries.items j d).rank)
