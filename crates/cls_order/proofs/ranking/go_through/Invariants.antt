use Rattle.std.proofs.Common.{◌≡◌, ◌<◌, ◌≤◌, ℕ, length}
use Rattle.cls_order.specs.Entries.{classes_of}
use Rattle.cls_order.specs.Marks.{IsMarked}
use Rattle.cls_order.specs.Ranking.{IsPass}
use Rattle.cls_order.proofs.ranking.go_through.Given as goal

-- the classes before next have their ranks
abbrev pub invariant-loop-rank : goal.invariant-loop-rank
invariant-loop-rank l =
    (classes_of l.entries.items ≡ classes_of l.fn.entries.items)
    × IsPass l.entries.items l.rank l.pass
    × (l.next ≤ length l.fn.entries.items)
    × ((k : ℕ) → k < l.next → IsMarked l.pass.ranked.items k)
