use Rattle.std.proofs.Common.{◌≡◌, ◌++◌, map}
use Rattle.std.specs.VecDeque.Iter.{deque_iter_rest}
use Rattle.sp_results.specs.Ended.{over}
use Rattle.sp_results.specs.declared.orphans.Orphan.{Orphan}
use Rattle.sp_results.proofs.orphans.Orphans.tickets_over.Given as goal

-- those of the front of what is left are still to come
abbrev pub invariant-loop-orphan : goal.invariant-loop-orphan
invariant-loop-orphan l =
    l.tickets.items ++ map (λ (o : Orphan). o.ticket) (over l.moment (deque_iter_rest l.orphan-iterator)) ≡ map (λ (o : Orphan). o.ticket) (over l.moment l.self.queue.items)
