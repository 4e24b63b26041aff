use Rattle.std.proofs.Common.{◌≡◌, ◌≤◌, ◌++◌, length}
use Rattle.sp_results.specs.Ended.{ended_at, room}
use Rattle.sp_results.proofs.orphans.Orphans.push_all_reserved.Given as goal

-- what is left of the connection is still to come, and there is room for it
abbrev pub invariant-loop-ticket : goal.invariant-loop-ticket
invariant-loop-ticket l =
    (l.self.queue.items ++ ended_at l.until l.ticket-iterator ≡ l.initial.self.queue.items ++ ended_at l.until l.numbers.tickets.entries) × (length l.ticket-iterator ≤ room l.self)
