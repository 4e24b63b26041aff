use Rattle.std.proofs.Common.{◌≡◌, [], None, Some}
use Rattle.sp_rules.specs.State.{Connection, State, connection_at}
use Rattle.sp_transport.specs.Transports.{IsTransport}
use Rattle.sp_transport.proofs.FlushLemmas.{IsFlushing}
use Rattle.sp_transport.proofs.transport.Transport.flush_waiting.Given as goal

-- the requests before the rest went out
abbrev pub invariant-loop-asked : goal.invariant-loop-asked
invariant-loop-asked l =
    (s : State) (c : Connection) → IsTransport s l.fn.self → s.notes ≡ [] → connection_at s l.conn ≡ Some c → c.dialled ≡ Some l.peer → c.peer ≡ None → IsFlushing l.conn l.peer s l.yielded l.asked-iterator.rest.items l.self
