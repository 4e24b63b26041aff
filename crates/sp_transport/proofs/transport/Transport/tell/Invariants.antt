use Rattle.std.proofs.Common.{◌≡◌, Some}
use Rattle.sp_rules.specs.Requests.{hello_came}
use Rattle.sp_rules.specs.State.{State, connection_to}
use Rattle.sp_outputs.specs.Notes.{turn_of}
use Rattle.sp_transport.specs.Said.{GroupsMayGo}
use Rattle.sp_transport.specs.Transports.{IsTransport}
use Rattle.sp_transport.proofs.FlushLemmas.{IsTelling}
use Rattle.sp_transport.proofs.transport.Transport.tell.Given as goal

-- the parts before the rest went out
abbrev pub invariant-loop-part : goal.invariant-loop-part
invariant-loop-part l =
    (s : State) → IsTransport s l.fn.self → hello_came (connection_to s l.group.peer) ≡ Some l.conn → GroupsMayGo (turn_of l.turn) s → IsTelling (turn_of l.turn) l.conn l.call l.group s l.yielded l.part-iterator.rest.items l.self
