use Rattle.sp_rules.specs.State.{State}
use Rattle.sp_transport.specs.Settling.{MayMakeDue}
use Rattle.sp_transport.specs.Transports.{IsTransport}
use Rattle.sp_transport.proofs.SettleLemmas.{IsMaking}
use Rattle.sp_transport.proofs.transport.Transport.make_due.Given as goal

-- the groups before the rest were made
abbrev pub invariant-loop-group : goal.invariant-loop-group
invariant-loop-group l = (s : State) → IsTransport s l.fn.self → MayMakeDue s → IsMaking s l.yielded l.group-iterator.rest.items l.self
