use Rattle.std.proofs.Common.{take}
use Rattle.sp_rules.specs.Holders.{hold_ids}
use Rattle.sp_rules.specs.State.{State}
use Rattle.sp_transport.specs.Rooms.{KeepsRows, Spends}
use Rattle.sp_transport.specs.Transports.{IsTransport}
use Rattle.sp_transport.proofs.transport.Transport.hold_ids_reserved.Given as goal

-- each of the references so far has its holder
abbrev pub invariant-loop-reference : goal.invariant-loop-reference
invariant-loop-reference l = record {
  held : (s : State) → IsTransport s l.initial.self → IsTransport (hold_ids (take l.reference-index l.references) s) l.self;
  rooms : Spends l.reference-index 0 0 0 l.initial.self l.self;
  rows : KeepsRows l.initial.self l.self;
}
