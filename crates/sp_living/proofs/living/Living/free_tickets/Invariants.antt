use Rattle.std.proofs.Common.{◌≡◌, ℕ, List, take}
use Rattle.std.specs.Prelude.{filter}
use Rattle.sp_parked.specs.Parkings.{AreParked}
use Rattle.sp_parked.specs.declared.frame.ParkedFrame.{ParkedFrame}
use Rattle.sp_rules.specs.State.{State}
use Rattle.sp_transport.specs.Transports.{IsTransport}
use Rattle.sp_living.specs.Tickets.{free_at}
use Rattle.sp_living.proofs.living.Living.free_tickets.Given as goal

-- those among the tickets so far
abbrev pub invariant-loop-ticket : goal.invariant-loop-ticket
invariant-loop-ticket l =
    (s : State) (frames : List (ℕ × ParkedFrame)) → IsTransport s l.self.transport → AreParked frames l.self.parked
    → l.free.items ≡ filter (λ (t : ℕ). free_at s t frames) (take l.ticket-index l.ticket-items)
