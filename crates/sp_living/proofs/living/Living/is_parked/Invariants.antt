use Rattle.std.proofs.Common.{◌≡◌, ℕ, false, List, take}
use Rattle.std.specs.List.{list_any}
use Rattle.sp_parked.specs.Parkings.{AreParked}
use Rattle.sp_parked.specs.declared.frame.ParkedFrame.{ParkedFrame}
use Rattle.sp_living.specs.Tickets.{numbered_at}
use Rattle.sp_living.proofs.living.Living.is_parked.Given as goal

-- no frame of the tickets so far has the number
abbrev pub invariant-loop-ticket : goal.invariant-loop-ticket
invariant-loop-ticket l =
    (frames : List (ℕ × ParkedFrame)) → AreParked frames l.self.parked → list_any (λ (t : ℕ). numbered_at l.number t frames) (take l.ticket-index l.ticket-items) ≡ false
