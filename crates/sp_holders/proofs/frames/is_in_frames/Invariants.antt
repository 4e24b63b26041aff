use Rattle.std.proofs.Common.{◌≡◌, ℕ, false, List, take}
use Rattle.std.specs.List.{list_any}
use Rattle.sp_parked.specs.Parkings.{AreParked}
use Rattle.sp_parked.specs.declared.frame.ParkedFrame.{ParkedFrame}
use Rattle.sp_holders.specs.Places.{has_at}
use Rattle.sp_holders.proofs.frames.is_in_frames.Given as goal

-- no frame of the tickets so far has it
abbrev pub invariant-loop-ticket : goal.invariant-loop-ticket
invariant-loop-ticket l =
    (frames : List (ℕ × ParkedFrame)) → AreParked frames l.parked → list_any (λ (t : ℕ). has_at l.reference t frames) (take l.ticket-index l.ticket-items) ≡ false
