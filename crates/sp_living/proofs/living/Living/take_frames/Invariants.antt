use Rattle.std.proofs.Common.{◌≡◌, ℕ, List, take}
use Rattle.sp_parked.specs.Parkings.{AreParked}
use Rattle.sp_parked.specs.declared.frame.ParkedFrame.{ParkedFrame}
use Rattle.sp_living.proofs.TicketLemmas.{found_at, left_at}
use Rattle.sp_living.proofs.living.Living.take_frames.Given as goal

-- what waits under the tickets so far has been taken out, and nothing else
abbrev pub invariant-loop-ticket : goal.invariant-loop-ticket
invariant-loop-ticket l = record {
  others : l.self ≡ record l.fn.self { parked = l.self.parked };
  found : (frames : List (ℕ × ParkedFrame)) → AreParked frames l.fn.self.parked → l.taken.items ≡ found_at (take l.ticket-index l.tickets) frames;
  left : (frames : List (ℕ × ParkedFrame)) → AreParked frames l.fn.self.parked → AreParked (left_at (take l.ticket-index l.tickets) frames) l.self.parked;
}
