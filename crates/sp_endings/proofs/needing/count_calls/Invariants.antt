use Rattle.std.proofs.Common.{◌≡◌, ◌≤◌, ℕ, List, take, length}
use Rattle.std.specs.Prelude.{filter}
use Rattle.sp_parked.specs.Parkings.{AreParked}
use Rattle.sp_parked.specs.declared.frame.ParkedFrame.{ParkedFrame}
use Rattle.sp_endings.specs.Needs.{calls_at}
use Rattle.sp_endings.proofs.needing.count_calls.Given as goal

-- those among the tickets so far
abbrev pub invariant-loop-ticket : goal.invariant-loop-ticket
invariant-loop-ticket l = record {
  few : l.count ≤ l.ticket-index;
  counted : (frames : List (ℕ × ParkedFrame)) → AreParked frames l.parked → l.count ≡ length (filter (λ (t : ℕ). calls_at t frames) (take l.ticket-index l.ticket-items));
}
