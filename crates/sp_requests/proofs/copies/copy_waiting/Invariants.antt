use Rattle.std.proofs.Common.{◌≡◌, take}
use Rattle.sp_requests.proofs.copies.copy_waiting.Given as goal

abbrev pub invariant-loop-asked : goal.invariant-loop-asked
invariant-loop-asked l = l.copies.items ≡ take l.asked-index l.waiting
