use Rattle.std.proofs.Common.{◌≡◌, ◌++◌, take}
use Rattle.std.specs.List.{flat_map}
use Rattle.sp_requests.proofs.EndLemmas.{waiting_call}
use Rattle.sp_requests.proofs.requests.Requests.waiting_calls.Given as goal

abbrev pub invariant-loop-asked : goal.invariant-loop-asked
invariant-loop-asked l = l.calls.items ≡ l.fn.calls.items ++ flat_map waiting_call (take l.asked-index l.self.waiting.items)
