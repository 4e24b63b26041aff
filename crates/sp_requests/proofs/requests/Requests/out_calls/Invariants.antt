use Rattle.std.proofs.Common.{◌≡◌, ℕ, List, map, take}
use Rattle.net_message.specs.declared.message.Message.{Message}
use Rattle.sp_rules.specs.State.{Request}
use Rattle.sp_requests.specs.Asking.{AreRequests, calls_in}
use Rattle.sp_requests.specs.Ends.{unsent_among}
use Rattle.sp_requests.proofs.EndLemmas.{ended_row}
use Rattle.sp_requests.proofs.requests.Requests.out_calls.Given as goal

abbrev pub invariant-loop-number : goal.invariant-loop-number
invariant-loop-number l = (conn : ℕ) (rows : List Request) (sent : List Message) → AreRequests conn rows sent l.self → l.calls.items ≡ map (ended_row (unsent_among l.unsent sent)) (take l.number-index (calls_in sent rows))
