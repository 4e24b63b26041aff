use Rattle.std.proofs.Common.{ℕ}
use Rattle.std.specs.VecDeque.{deque_len}
use Rattle.sp_results.proofs.CallLemmas.{Results}
use Rattle.sp_results.specs.Held.{AreCallResults}
use Rattle.sp_results.proofs.PassLemmas.{AreLeft}
use Rattle.sp_results.proofs.call_results.CallResults.pass.Given as goal

-- what stays of all results stays of those that are still held
abbrev pub invariant-loop-ticket : goal.invariant-loop-ticket
invariant-loop-ticket l = (before : ℕ) (results : Results) → AreCallResults before results l.initial.self → AreLeft before l.moment results l.self

abbrev pub decreases-loop-ticket : goal.decreases-loop-ticket
decreases-loop-ticket l = deque_len l.self.orphans.queue
