use Rattle.sp_results.proofs.OverLemmas.{sorted-over}
use Rattle.sp_results.proofs.call_results.CallResults.tickets_over.Goals as goal

pub returns : goal.returns
returns c = λ before rows a. sorted-over before c.args.moment rows c.args.self.now _ _ c.in_ok-tickets.ensures c.sort_unstable.ensures.permutation c.sort_unstable.ensures.sorted a
