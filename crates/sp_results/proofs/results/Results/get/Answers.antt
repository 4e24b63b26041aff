use Rattle.sp_results.proofs.WaitingLemmas.{found-only}
use Rattle.sp_results.proofs.results.Results.get.Goals as goal

pub returns : goal.returns
returns c = rw (c.peek.ensures, ← c.self.view_is) (found-only c.args.task c.self.inside.results.entries c.self.invariant.0)
