use Rattle.sp_results.proofs.WaitingLemmas.{distinct-removed, found-only, removed}
use Rattle.sp_results.proofs.results.Results.take.Goals as goal

pub invariant_of-self : goal.invariant_of-self
invariant_of-self c = rw (c.pop.ensures.entries) (distinct-removed c.args.task c.self.inside.results.entries c.self.invariant.0, c.self.invariant.1)

pub returns-clause-left : goal.returns-clause-left
returns-clause-left c = rw (c.pop.ensures.entries, ← c.self.view_is) (removed c.args.task c.self.inside.results.entries c.self.invariant.0)

pub returns-clause-value : goal.returns-clause-value
returns-clause-value c = rw (c.pop.ensures.value, ← c.self.view_is) (found-only c.args.task c.self.inside.results.entries c.self.invariant.0)
