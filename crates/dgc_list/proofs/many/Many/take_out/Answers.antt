use Rattle.dgc_list.proofs.ClientsLemmas.{distinct-removed, gone-taken, sets-taken}
use Rattle.dgc_list.proofs.many.Many.take_out.Goals as goal

pub invariant_of-self : goal.invariant_of-self
invariant_of-self c = rw (c.pop.ensures.entries) (distinct-removed c.args.client.now c.self.inside.remembered.entries c.self.invariant.0, c.self.invariant.1)

pub returns-clause-sets : goal.returns-clause-sets
returns-clause-sets c =
    rw (c.pop.ensures.entries, ← c.self.view_is) (sets-taken c.args.client.now c.self.inside.remembered.entries c.self.invariant.0)

pub returns-clause-gone : goal.returns-clause-gone
returns-clause-gone c = rw (c.pop.ensures.entries) (gone-taken c.args.client.now c.self.inside.remembered.entries c.self.invariant.0)
