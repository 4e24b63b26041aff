use Rattle.std.proofs.Common.{◌∙◌}
use Rattle.rising_map.proofs.RowLemmas.{rises-distinct}
use Rattle.sp_tasks.proofs.OrderLemmas.{first-is, rises-by}
use Rattle.sp_tasks.proofs.tasks.Tasks.ready.Goals as goal

pub returns-clause-first : goal.returns-clause-first
returns-clause-first c =
    let is = c.self.invariant in
    rw (← c.self.view_is) (c.some_id.ensures ∙ first-is c.self.inside.made c.self.inside.rows.entries c.self.inside.ready.numbers c.least.result is.last is.distinct is.below is.numbers c.least.ensures)

pub returns-clause-distinct : goal.returns-clause-distinct
returns-clause-distinct c = rw (← c.self.view_is) (rises-distinct _ (rises-by c.self.inside.rows.entries c.self.invariant.distinct))
