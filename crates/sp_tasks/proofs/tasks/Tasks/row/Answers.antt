use Rattle.std.proofs.Common.{sym, ◌∙◌}
use Rattle.sp_tasks.proofs.OrderLemmas.{lookup-by}
use Rattle.sp_tasks.proofs.RowLemmas.{found-made}
use Rattle.sp_tasks.proofs.tasks.Tasks.row.Goals as goal

pub returns-clause-row : goal.returns-clause-row
returns-clause-row c = rw (← c.self.view_is) (c.get.ensures.value ∙ sym (lookup-by c.args.id c.self.inside.rows.entries c.self.invariant.distinct))

pub returns-clause-made : goal.returns-clause-made
returns-clause-made c = rw (← c.self.view_is) (found-made c.args.id c.self.inside.made c.self.inside.rows.entries c.get.result c.get.ensures.value c.self.invariant.below)
