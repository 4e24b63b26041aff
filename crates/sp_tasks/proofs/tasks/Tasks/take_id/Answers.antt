use Rattle.std.proofs.Common.{ap}
use Rattle.sp_tasks.specs.Rows.{TaskTable}
use Rattle.sp_tasks.proofs.LentLemmas.{lent-rows}
use Rattle.sp_tasks.proofs.tasks.Tasks.take_id.Goals as goal

pub returns-clause-lent : goal.returns-clause-lent
returns-clause-lent c = lent-rows (ap (λ (t : TaskTable). t.rows) c.self.view_is)
