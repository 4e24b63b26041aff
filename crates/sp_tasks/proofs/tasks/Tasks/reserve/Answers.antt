use Rattle.std.proofs.Common.{rules}
use Rattle.sp_tasks.proofs.LentLemmas.{lent-rows}
use Rattle.sp_tasks.proofs.tasks.Tasks.reserve.Goals as goal

pub returns-clause-lent : goal.returns-clause-lent
returns-clause-lent c = lent-rows (search rules)
