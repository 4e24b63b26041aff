use Rattle.sp_tasks.proofs.LentLemmas.{lent-then}
use Rattle.sp_tasks.proofs.tasks.Tasks.start.Goals as goal

pub returns-clause-lent : goal.returns-clause-lent
returns-clause-lent c = lent-then c.in_ok-reserve.ensures.lent c.start_reserved.ensures.lent
