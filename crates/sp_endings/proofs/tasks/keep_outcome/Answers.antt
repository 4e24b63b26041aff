use Rattle.sp_tasks.proofs.LentLemmas.{lent-none, lent-same, on-any}
use Rattle.sp_endings.proofs.tasks.keep_outcome.Goals as goal

pub returns-in-Returned-clause-lent : goal.returns-in-Returned-clause-lent
returns-in-Returned-clause-lent c = on-any c.keep.result (lent-same c.keep.ensures.tasks)

pub returns-in-Threw-clause-lent : goal.returns-in-Threw-clause-lent
returns-in-Threw-clause-lent c = lent-none c.args.living.now.tasks

pub returns-in-Spent-clause-lent : goal.returns-in-Spent-clause-lent
returns-in-Spent-clause-lent c = lent-none c.args.living.now.tasks
