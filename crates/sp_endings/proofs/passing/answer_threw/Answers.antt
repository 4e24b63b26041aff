use Rattle.sp_tasks.proofs.LentLemmas.{lent-same, on-any}
use Rattle.sp_endings.proofs.passing.answer_threw.Goals as goal

pub returns-clause-lent : goal.returns-clause-lent
returns-clause-lent c = on-any c.reply.result (lent-same c.reply.ensures.tasks)
