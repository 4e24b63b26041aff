use Rattle.sp_tasks.proofs.LentLemmas.{no-more-ended}
use Rattle.sp_tasks.proofs.tasks.Tasks.end.Goals as goal

pub returns-clause-lent : goal.returns-clause-lent
returns-clause-lent c = no-more-ended c.args.id c.args.self.now _ c.let_go.ensures
