use Rattle.sp_laws.proofs.LentEvents
use Rattle.sp_laws.proofs.records.lent_tasks_go_on.Goals as goal

pub returns-clause-own : goal.returns-clause-own
returns-clause-own c = LentEvents.lent_tasks_go_on

pub returns-clause-others : goal.returns-clause-others
returns-clause-others c = LentEvents.other_tasks_stay
