use Rattle.sp_laws.proofs.FittedLemmas
use Rattle.sp_laws.proofs.records.tasks_go_on.Goals as goal

pub returns : goal.returns
returns c = FittedLemmas.tasks_go_on
