use Rattle.sp_laws.proofs.StartedLemmas
use Rattle.sp_laws.proofs.calls.calls_start_one_task.Goals as goal

pub returns : goal.returns
returns c = StartedLemmas.calls_start_one_task
