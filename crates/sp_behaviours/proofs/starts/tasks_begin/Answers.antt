use Rattle.sp_behaviours.proofs.StartLemmas
use Rattle.sp_behaviours.proofs.starts.tasks_begin.Goals as goal

pub returns : goal.returns
returns c = StartLemmas.tasks_begin
