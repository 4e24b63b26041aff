use Rattle.sp_laws.proofs.WaitHistories
use Rattle.sp_laws.proofs.laws.waiting_tasks_have_one_call.Goals as goal

pub returns : goal.returns
returns c = WaitHistories.waiting_tasks_have_one_call
