use Rattle.sp_order_laws.proofs.ResultStays
use Rattle.sp_order_laws.proofs.answers.results_wait_for_acks.Goals as goal

pub returns : goal.returns
returns c = ResultStays.results_wait_for_acks
