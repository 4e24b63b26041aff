use Rattle.sp_order_laws.proofs.CameLemmas
use Rattle.sp_order_laws.proofs.worlds.parked_results_came.Goals as goal

pub returns : goal.returns
returns c = CameLemmas.parked_results_came
