use Rattle.sp_laws.proofs.PastLemmas
use Rattle.sp_laws.proofs.laws.calls_that_went_stay_gone.Goals as goal

pub returns : goal.returns
returns c = PastLemmas.calls_that_went_stay_gone
