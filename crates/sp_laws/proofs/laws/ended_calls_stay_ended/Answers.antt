use Rattle.sp_laws.proofs.EndedLemmas
use Rattle.sp_laws.proofs.laws.ended_calls_stay_ended.Goals as goal

pub returns : goal.returns
returns c = EndedLemmas.ended_calls_stay_ended
