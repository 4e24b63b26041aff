use Rattle.sp_behaviours.proofs.SetLemmas
use Rattle.sp_behaviours.proofs.sets.sets_are_told.Goals as goal

pub returns : goal.returns
returns c = SetLemmas.sets_are_told
