use Rattle.sp_behaviours.proofs.CrossingLemmas
use Rattle.sp_behaviours.proofs.replies.remote_methods_cross.Goals as goal

pub returns : goal.returns
returns c = CrossingLemmas.remote_methods_cross
