use Rattle.sp_behaviours.proofs.ReplyLemmas
use Rattle.sp_behaviours.proofs.replies.asked_objects_stand.Goals as goal

pub returns : goal.returns
returns c = ReplyLemmas.asked_objects_stand
