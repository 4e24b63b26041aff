use Rattle.sp_behaviours.proofs.ReplyLemmas
use Rattle.sp_behaviours.proofs.replies.replies_fit.Goals as goal

pub returns : goal.returns
returns c = ReplyLemmas.replies_fit
