use Rattle.sp_behaviours.proofs.RemoteLemmas
use Rattle.sp_behaviours.proofs.replies.remote_fields_are_held.Goals as goal

pub returns : goal.returns
returns c = RemoteLemmas.remote_fields_are_held
