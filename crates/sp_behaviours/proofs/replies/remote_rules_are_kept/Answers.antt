use Rattle.sp_behaviours.proofs.CrossingLemmas
use Rattle.sp_behaviours.proofs.replies.remote_rules_are_kept.Goals as goal

pub returns : goal.returns
returns c = CrossingLemmas.remote_rules_are_kept
