use Rattle.sp_held_laws.proofs.CleanLaws
use Rattle.sp_held_laws.proofs.kept.granted_references_are_uncleaned.Goals as goal

pub returns : goal.returns
returns c = CleanLaws.granted_references_are_uncleaned c.calls_on_their_way_are_requests.ensures c.calls_are_made_when_due.ensures c.calls_keep_their_order.ensures
