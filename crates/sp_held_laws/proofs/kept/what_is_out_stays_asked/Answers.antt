use Rattle.sp_held_laws.proofs.StepLaws
use Rattle.sp_held_laws.proofs.kept.what_is_out_stays_asked.Goals as goal

pub returns : goal.returns
returns c = StepLaws.what_is_out_stays_asked c.calls_on_their_way_are_requests.ensures c.calls_are_made_when_due.ensures
