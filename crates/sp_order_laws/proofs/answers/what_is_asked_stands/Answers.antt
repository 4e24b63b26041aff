use Rattle.sp_order_laws.proofs.StayLaws
use Rattle.sp_order_laws.proofs.answers.what_is_asked_stands.Goals as goal

pub returns : goal.returns
returns c = StayLaws.what_is_asked_stands c.frames_go_their_way.ensures c.parked_results_came.ensures
