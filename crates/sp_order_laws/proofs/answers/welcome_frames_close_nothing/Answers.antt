use Rattle.sp_order_laws.proofs.StayLaws
use Rattle.sp_order_laws.proofs.answers.welcome_frames_close_nothing.Goals as goal

pub returns : goal.returns
returns c = StayLaws.welcome_frames_close_nothing c.frames_go_their_way.ensures c.parked_results_came.ensures
