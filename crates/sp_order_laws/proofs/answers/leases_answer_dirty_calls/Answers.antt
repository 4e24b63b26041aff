use Rattle.sp_order_laws.proofs.StayLaws
use Rattle.sp_order_laws.proofs.answers.leases_answer_dirty_calls.Goals as goal

pub returns : goal.returns
returns c = StayLaws.leases_answer_dirty_calls c.frames_go_their_way.ensures c.parked_results_came.ensures
