use Rattle.sp_order_laws.proofs.SenderLemmas
use Rattle.sp_order_laws.proofs.answers.parked_frames_came.Goals as goal

pub returns : goal.returns
returns c = SenderLemmas.parked_frames_came c.frames_go_their_way.ensures c.parked_results_came.ensures
