use Rattle.sp_order_laws.proofs.AnsweringLaws
use Rattle.sp_order_laws.proofs.laws.frames_are_answered_once.Goals as goal

pub returns : goal.returns
returns c = AnsweringLaws.frames_are_answered_once c.frames_go_their_way.ensures
