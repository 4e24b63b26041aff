use Rattle.sp_order_laws.proofs.OrderLaws
use Rattle.sp_order_laws.proofs.answers.calls_keep_their_order.Goals as goal

pub returns : goal.returns
returns c = OrderLaws.calls_keep_their_order c.frames_go_their_way.ensures
