use Rattle.sp_order_laws.proofs.LastWorlds
use Rattle.sp_order_laws.proofs.laws.calls_come_above_the_last.Goals as goal

pub returns : goal.returns
returns c = LastWorlds.calls_come_above_the_last c.frames_go_their_way.ensures c.what_comes_was_sent.ensures
