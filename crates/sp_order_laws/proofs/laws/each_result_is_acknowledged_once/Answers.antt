use Rattle.sp_order_laws.proofs.PlaceWorlds
use Rattle.sp_order_laws.proofs.laws.each_result_is_acknowledged_once.Goals as goal

pub returns : goal.returns
returns c = PlaceWorlds.each_result_is_acknowledged_once c.frames_go_their_way.ensures c.what_comes_was_sent.ensures
