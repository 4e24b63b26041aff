use Rattle.sp_order_laws.proofs.PlaceWorlds
use Rattle.sp_order_laws.proofs.laws.each_group_is_answered_once.Goals as goal

pub returns : goal.returns
returns c = PlaceWorlds.each_group_is_answered_once c.frames_go_their_way.ensures c.what_comes_was_sent.ensures
