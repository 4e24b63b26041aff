use Rattle.sp_order_laws.proofs.PlaceWorlds
use Rattle.sp_order_laws.proofs.laws.each_call_stands_once.Goals as goal

pub returns : goal.returns
returns c = PlaceWorlds.each_call_stands_once c.frames_go_their_way.ensures c.what_comes_was_sent.ensures
