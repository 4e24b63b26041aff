use Rattle.sp_order_laws.proofs.PlaceWorlds
use Rattle.sp_order_laws.proofs.laws.calls_go_out_once.Goals as goal

pub returns : goal.returns
returns c = PlaceWorlds.calls_go_out_once c.frames_go_their_way.ensures
