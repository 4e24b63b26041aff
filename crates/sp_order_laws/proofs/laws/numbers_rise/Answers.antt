use Rattle.sp_order_laws.proofs.RisingWorlds
use Rattle.sp_order_laws.proofs.laws.numbers_rise.Goals as goal

pub returns : goal.returns
returns c = RisingWorlds.numbers_rise c.frames_go_their_way.ensures c.what_comes_was_sent.ensures
