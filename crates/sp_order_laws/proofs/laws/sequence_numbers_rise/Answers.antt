use Rattle.sp_order_laws.proofs.RisingLaws
use Rattle.sp_order_laws.proofs.laws.sequence_numbers_rise.Goals as goal

pub returns : goal.returns
returns c = RisingLaws.sequence_numbers_rise c.frames_go_their_way.ensures
