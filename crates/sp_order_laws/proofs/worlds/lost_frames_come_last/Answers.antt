use Rattle.sp_order_laws.proofs.DeliveryLemmas
use Rattle.sp_order_laws.proofs.worlds.lost_frames_come_last.Goals as goal

pub returns : goal.returns
returns c = DeliveryLemmas.lost_frames_come_last
