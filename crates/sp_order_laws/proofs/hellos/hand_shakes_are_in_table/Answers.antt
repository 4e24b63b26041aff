use Rattle.sp_order_laws.proofs.HandShakeLemmas
use Rattle.sp_order_laws.proofs.hellos.hand_shakes_are_in_table.Goals as goal

pub returns : goal.returns
returns c = HandShakeLemmas.hand_shakes_are_in_table
