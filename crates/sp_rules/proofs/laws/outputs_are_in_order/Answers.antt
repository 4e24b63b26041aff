use Rattle.sp_rules.proofs.OrderLemmas
use Rattle.sp_rules.proofs.laws.outputs_are_in_order.Goals as goal

pub returns : goal.returns
returns c = OrderLemmas.outputs_are_in_order
