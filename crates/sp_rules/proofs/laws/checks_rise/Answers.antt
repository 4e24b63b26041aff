use Rattle.sp_rules.proofs.OrderLemmas
use Rattle.sp_rules.proofs.laws.checks_rise.Goals as goal

pub returns : goal.returns
returns c = OrderLemmas.checks_rise
