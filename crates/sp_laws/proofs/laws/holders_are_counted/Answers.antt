use Rattle.sp_laws.proofs.CountRules
use Rattle.sp_laws.proofs.laws.holders_are_counted.Goals as goal

pub returns : goal.returns
returns c = CountRules.holders_are_counted
