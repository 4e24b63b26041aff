use Rattle.sp_laws.proofs.AwayRules
use Rattle.sp_laws.proofs.laws.others_are_dialled.Goals as goal

pub returns : goal.returns
returns c = AwayRules.others_are_dialled
