use Rattle.sp_laws.proofs.GivenRules
use Rattle.sp_laws.proofs.laws.ids_are_given.Goals as goal

pub returns : goal.returns
returns c = GivenRules.ids_are_given
