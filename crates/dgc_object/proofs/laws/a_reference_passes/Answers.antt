use Rattle.std.proofs.Common.{refl}
use Rattle.dgc_object.proofs.PassingLemmas.{passing-fits}
use Rattle.dgc_object.proofs.laws.a_reference_passes.Goals as goal

pub returns-clause-fits : goal.returns-clause-fits
returns-clause-fits c = passing-fits

pub returns-clause-there : goal.returns-clause-there
returns-clause-there c = (refl, refl, refl, refl, refl)
