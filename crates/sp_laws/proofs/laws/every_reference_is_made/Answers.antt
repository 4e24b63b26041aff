use Rattle.sp_laws.proofs.MadeLemmas
use Rattle.sp_laws.proofs.laws.every_reference_is_made.Goals as goal

pub returns : goal.returns
returns c = MadeLemmas.references_are_made
