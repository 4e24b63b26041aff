use Rattle.sp_rules.proofs.AskedLemmas
use Rattle.sp_rules.proofs.laws.steps_are_made.Goals as goal

pub returns : goal.returns
returns c = AskedLemmas.steps_are_made
