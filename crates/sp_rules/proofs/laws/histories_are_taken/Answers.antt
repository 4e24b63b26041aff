use Rattle.sp_rules.proofs.OwnLemmas
use Rattle.sp_rules.proofs.laws.histories_are_taken.Goals as goal

pub returns : goal.returns
returns c = OwnLemmas.histories_are_taken
