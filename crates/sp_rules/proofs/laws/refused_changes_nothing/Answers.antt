use Rattle.sp_rules.proofs.RefusalLemmas
use Rattle.sp_rules.proofs.laws.refused_changes_nothing.Goals as goal

pub returns : goal.returns
returns c = RefusalLemmas.refused_changes_nothing
