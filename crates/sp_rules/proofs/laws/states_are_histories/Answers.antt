use Rattle.sp_rules.proofs.WorldLemmas
use Rattle.sp_rules.proofs.laws.states_are_histories.Goals as goal

pub returns : goal.returns
returns c = WorldLemmas.states_are_histories
