use Rattle.sp_rules.proofs.HistoryLemmas
use Rattle.sp_rules.proofs.laws.names_are_bound.Goals as goal

pub returns : goal.returns
returns c = HistoryLemmas.names_are_bound
