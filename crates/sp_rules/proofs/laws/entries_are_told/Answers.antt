use Rattle.sp_rules.proofs.HistoryLemmas
use Rattle.sp_rules.proofs.laws.entries_are_told.Goals as goal

pub returns : goal.returns
returns c = HistoryLemmas.entries_are_told
