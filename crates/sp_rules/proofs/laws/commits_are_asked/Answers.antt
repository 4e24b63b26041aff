use Rattle.sp_rules.proofs.AskedLemmas
use Rattle.sp_rules.proofs.laws.commits_are_asked.Goals as goal

pub returns : goal.returns
returns c = AskedLemmas.commits_are_asked
