use Rattle.sp_rules.proofs.WorldLemmas
use Rattle.sp_rules.proofs.laws.tasks_are_runs.Goals as goal

pub returns : goal.returns
returns c = WorldLemmas.tasks_are_runs
