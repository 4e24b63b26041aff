use Rattle.sp_rules.proofs.LinesOfRules
use Rattle.sp_rules.proofs.laws.lines_wait_for_hellos.Goals as goal

pub returns : goal.returns
returns c = LinesOfRules.lines_wait_for_hellos
