use Rattle.std.proofs.Common.{◌∙◌}
use Rattle.sp_world.proofs.resident.Resident.keep_reserved.Goals as goal

pub returns-clause-row : goal.returns-clause-row
returns-clause-row g c = c.len-row.ensures ∙ c.args.self.now.answers.ok.0
