use Rattle.std.proofs.Common.{ap}
use Rattle.sp_tasks.specs.Rows.{Hand}
use Rattle.sp_changes.proofs.commits.commit_too.Goals as goal

pub returns-clause-own : goal.returns-clause-own
returns-clause-own w c = c.in-Ok.ensures.own

pub returns-clause-hand : goal.returns-clause-hand
returns-clause-hand w c = (ap (λ (h : Hand). h.id) c.in-Ok.ensures.task, ap (λ (h : Hand). h.made) c.in-Ok.ensures.task)
