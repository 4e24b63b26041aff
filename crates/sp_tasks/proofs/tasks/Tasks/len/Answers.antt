use Rattle.std.proofs.Common.{sym, ◌∙◌}
use Rattle.sp_tasks.proofs.OrderLemmas.{length-by}
use Rattle.sp_tasks.proofs.tasks.Tasks.len.Goals as goal

pub returns : goal.returns
returns c = rw (← c.self.view_is) (c.len.ensures.len ∙ sym (length-by c.self.inside.rows.entries))
