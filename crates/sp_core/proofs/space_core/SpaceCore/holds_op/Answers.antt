use Rattle.std.proofs.Common.{ap, ◌∙◌}
use Rattle.sp_tasks.specs.Rows.{row_of}
use Rattle.sp_core.proofs.space_core.SpaceCore.holds_op.Goals as goal

pub returns : goal.returns
returns c = λ row found. c.holds_op.ensures row ((λ j. row_of (c.id.ensures j) ((c.tasks-tasks.ensures.is j).rows)) ∙ ap (λ l. row_of c.args.task.now.task.id l.tasks.rows) c.living.ensures.is ∙ found)
