use Rattle.std.proofs.Common.{ap, ◌∙◌}
use Rattle.sp_tasks.specs.Rows.{is_in_hand, row_of}
use Rattle.sp_core.proofs.space_core.SpaceCore.lends.Goals as goal

pub returns : goal.returns
returns c = c.is_lent_as.ensures.lent ∙ ap (λ t. is_in_hand (row_of c.args.task.now.task.id t.rows) c.args.task.now.task) c.tasks.ensures.is ∙ ap (λ l. is_in_hand (row_of c.args.task.now.task.id l.tasks.rows) c.args.task.now.task) c.living.ensures.is
