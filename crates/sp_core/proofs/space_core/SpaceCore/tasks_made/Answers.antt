use Rattle.std.proofs.Common.{◌∙◌}
use Rattle.sp_core.proofs.space_core.SpaceCore.tasks_made.Goals as goal

pub returns : goal.returns
returns c = λ g s is. c.made.ensures ∙ (c.tasks.ensures.are g s (c.living.ensures.stands g s is.state)).last
