use Rattle.std.proofs.Common.{◌∙◌}
use Rattle.sp_core.proofs.CheckLemmas.{held-as}
use Rattle.sp_core.proofs.space_core.SpaceCore.holds_result.Goals as goal

pub returns : goal.returns
returns c = λ g s is. c.contains.ensures ∙ held-as c.args.task s.results c.results.result.now (c.results.ensures g s (c.living.ensures.stands g s is.state))
