use Rattle.std.proofs.Common.{◌∙◌}
use Rattle.sp_living.proofs.StepLemmas.{now-ended, origin-is}
use Rattle.sp_living.proofs.living.Living.take_task.Goals as goal

pub returns-clause-origin : goal.returns-clause-origin
returns-clause-origin c = λ g s a. c.origin-origin.ensures ∙ origin-is g s c.args.self.now c.args.id a

pub returns-clause-left : goal.returns-clause-left
returns-clause-left c = λ g s retired a. now-ended g s c.args.self.now c.args.id retired c.end.new.self c.end.ensures.ended a
