use Rattle.std.proofs.Common.{refl}
use Rattle.sp_rules.specs.Frames.{greeted}
use Rattle.sp_living.proofs.LivingLemmas.{moved}
use Rattle.sp_living.proofs.living.Living.greet.Goals as goal

pub returns-clause-greeted : goal.returns-clause-greeted
returns-clause-greeted c = λ g s a quiet accepted. moved g s (greeted c.args.space c.args.conn s) c.args.self.now c.greet.new.self refl (λ t. c.greet.ensures.greeted s t quiet accepted) a
