use Rattle.std.proofs.Common.{refl}
use Rattle.sp_rules.specs.Frames.{counted}
use Rattle.sp_living.proofs.LivingLemmas.{moved}
use Rattle.sp_living.proofs.living.Living.count.Goals as goal

pub returns-clause-counted : goal.returns-clause-counted
returns-clause-counted c = λ g s a quiet. moved g s (counted c.args.conn c.args.number s) c.args.self.now c.count.new.self refl (λ t. c.count.ensures.counted s t quiet) a
