use Rattle.sp_rules.specs.Events.{in_order}
use Rattle.sp_rules.specs.Space.{conclude}
use Rattle.sp_living.proofs.LivingLemmas.{concluded-own, moved}
use Rattle.sp_living.proofs.living.Living.conclude.Goals as goal

pub returns-clause-concluded : goal.returns-clause-concluded
returns-clause-concluded c = λ g s a. moved g s (conclude s (in_order s.notes)).0 c.args.self.now c.conclude.new.self (concluded-own s (in_order s.notes)) (λ t. c.conclude.ensures.concluded s t) a
