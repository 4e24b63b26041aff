use Rattle.sp_rules.specs.Holders.{drop_ids}
use Rattle.sp_living.proofs.LivingLemmas.{dropped-own, moved}
use Rattle.sp_living.proofs.living.Living.drop_ids.Goals as goal

pub returns-clause-dropped : goal.returns-clause-dropped
returns-clause-dropped c = λ g s a. moved g s (drop_ids c.args.references.now s) c.args.self.now c.drop_ids.new.self (dropped-own c.args.references.now s) (λ t. c.drop_ids.ensures.dropped s t) a
