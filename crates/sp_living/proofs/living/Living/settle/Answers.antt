use Rattle.std.proofs.lemmas.Result.{on_ok_weaker}
use Rattle.sp_rules.specs.Requests.{settle}
use Rattle.sp_living.proofs.AskedLemmas.{settle-own}
use Rattle.sp_living.proofs.LivingLemmas.{moved}
use Rattle.sp_living.proofs.living.Living.settle.Goals as goal

pub returns-clause-settled : goal.returns-clause-settled
returns-clause-settled c = on_ok_weaker c.settle.result (λ settled. λ g s a may. moved g s (settle s) c.args.self.now c.settle.new.self (settle-own s) (λ t. settled s t may) a) c.settle.ensures
