use Rattle.sp_registry.specs.Bindings as registry
use Rattle.sp_owner.proofs.OwnerLemmas.{unbound-by}
use Rattle.sp_owner.proofs.owner.Owner.unbind.Goals as goal

pub returns-clause-unbound : goal.returns-clause-unbound
returns-clause-unbound c = λ g s is. unbound-by g s c.args.self.now c.unbind.new.self (λ bs. registry.unbind bs c.args.name.now) c.unbind.result c.unbind.ensures.answer c.unbind.ensures.unchanged is
