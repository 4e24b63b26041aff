use Rattle.std.proofs.Common.{Option, subst}
use Rattle.std.proofs.lemmas.Result.{on_ok_weaker}
use Rattle.sp_registry.specs.Bindings as registry
use Rattle.sp_registry.specs.declared.fault.RegistryFault.{RegistryFault}
use Rattle.sp_living.specs.Livings.{IsLiving}
use Rattle.sp_state.specs.Denying.{told_denied}
use Rattle.sp_state.proofs.SpaceLemmas.{named, named-numbers}
use Rattle.sp_state.proofs.space_state.SpaceState.unbind.Goals as goal

pub returns-clause-unbound : goal.returns-clause-unbound
returns-clause-unbound c = on_ok_weaker c.deny.result (λ told. λ g s is.
    let names = registry.unbind s.owner.names c.args.name.now in
    record {
      id = is.id;
      version = is.version;
      digest = is.digest;
      numbers = named-numbers names s is.numbers;
      owner = c.unbind-denied.ensures.unbound g s is.owner;
      living = named g names s c.deny.new.living (subst (λ (d : Option RegistryFault). IsLiving g (told_denied d s) c.deny.new.living) (c.unbind-denied.ensures.denied g s is.owner) (told g s is.living));
    }) c.deny.ensures.denied
