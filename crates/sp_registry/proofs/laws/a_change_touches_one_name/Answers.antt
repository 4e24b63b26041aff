use Rattle.sp_registry.proofs.BindingsLemmas.{lookup-rebound, lookup-unbound, names-rebound}
use Rattle.sp_registry.proofs.laws.a_change_touches_one_name.Goals as goal

pub returns : goal.returns
returns c = record {
  last = λ bindings name other object. lookup-rebound bindings name object other;
  index = names-rebound;
  gone = lookup-unbound;
}
