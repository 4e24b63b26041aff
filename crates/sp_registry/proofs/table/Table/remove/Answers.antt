use Rattle.std.proofs.Common.{List, ap, ◌∙◌}
use Rattle.sp_registry.specs.declared.registry.Binding.{Binding}
use Rattle.sp_registry.specs.Bindings.{lookup, unbound}
use Rattle.sp_registry.proofs.BindingsLemmas.{once-unbound}
use Rattle.sp_registry.proofs.TableLemmas.{found, names-unbound, removed}
use Rattle.sp_registry.proofs.table.Table.remove.Goals as goal

pub invariant_of-self : goal.invariant_of-self
invariant_of-self c = rw (c.pop.ensures.entries, removed c.args.name.now c.self.inside.rows.entries) (
  once-unbound _ c.args.name.now c.self.invariant.0,
  names-unbound _ c.args.name.now c.self.invariant.1,
  c.self.invariant.2,
)

pub returns-clause-object : goal.returns-clause-object
returns-clause-object c =
    c.pop.ensures.value ∙ found c.args.name.now c.self.inside.rows.entries ∙ ap (λ (bs : List Binding). lookup bs c.args.name.now) c.self.view_is

pub returns-clause-left : goal.returns-clause-left
returns-clause-left c =
    rw (c.pop.ensures.entries) (removed c.args.name.now c.self.inside.rows.entries ∙ ap (λ (bs : List Binding). unbound bs c.args.name.now) c.self.view_is)
