use Rattle.std.proofs.Common.{◌≡◌, List, None, is_some, ap, ◌∙◌}
use Rattle.std.proofs.lemmas.Bool.{false≢true}
use Rattle.sp_registry.specs.declared.registry.Binding.{Binding}
use Rattle.sp_registry.specs.Bindings.{lookup, rebound}
use Rattle.sp_registry.proofs.BindingsLemmas.{once-rebound}
use Rattle.sp_registry.proofs.TableLemmas.{found, names-rebound, written}
use Rattle.sp_registry.proofs.table.Table.set.Goals as goal

pub unreachable-requires : goal.unreachable-requires
unreachable-requires c =
    let none : None ≡ lookup c.args.self.now c.args.name.now =
    c.in-None.ensures.value ∙ found c.args.name.now c.self.inside.rows.entries ∙ ap (λ (bs : List Binding). lookup bs c.args.name.now) c.self.view_is in
    false≢true (ap is_some none ∙ c.requires)

pub invariant_of-self : goal.invariant_of-self
invariant_of-self c =
    let there = rw (← c.self.view_is) at c.requires in
    rw (written c.args.name.now c.args.object c.self.inside.rows.entries there) (
      once-rebound _ c.args.name.now c.args.object c.self.invariant.0,
      names-rebound _ c.args.name.now c.args.object c.self.invariant.1 there,
      c.self.invariant.2,
    )

pub returns : goal.returns
returns c =
    let there = rw (← c.self.view_is) at c.requires in
    written c.args.name.now c.args.object c.self.inside.rows.entries there ∙ ap (λ (bs : List Binding). rebound bs c.args.name.now c.args.object) c.self.view_is
