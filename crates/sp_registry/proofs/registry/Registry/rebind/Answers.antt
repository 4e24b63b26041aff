use Rattle.std.proofs.Common.{◌≡◌, None, Ok, sym, ap, ◌∙◌}
use Rattle.sp_registry.specs.Bindings.{Names, lookup, rebind_allowed}
use Rattle.sp_registry.proofs.BindingsLemmas.{rebound-new}
use Rattle.sp_registry.proofs.registry.Registry.rebind.Goals as goal

pub returns-in_ok-add-in-None-clause-ok : goal.returns-in_ok-add-in-None-clause-ok
returns-in_ok-add-in-None-clause-ok c =
    let absent : lookup c.args.self.now.bindings c.args.name.now ≡ None =
    ap (λ (n : Names). lookup n.bindings c.args.name.now) (sym c.self.view_is) ∙ sym c.in-None.ensures in
    ap (rebind_allowed c.args.self.now.bindings c.args.name.now) (sym c.allowed.ensures ∙ c.in_ok-object.was)
    ∙ ap Ok (rebound-new c.args.self.now.bindings c.args.name.now c.in_ok-object.object absent ∙ sym c.in_ok-add-in-None.ensures.ok)
