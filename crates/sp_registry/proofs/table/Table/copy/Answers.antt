use Rattle.std.proofs.Common.{◌≡◌, ◌++◌, ◌∷◌, List, ℕ, sym, ap, subst, ◌∙◌}
use Rattle.sp_registry.specs.declared.registry.Binding.{Binding}
use Rattle.sp_registry.specs.Bindings.{lookup, HasNamesOnce}
use Rattle.sp_registry.proofs.BindingsLemmas.{unbound-before}
use Rattle.sp_registry.proofs.table.Table.copy.Goals as goal

pub add-requires-clause-unbound : goal.add-requires-clause-unbound
add-requires-clause-unbound c =
    let copy = c.loop-binding.copy in
    let whole : copy ++ (c.in-Some.binding ∷ c.next.new.self) ≡ c.args.self.now = ap (λ (left : List Binding). copy ++ left) (sym c.in-Some.ensures.steps) ∙ c.loop-binding.invariant in
    ap (λ (name : List ℕ). lookup copy name) c.as_bytes.ensures.bytes
    ∙ unbound-before copy c.next.new.self c.in-Some.binding (subst HasNamesOnce (c.iter-binding-items.ensures.bindings ∙ sym whole) c.iter-binding-items.ensures.once)
