use Rattle.std.proofs.Common.{◌≡◌, ◌+◌, ◌≤◌, ◌++◌, ◌∷◌, [], List, None, length, ap, ◌∙◌, arith}
use Rattle.sp_registry.specs.declared.registry.Binding.{Binding}
use Rattle.sp_registry.specs.Bindings.{lookup}
use Rattle.sp_registry.specs.Tables.{bindings_of}
use Rattle.sp_registry.proofs.BindingsLemmas.{once-append}
use Rattle.sp_registry.proofs.TableLemmas.{added, names-append}
use Rattle.sp_registry.proofs.table.Table.add.Goals as goal
use Rattle.sp_registry.proofs.table.Table.add.Goals.{After-demote}

absent : (c : After-demote) → lookup (bindings_of c.self.inside.rows.entries) c.args.name.now ≡ None
absent c = ap (λ (bs : List Binding). lookup bs c.args.name.now) c.self.view_is ∙ c.requires.unbound

-- the rows that are left
left : (c : After-demote)
    → (bindings_of c.demote.new.self.entries ≡ bindings_of c.self.inside.rows.entries ++ record { name = c.args.name.now; object = c.args.object } ∷ [])
    × (c.demote.new.self.cap ≡ c.self.inside.rows.cap)
left c =
    let cap = c.self.invariant.2 in
    let few : length c.self.inside.rows.entries + 1 ≤ c.self.inside.rows.cap = omega (arith, c.len-count.ensures.len, c.len-count.ensures.fits, cap) in
    added c.args.name.now c.in_ok-key.key c.args.object c.self.inside.rows c.put.new.self c.demote.new.self
    (c.in_ok-key.ensures.items_if_clones_equal (λ x y e. e)) (absent c) few c.in_ok-put.ensures.entries c.demote.ensures.entries

pub invariant_of-self-2 : goal.invariant_of-self-2
invariant_of-self-2 c = (
  rw (left c).0 (once-append _ _ c.self.invariant.0 (absent c)),
  rw (left c).0 (names-append _ _ c.self.invariant.1 c.requires.allowed),
  (left c).1 ∙ c.self.invariant.2,
)

pub returns-clause-ok : goal.returns-clause-ok
returns-clause-ok c = (left c).0 ∙ ap (λ (bs : List Binding). bs ++ record { name = c.args.name.now; object = c.args.object } ∷ []) c.self.view_is
