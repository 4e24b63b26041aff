use Rattle.std.proofs.Common.{◌≡◌, ◌++◌}
use Rattle.std.specs.Prelude.{◌||◌}
use Rattle.std.specs.List.{list_any}
use Rattle.sp_registry.specs.declared.registry.Binding.{Binding}
use Rattle.space_ids.specs.declared.ids.ObjId.{ObjId}
use Rattle.sp_rules.specs.References.{is_id, is_id_in}
use Rattle.sp_owner.proofs.sweeping.insert_bound.Given as goal

-- the objects of the names so far; the other names are left
abbrev pub invariant-loop-binding : goal.invariant-loop-binding
invariant-loop-binding l =
    ((id : ObjId) → is_id_in l.needed id ≡ (is_id_in l.initial.needed id || list_any (λ (b : Binding). is_id b.object id) l.yielded))
    × (l.yielded ++ l.binding-iterator ≡ l.names.bindings)
