-- When what a space keeps for others is that of a state of the rules: one line a part. (This project's own.)
use Rattle.std.specs.Prelude.{◌≡◌, ℕ, ◌||◌, not, Bool, List, [], ◌∷◌, Option, None, Some, Result, Ok, Err, map, filter, fold}
use Rattle.dgc_list.specs.History as owner
use Rattle.space_ids.specs.declared.ids.ClassId.{ClassId}
use Rattle.space_ids.specs.declared.ids.ObjId.{ObjId}
use Rattle.sp_registry.specs.declared.fault.RegistryFault.{RegistryFault}
use Rattle.sp_registry.specs.declared.registry.Binding.{Binding}
use Rattle.sp_rules.specs.Classes.{Setting}
use Rattle.sp_rules.specs.Holders.{has_entry, is_bound, is_in_a_field}
use Rattle.sp_rules.specs.Lists.{each}
use Rattle.sp_rules.specs.References.{is_id_in}
use Rattle.sp_rules.specs.State.{State, Object, Stored, standing, tell_owner}
use Rattle.sp_store.specs.Stores as stores
use Rattle.sp_store.specs.Stores.{holds_of, made, swept}
use Rattle.sp_owner.specs.declared.owner.Owner.{Owner}

-- the parts of a state that an owner keeps
pub record OwnerParts : Type 0 where
  pub store : List Stored
  pub objects_made : ℕ
  pub names : List Binding
  pub entries : List owner.Call

abbrev pub owner_parts : State → OwnerParts
owner_parts s = record { store = s.store; objects_made = s.objects_made; names = s.owner.names; entries = s.owner.entries }

-- The objects, the names and the entries are these. The store itself holds no object for anyone.
pub record KeepsParts (g : Setting) (p : OwnerParts) (o : Owner) : Type 0 where
  pub id : o.id ≡ g.id
  pub store : stores.IsAfter g p.store o.store
  pub holds : (id : ObjId) → holds_of o.store id ≡ 0
  pub objects_made : made o.store ≡ p.objects_made
  pub names : o.names.bindings ≡ p.names
  pub entries : owner.IsAfter p.entries o.entries

-- An owner stands for a state if it keeps the state's parts. So what an event does to other parts leaves it.
abbrev pub IsOwner : Setting → State → Owner → Type 0
IsOwner g s o = KeepsParts g (owner_parts s) o

-- why the registry denies a change of names, if it does
abbrev pub denied : Result (List Binding) RegistryFault → Option RegistryFault
denied (Ok names) = None
denied (Err fault) = Some fault

-- what is told of an object: its id and its class
abbrev pub told : Object → ObjId × ClassId
told o = (o.id, o.class)

-- The standing objects that are not needed, to which no name is bound, of which no client has an entry and that no field has, by id.
abbrev pub idle : Setting → State → List ObjId → List ObjId
idle g s needed =
    map (λ (o : Object). o.id) (filter (λ (o : Object). not (is_bound s o.id || (has_entry s o.id || (is_in_a_field g s o.id || is_id_in needed o.id)))) (standing s.store))

-- the state in which these objects stand no more, and all that clients told of them is forgotten
abbrev pub without : List ObjId → State → State
without ids s = each (λ t id. tell_owner (owner.Forget id) t) ids (record s { store = swept ids s.store })

-- All that clients told of these objects is forgotten, one after the other.
abbrev pub forgotten : List ObjId → List owner.Call → List owner.Call
forgotten ids h = fold (λ calls id. owner.Forget id ∷ calls) h ids
