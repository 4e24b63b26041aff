-- Who holds what. A foreign reference is held by the tasks, fields, results and parked frames that have it; an own object stays while it has a reason to (Java RMI specification, 3.3: referenced remotely, or locally, or bound).
use Rattle.std.specs.Prelude.{ℕ, ◌+◌, ◌==◌, ◌&&◌, ◌||◌, not, nat_lt, Bool, false, List, [], ◌∷◌, Option, None, Some, map, filter, length, unwrap_or, if◌then◌else◌}
use Rattle.std.specs.List.{list_any}
use Rattle.std.specs.Str.{bytes_eq}
use Rattle.space_ids.specs.declared.ids.ClassId.{ClassId}
use Rattle.space_ids.specs.declared.ids.ForeignId.{ForeignId}
use Rattle.dgc_client.specs.History as lease_events
use Rattle.dgc_client.specs.declared.lease.ClientLease.{ClientLease}
use Rattle.dgc_client.specs.Table.{On, own, is_same}
use Rattle.dgc_list.specs.History.{clients_of}
use Rattle.sp_registry.specs.declared.registry.Binding.{Binding}
use Rattle.space_ids.specs.declared.ids.ObjId.{ObjId}
use Rattle.space_ids.specs.declared.ids.Ref.{Ref}
use Rattle.space_ids.specs.declared.value.Value.{Value}
use Rattle.space_ids.specs.declared.value.Value.TheVariants as values
use Rattle.sp_rules.specs.Classes.{Setting, blank, field_kind}
use Rattle.sp_rules.specs.Lists.{each, numbers_below, total}
use Rattle.sp_rules.specs.References.{references_in, references_of, is_reference_in, own_ids, foreign_ids, is_id, is_id_in}
use Rattle.sp_rules.specs.State.{State, Object, Living, KeptResult, ParkedFrame, Frame, CallFrame, ReturnedFrame, standing, last_written, object_at}

-- ---- holders come and go

abbrev pub holder_comes : State → ForeignId → State
holder_comes s r = record s { leases = On r lease_events.Held ∷ s.leases }

abbrev pub holder_goes : State → ForeignId → State
holder_goes s r = record s { leases = On r lease_events.Dropped ∷ s.leases }

unfoldable pub hold_ids : List ForeignId → State → State
hold_ids ids s = each holder_comes ids s

unfoldable pub drop_ids : List ForeignId → State → State
drop_ids ids s = each holder_goes ids s

-- each foreign reference among these gains a holder, or loses one
abbrev pub hold : Setting → List Ref → State → State
hold g references s = hold_ids (foreign_ids g.id references) s

abbrev pub drop : Setting → List Ref → State → State
drop g references s = drop_ids (foreign_ids g.id references) s

-- what the client's side knows of a foreign reference
abbrev pub lease_now : State → ForeignId → ClientLease
lease_now s r = lease_events.lease_of (own r s.leases)

-- ---- fields

-- what a slot of an object holds
abbrev pub field : Setting → State → Object → ℕ → Value
field g s o slot = unwrap_or (last_written s.store o.id slot) (blank (field_kind g.classes o.class slot))

abbrev pub fields_of : Setting → State → Object → List Value
fields_of g s o = map (field g s o) (numbers_below (length (g.classes.fields o.class)))

-- ---- the holders of a foreign reference, counted

abbrev pub times_in : ForeignId → List ForeignId → ℕ
times_in r ids = length (filter (is_same r) ids)

-- A foreign reference is held once by each task, field, result and parked frame that has it.
abbrev pub holders_of : Setting → State → ForeignId → ℕ
holders_of g s r =
    total (λ (t : Living). times_in r (foreign_ids g.id t.task.held)) s.tasks
    + (total (λ o. times_in r (foreign_ids g.id (references_of (fields_of g s o)))) (standing s.store)
    + (total (λ (k : KeptResult). times_in r (foreign_ids g.id (references_in k.value))) s.results
    + total (λ (p : ParkedFrame). times_in r p.references) s.parked))

-- ---- whether a reference has a holder

abbrev pub references_of_frame : Frame → List Ref
references_of_frame (CallFrame target method fuel arguments) = references_of arguments
references_of_frame (ReturnedFrame value fuel) = references_in value

-- A reference, under its class, has a holder while a living task, a field of a standing object, a held result or a parked frame has it.
abbrev pub has_holder : Setting → State → Ref → Bool
has_holder g s r =
    list_any (λ (t : Living). is_reference_in t.task.held r) s.tasks
    || (list_any (λ o. is_reference_in (references_of (fields_of g s o)) r) (standing s.store)
    || (list_any (λ (k : KeptResult). is_reference_in (references_in k.value) r) s.results
    || list_any (λ (p : ParkedFrame). is_reference_in (references_of_frame p.frame) r) s.parked))

-- ---- reasons to stay

-- A parked call holds its target and the own objects among its arguments.
abbrev pub in_frame : Setting → Frame → List ObjId
in_frame g (CallFrame target method fuel arguments) = target ∷ own_ids g.id (references_of arguments)
in_frame g (ReturnedFrame value fuel) = []

abbrev pub is_bound : State → ObjId → Bool
is_bound s id = list_any (λ (b : Binding). is_id b.object id) s.owner.names

abbrev pub has_entry : State → ObjId → Bool
has_entry s id = nat_lt 0 (length (clients_of s.owner.entries id))

abbrev pub is_held_by_tasks : Setting → State → ObjId → Bool
is_held_by_tasks g s id = list_any (λ (t : Living). is_id_in (own_ids g.id t.task.held) id) s.tasks

abbrev pub is_parked : Setting → State → ObjId → Bool
is_parked g s id = list_any (λ (p : ParkedFrame). is_id_in (in_frame g p.frame) id) s.parked

abbrev pub is_in_a_field : Setting → State → ObjId → Bool
is_in_a_field g s id = list_any (λ o. is_id_in (own_ids g.id (references_of (fields_of g s o))) id) (standing s.store)

abbrev pub is_in_a_result : Setting → State → ObjId → Bool
is_in_a_result g s id = list_any (λ (r : KeptResult). is_id_in (own_ids g.id (references_in r.value)) id) s.results

-- An object has a reason to stay while a name is bound to it, a client's entry stands, a living task or a parked call holds it, a field of a standing object has it, or a result that is not acknowledged.
unfoldable pub has_reason : Setting → State → ObjId → Bool
has_reason g s id =
    is_bound s id || (has_entry s id || (is_held_by_tasks g s id || (is_in_a_field g s id || (is_in_a_result g s id || is_parked g s id))))

-- ---- own references

abbrev pub class_is : ClassId → Option Object → Bool
class_is class None = false
class_is class (Some o) = o.class.0 == class.0

-- A reference that comes home names the object itself: one of its class that stands.
abbrev pub is_own_standing : Setting → State → Ref → Bool
is_own_standing g s r = bytes_eq r.space g.id && class_is r.class (object_at s r.id)

-- the own object that a value names, if it stands and is of that class
abbrev pub own_object : Setting → State → Value → Option ObjId
own_object g s values.Null = None
own_object g s (values.Int n) = None
own_object g s (values.Ints ns) = None
own_object g s (values.Ref r) = if is_own_standing g s r then Some r.id else None

-- A call is refused for a reference whose class is not remote or is abstract, and for an own reference that names no standing object of
-- that class.
abbrev pub is_refused : Setting → State → Ref → Bool
is_refused g s r = not (g.classes.is_remote r.class) || (bytes_eq r.space g.id && not (is_own_standing g s r))
