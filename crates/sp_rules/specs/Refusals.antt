-- Why an event is refused. A refused event changes nothing and is not in the history; of several reasons the one with the lowest number
-- counts, but a space that is worn out says so first. (This project's own rules and numbers.)
use Rattle.std.specs.Prelude.{ℕ, ◌^◌, ◌==◌, ◌&&◌, ◌||◌, not, nat_lt, nat_le, Bool, true, false, List, [], ◌∷◌, ◌++◌, Option, None, Some, is_some, if◌then◌else◌}
use Rattle.std.specs.List.{list_any, list_all}
use Rattle.std.specs.Str.{bytes_eq}
use Rattle.dgc_client.specs.Table as client
use Rattle.uuid.specs.declared.Uuid.{Uuid}
use Rattle.space_ids.specs.declared.ids.ObjId.{ObjId}
use Rattle.space_ids.specs.declared.ids.Ref.{Ref}
use Rattle.space_ids.specs.declared.value.Value.{Value}
use Rattle.sp_rules.specs.Behaviours.{Op, Create, Get, Put, Call, Outcome, Returned, Threw, Spent}
use Rattle.sp_rules.specs.Classes.{Setting, StartRefusal, AbsentMethod, BadSignature, BadArgument, fit_kinds, fits_field, field_kind}
use Rattle.sp_rules.specs.Events.{Event, Moment, Sweep, Root, RootAck, Bind, Rebind, Unbind, Lookup, Opened, Refused, Received, Closed, ReadFailed, Bad, WriteFailed, Committed, Parked, GivenBack, Finished}
use Rattle.sp_rules.specs.Frames.{is_busy}
use Rattle.sp_rules.specs.Holders.{is_own_standing, lease_now, has_holder}
use Rattle.sp_rules.specs.OwnEvents.{is_of_root}
use Rattle.sp_rules.specs.References.{references_of, references_in, reference_of, is_reference_in, is_same_value, own_ids, is_id, is_id_in}
use Rattle.sp_rules.specs.State.{State, Living, Object, is_open, is_dialling, task_at, ready_at, object_at}
use Rattle.sp_rules.specs.Tasks.{Stand, Runs, AsksFor, HasEnded, steps, stand}

pub data Refusal : Type 0 where
  -- 85 to 87: a Root at a method that is not there, whose signature does not cross, or with arguments that do not fit
  CannotStart : (why : StartRefusal) → Refusal
  -- 90: a RootAck of no result that is held
  UnknownTask : Refusal
  -- 91: a task that is not lent
  NotLent : Refusal
  -- 92: a reference that the task does not hold; of a Root one that is neither of a standing own object nor held with a lease
  NotHeld : Refusal
  -- 93: a value, class or field that does not fit; a task that does not stand at the operation of the event; fuel over the limit
  WrongKind : Refusal
  -- 94: an event of no open connection, an Opened of an open one, a dialled Opened or a Refused that no Dial asked for, a lookup whose peer is the space itself
  Strange : Refusal
  -- 98: a moment from 2^63 on; any event but a give-back once a number has come to that
  WornOut : Refusal
  -- 99: a Root over the living tasks
  Busy : Refusal

abbrev pub start_refusal_number : StartRefusal → ℕ
start_refusal_number AbsentMethod = 85
start_refusal_number BadSignature = 86
start_refusal_number BadArgument = 87

abbrev pub refusal_number : Refusal → ℕ
refusal_number (CannotStart why) = start_refusal_number why
refusal_number UnknownTask = 90
refusal_number NotLent = 91
refusal_number NotHeld = 92
refusal_number WrongKind = 93
refusal_number Strange = 94
refusal_number WornOut = 98
refusal_number Busy = 99

-- a refusal, and whether there is reason for it
pub record Check : Type 0 where
  pub fails : Bool
  pub refusal : Refusal

abbrev pub refuse_if : Bool → Refusal → List Check
refuse_if fails refusal = record { fails = fails; refusal = refusal } ∷ []

abbrev pub first_refusal : List Check → Option Refusal
first_refusal [] = None
first_refusal (c ∷ more) = if c.fails then Some c.refusal else first_refusal more

-- ---- worn out

-- whether an object, task, call or sequence number has come to 2^63
abbrev pub is_worn : State → Bool
is_worn s = list_any (nat_le (2 ^ 63)) (s.objects_made ∷ s.tasks_made ∷ s.calls_made ∷ client.numbers_of s.leases ∷ [])

abbrev pub is_give_back : Event → Bool
is_give_back (GivenBack task k) = true
is_give_back _ = false

-- ---- roots

-- A reference among a root's arguments must be of a standing own object, of its class, or a foreign reference with a holder, under its
-- class, and a lease.
abbrev pub is_root_argument : Setting → State → Ref → Bool
is_root_argument g s r =
    if bytes_eq r.space g.id then is_own_standing g s r
    else has_holder g s r
    && is_some (lease_now s (record { space = r.space; id = r.id })).lease

abbrev pub refuse_start : Option StartRefusal → List Check
refuse_start None = []
refuse_start (Some why) = refuse_if true (CannotStart why)

-- ---- lent tasks

-- The list of the ready tasks that are lent stands beside the state: a task is in hand if it is one of these.
abbrev pub is_in_hand : List ℕ → State → ℕ → Bool
is_in_hand lent s task = list_any (◌==◌ task) lent && is_some (ready_at s task)

abbrev pub holds : Option Living → List Ref → Bool
holds None references = false
holds (Some t) references = list_all (is_reference_in t.task.held) references

abbrev pub holds_object : Setting → Option Living → ObjId → Bool
holds_object g None id = false
holds_object g (Some t) id = is_id_in (own_ids g.id t.task.held) id

-- A task asks for what it holds alone: the object whose field it reads or writes, the reference that it writes, the target and the arguments of its call.
abbrev pub holds_op : Setting → Option Living → Op → Bool
holds_op g t (Create class) = true
holds_op g t (Get object slot) = holds_object g t object
holds_op g t (Put object slot value) = holds_object g t object && holds t (reference_of value)
holds_op g t (Call target method arguments) = holds t (target ∷ references_of arguments)

abbrev pub has_field : Setting → Option Object → ℕ → Bool
has_field g None slot = false
has_field g (Some o) slot = is_some (field_kind g.classes o.class slot)

abbrev pub takes_value : Setting → Option Object → ℕ → Value → Bool
takes_value g None slot value = false
takes_value g (Some o) slot value = fits_field (field_kind g.classes o.class slot) value

-- whether an operation on the store fits: a remote class that is not abstract, a field of the object's class, a value of the field's kind
abbrev pub fits_store : Setting → State → Op → Bool
fits_store g s (Create class) = g.classes.is_remote class
fits_store g s (Get object slot) = has_field g (object_at s object) slot
fits_store g s (Put object slot value) = takes_value g (object_at s object) slot value
fits_store g s (Call target method arguments) = false

-- whether a call fits: its target is another space's, its arguments are of the method's kinds
abbrev pub fits_call : Setting → Op → Bool
fits_call g (Create class) = false
fits_call g (Get object slot) = false
fits_call g (Put object slot value) = false
fits_call g (Call target method arguments) = not (bytes_eq target.space g.id) && fit_kinds (g.classes.parameters method) arguments

-- the point at which a task stands after n instructions of its own
abbrev pub stand_after : ℕ → Option Living → Option Stand
stand_after k None = None
stand_after k (Some t) = Some (stand (steps k t.task))

-- whether two operations on the store are the same
abbrev pub is_same_op : Op → Op → Bool
is_same_op (Create class) (Create other) = class.0 == other.0
is_same_op (Get object slot) (Get other place) = is_id object other && slot == place
is_same_op (Put object slot value) (Put other place another) = is_id object other && (slot == place && is_same_value value another)
is_same_op op other = false

-- whether a task stands at this operation on the store
abbrev pub stands_at : Op → Option Stand → Bool
stands_at op None = false
stands_at op (Some Runs) = false
stands_at op (Some (AsksFor asked)) = is_same_op asked op
stands_at op (Some (HasEnded outcome)) = false

abbrev pub check_committed : Setting → State → Op → Option Stand → List Check
check_committed g s op at = refuse_if (not (fits_store g s op)) WrongKind ++ refuse_if (not (stands_at op at)) WrongKind

abbrev pub check_parked : Setting → Option Living → Option Stand → List Check
check_parked g t None = refuse_if true WrongKind
check_parked g t (Some Runs) = refuse_if true WrongKind
check_parked g t (Some (AsksFor op)) = refuse_if (not (holds_op g t op)) NotHeld ++ refuse_if (not (fits_call g op)) WrongKind
check_parked g t (Some (HasEnded outcome)) = refuse_if true WrongKind

abbrev pub result_of : Outcome → Option Value
result_of (Returned value) = value
result_of (Threw class) = None
result_of Spent = None

abbrev pub check_finished : Option Living → Option Stand → List Check
check_finished t None = refuse_if true WrongKind
check_finished t (Some Runs) = refuse_if true WrongKind
check_finished t (Some (AsksFor op)) = refuse_if true WrongKind
check_finished t (Some (HasEnded outcome)) = refuse_if (not (holds t (references_in (result_of outcome)))) NotHeld

-- ---- all events

abbrev pub check_open : State → ℕ → List Check
check_open s conn = refuse_if (not (is_open s conn)) Strange

abbrev pub was_asked : State → Option Uuid → Bool
was_asked s None = true
was_asked s (Some peer) = is_dialling s peer

-- the reasons to refuse an event, in the order of their numbers
abbrev pub checks : Setting → List ℕ → State → Event → List Check
checks g lent s (Moment moment) = refuse_if (nat_le (2 ^ 63) moment) WornOut
checks g lent s Sweep = []
checks g lent s (Root method arguments fuel) =
    refuse_start (g.classes.start_refusal g.id method arguments)
    ++ (refuse_if (not (list_all (is_root_argument g s) (references_of arguments))) NotHeld
    ++ (refuse_if (nat_lt g.limits.fuel fuel) WrongKind
    ++ refuse_if (is_busy s) Busy))
checks g lent s (RootAck task) = refuse_if (not (list_any (is_of_root task) s.results)) UnknownTask
checks g lent s (Bind name value) = []
checks g lent s (Rebind name value) = []
checks g lent s (Unbind name) = []
checks g lent s (Lookup peer name) = refuse_if (bytes_eq peer g.id) Strange
checks g lent s (Opened conn dialled) = refuse_if (is_open s conn || not (was_asked s dialled)) Strange
checks g lent s (Refused peer) = refuse_if (not (is_dialling s peer)) Strange
checks g lent s (Received conn m) = check_open s conn
checks g lent s (Closed conn) = check_open s conn
checks g lent s (ReadFailed conn) = check_open s conn
checks g lent s (Bad conn) = check_open s conn
checks g lent s (WriteFailed conn unsent) = check_open s conn
checks g lent s (Committed task k op) =
    refuse_if (not (is_in_hand lent s task)) NotLent
    ++ (refuse_if (not (holds_op g (task_at s task) op)) NotHeld
    ++ check_committed g s op (stand_after k (task_at s task)))
checks g lent s (Parked task k) = refuse_if (not (is_in_hand lent s task)) NotLent ++ check_parked g (task_at s task) (stand_after k (task_at s task))
checks g lent s (GivenBack task k) = refuse_if (not (is_in_hand lent s task)) NotLent
checks g lent s (Finished task k) = refuse_if (not (is_in_hand lent s task)) NotLent ++ check_finished (task_at s task) (stand_after k (task_at s task))

-- why a space with these lent tasks refuses an event, if it does
unfoldable pub refusal : Setting → List ℕ → State → Event → Option Refusal
refusal g lent s e = if is_worn s && not (is_give_back e) then Some WornOut else first_refusal (checks g lent s e)
