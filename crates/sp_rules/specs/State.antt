-- The state of a space: what it made, whom it serves, what it asked of others. (This project's own division; names are RMI's registry, chapter 6 of the Java RMI specification, entries and leases its chapter 9.)
use Rattle.std.specs.Prelude.{ℕ, ◌==◌, ◌&&◌, not, Bool, false, List, [], ◌∷◌, ◌++◌, Option, None, Some, is_some, filter, find, if◌then◌else◌}
use Rattle.std.specs.List.{list_any}
use Rattle.std.specs.Str.{bytes_eq}
use Rattle.space_ids.specs.declared.ids.ClassId.{ClassId}
use Rattle.dgc_client.specs.declared.groups.Group.{Group}
use Rattle.space_ids.specs.declared.ids.ForeignId.{ForeignId}
use Rattle.dgc_client.specs.Table as client
use Rattle.dgc_list.specs.History as owner
use Rattle.net_message.specs.declared.message.Message.{Message}
use Rattle.sp_registry.specs.declared.registry.Binding.{Binding}
use Rattle.uuid.specs.declared.Uuid.{Uuid}
use Rattle.space_ids.specs.declared.ids.ObjId.{ObjId}
use Rattle.space_ids.specs.declared.value.Value.{Value}
use Rattle.sp_rules.specs.Behaviours.{Reply}
use Rattle.sp_rules.specs.Classes.{Kind}
use Rattle.sp_rules.specs.Events.{Output, Note, Says, Sends, Turn}
use Rattle.sp_rules.specs.Lists.{at_first}
use Rattle.sp_rules.specs.References.{is_id, is_id_in}
use Rattle.sp_rules.specs.Tasks.{Task}

-- ---- remote instances

-- what was done to the remote instances: a history, newest first
pub data Stored : Type 0 where
  Made : (id : ObjId) (class : ClassId) → Stored
  Written : (id : ObjId) (slot : ℕ) (value : Value) → Stored
  Gone : (ids : List ObjId) → Stored

pub record Object : Type 0 where
  pub id : ObjId
  pub class : ClassId

-- The standing objects are those that were made and not withdrawn, by number.
abbrev pub standing : List Stored → List Object
standing [] = []
standing (Made id class ∷ h) = standing h ++ record { id = id; class = class } ∷ []
standing (Written id slot value ∷ h) = standing h
standing (Gone ids ∷ h) = filter (λ (o : Object). not (is_id_in ids o.id)) (standing h)

-- A field holds the last value that was put into it.
abbrev pub last_written : List Stored → ObjId → ℕ → Option Value
last_written [] id slot = None
last_written (Made made class ∷ h) id slot = last_written h id slot
last_written (Written to at value ∷ h) id slot = if is_id to id && at == slot then Some value else last_written h id slot
last_written (Gone ids ∷ h) id slot = last_written h id slot

-- ---- tasks

-- A task was started by a Root, or by a Call of this number on this connection.
pub data Origin : Type 0 where
  OfRoot : Origin
  OfCall : (conn number : ℕ) → Origin

-- how a task began
pub record Beginning : Type 0 where
  pub method : ℕ
  pub arguments : List Value
  pub fuel : ℕ

-- a reply that a task was given, after this number of its own instructions since the one before; and whether it lent its fuel for it, to a
-- call. (What it had asked for is the operation at which it stands there.)
pub record Given : Type 0 where
  pub steps : ℕ
  pub lent : Bool
  pub reply : Reply

-- A living task: it may go on, or it waits for the reply to a call.
pub record Living : Type 0 where
  pub id : ℕ
  pub origin : Origin
  pub waits : Bool
  pub task : Task
  -- its record: how it began, the replies that it was given, newest first, and its instructions since the last
  pub began : Beginning
  pub given : List Given
  pub steps : ℕ

-- ---- what is asked of peers

pub data Asked : Type 0 where
  -- a call of a task, with the fuel that it lends and the kind of its result
  Calls : (number task lent : ℕ) (kind : Kind) (message : Message) → Asked
  LooksUp : (number task : ℕ) (name : List ℕ) → Asked
  -- the dirty or clean calls of references of one peer, under the number under which they were made
  Tells : (call : ℕ) (group : Group) → Asked

-- A request waits to be sent; is out on a connection, dirty and clean calls under their sequence number; or is a call whose Returned is parked.
pub data Stage : Type 0 where
  Waits : Stage
  Out : (conn sequence : ℕ) → Stage
  Answered : (conn : ℕ) → Stage

pub record Request : Type 0 where
  pub peer : Uuid
  pub asked : Asked
  pub stage : Stage

-- ---- results

-- A result is held until its root's or lookup's acknowledgement, until an Ack of this number on this connection, or until this moment.
pub data Until : Type 0 where
  RootAcked : (task : ℕ) → Until
  Acked : (conn number : ℕ) → Until
  Passed : (moment : ℕ) → Until

pub record KeptResult : Type 0 where
  pub until : Until
  pub value : Option Value

-- ---- connections

pub record Connection : Type 0 where
  pub number : ℕ
  -- the peer that this space dialled, if it did
  pub dialled : Option Uuid
  -- who spoke, once the Hello has come
  pub peer : Option Uuid
  -- the version of its frames: that of the Hello that this space said, 1 before it said one
  pub version : ℕ
  -- the last Call or Lookup number that came
  pub last : ℕ
  -- what was sent, newest first
  pub sent : List Message

-- a frame that waits for leases
pub data Frame : Type 0 where
  CallFrame : (target : ObjId) (method fuel : ℕ) (arguments : List Value) → Frame
  ReturnedFrame : (value : Option Value) (fuel : ℕ) → Frame

pub record ParkedFrame : Type 0 where
  pub conn : ℕ
  pub number : ℕ
  pub frame : Frame
  -- the foreign references in it, each once
  pub references : List ForeignId

-- ---- the state

-- what an owner keeps for others: names, and what its clients told it of its objects, newest first
pub record Owner : Type 0 where
  pub names : List Binding
  pub entries : List owner.Call

-- Rows stand in the order in which they were made.
pub record State : Type 0 where
  pub moment : ℕ
  -- how many objects, tasks, calls and groups of dirty or clean calls were made: numbers begin at 1 and never come again
  pub objects_made : ℕ
  pub tasks_made : ℕ
  pub calls_made : ℕ
  pub groups_made : ℕ
  pub store : List Stored
  pub owner : Owner
  -- what happened to foreign references, newest first
  pub leases : List client.Told
  pub tasks : List Living
  pub requests : List Request
  pub results : List KeptResult
  pub connections : List Connection
  -- the peers that were dialled and neither opened nor refused
  pub dialling : List Uuid
  -- the peers that were found to speak version 1 alone
  pub noted : List Uuid
  pub parked : List ParkedFrame
  -- the instructions of the tasks that ended
  pub retired : ℕ
  -- of the event that is under way: a call that was made in it, and what it answers
  pub fresh : List Request
  pub notes : List Note

-- A space begins with nothing.
unfoldable pub opening : State
opening = record {
  moment = 0;
  objects_made = 0;
  tasks_made = 0;
  calls_made = 0;
  groups_made = 0;
  store = [];
  owner = record { names = []; entries = [] };
  leases = [];
  tasks = [];
  requests = [];
  results = [];
  connections = [];
  dialling = [];
  noted = [];
  parked = [];
  retired = 0;
  fresh = [];
  notes = [];
}

-- ---- looking things up

abbrev pub object_at : State → ObjId → Option Object
object_at s id = find (λ (o : Object). is_id o.id id) (standing s.store)

abbrev pub task_at : State → ℕ → Option Living
task_at s id = find (λ (t : Living). t.id == id) s.tasks

abbrev pub that_is_ready : Option Living → Option Living
that_is_ready None = None
that_is_ready (Some t) = if t.waits then None else Some t

-- a living task that does not wait
abbrev pub ready_at : State → ℕ → Option Living
ready_at s id = that_is_ready (task_at s id)

abbrev pub connection_at : State → ℕ → Option Connection
connection_at s conn = find (λ (c : Connection). c.number == conn) s.connections

abbrev pub is_open : State → ℕ → Bool
is_open s conn = is_some (connection_at s conn)

abbrev pub is_to : Uuid → Option Uuid → Bool
is_to peer None = false
is_to peer (Some dialled) = bytes_eq dialled peer

-- the connection that this space dialled to a peer
abbrev pub connection_to : State → Uuid → Option Connection
connection_to s peer = find (λ (c : Connection). is_to peer c.dialled) s.connections

abbrev pub is_dialling : State → Uuid → Bool
is_dialling s peer = list_any (bytes_eq peer) s.dialling

-- ---- changing rows

abbrev pub set_connection : (Connection → Connection) → ℕ → State → State
set_connection f conn s = record s { connections = at_first (λ (c : Connection). c.number == conn) f s.connections }

abbrev pub set_task : (Living → Living) → ℕ → State → State
set_task f id s = record s { tasks = at_first (λ (t : Living). t.id == id) f s.tasks }

-- a call on the owner's reference lists
abbrev pub tell_owner : owner.Call → State → State
tell_owner call s = record s { owner = record s.owner { entries = call ∷ s.owner.entries } }

-- ---- outputs

abbrev pub say : Output → State → State
say output s = record s { notes = s.notes ++ Says output ∷ [] }

-- A frame goes out if its connection is open.
unfoldable pub send : Turn → ℕ → Message → State → State
send turn conn message s = if is_open s conn then record s { notes = s.notes ++ Sends turn conn message ∷ [] } else s
