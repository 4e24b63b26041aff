-- What happens to a space, and what it answers: events, one change of its state each, and outputs in their order. (This project's own rule; the Java RMI specification speaks of calls, dirty calls, clean calls and leases, 3.3 and chapter 9.)
use Rattle.std.specs.Prelude.{ℕ, zero, suc, ◌==◌, List, [], ◌++◌, Option, map, filter}
use Rattle.net_message.specs.declared.message.Message.{Message}
use Rattle.sp_registry.specs.declared.fault.RegistryFault.{RegistryFault}
use Rattle.uuid.specs.declared.Uuid.{Uuid}
use Rattle.space_ids.specs.declared.ids.ObjId.{ObjId}
use Rattle.space_ids.specs.declared.value.Value.{Value}
use Rattle.sp_rules.specs.Behaviours.{Outcome, Op}

pub data Event : Type 0 where
  -- `moment` milliseconds have passed since the space began to count
  Moment : (moment : ℕ) → Event
  -- objects without a reason to stay are withdrawn
  Sweep : Event
  -- a task starts at a method, with these arguments and this fuel
  Root : (method : ℕ) (arguments : List Value) (fuel : ℕ) → Event
  -- the result of a root or of a lookup is let go
  RootAck : (task : ℕ) → Event
  Bind Rebind : (name : List ℕ) (value : Value) → Event
  Unbind : (name : List ℕ) → Event
  -- a peer's registry is asked for what is bound to a name
  Lookup : (peer : Uuid) (name : List ℕ) → Event
  -- a connection is open: one to the space that was dialled, or one that a peer dialled
  Opened : (conn : ℕ) (dialled : Option Uuid) → Event
  -- a space that was dialled could not be reached
  Refused : (peer : Uuid) → Event
  Received : (conn : ℕ) (message : Message) → Event
  -- the connection ended: the peer closed it, a read failed, or bytes came that are no frame
  Closed ReadFailed Bad : (conn : ℕ) → Event
  -- a write failed, and the last frames were not sent whole
  WriteFailed : (conn unsent : ℕ) → Event
  -- A task that was lent made instructions of its own; and then its operation on the store is done here, it waits for the reply to its call, it is given back, or it has ended.
  Committed : (task made : ℕ) (op : Op) → Event
  Parked GivenBack Finished : (task made : ℕ) → Event

pub data Output : Type 0 where
  Started : (task : ℕ) → Output
  Ended : (task : ℕ) (outcome : Outcome) → Output
  Withdrawn : (ids : List ObjId) → Output
  Denied : (fault : RegistryFault) → Output
  Send : (conn : ℕ) (message : Message) → Output
  Dial : (peer : Uuid) → Output
  Close : (conn : ℕ) → Output
  Ready : (task : ℕ) → Output

-- ---- the order of outputs

-- The frames of one event stand in this order: Hello, replies, requests that waited, Clean, Dirty, Call and Lookup, Ack.
pub data Turn : Type 0 where
  Hellos Replies Waited Cleans Dirties Calls Acks : Turn

-- what an event answers, while it is under way: a frame, with its turn among frames, or another output
pub data Note : Type 0 where
  Says : (output : Output) → Note
  Sends : (turn : Turn) (conn : ℕ) (message : Message) → Note

abbrev pub turn_rank : Turn → ℕ
turn_rank Hellos = 4
turn_rank Replies = 5
turn_rank Waited = 6
turn_rank Cleans = 7
turn_rank Dirties = 8
turn_rank Calls = 9
turn_rank Acks = 10

-- how many ranks there are
abbrev pub ranks : ℕ
ranks = 14

-- The outputs of one event stand in this order of kinds: Started, Ended, Withdrawn, Denied, Send, Dial, Close, Ready. (A frame is noted with its turn; a Send without one has no rank and is not answered.)
abbrev pub output_rank : Output → ℕ
output_rank (Started task) = 0
output_rank (Ended task outcome) = 1
output_rank (Withdrawn ids) = 2
output_rank (Denied fault) = 3
output_rank (Send conn message) = 14
output_rank (Dial peer) = 11
output_rank (Close conn) = 12
output_rank (Ready task) = 13

abbrev pub rank : Note → ℕ
rank (Says output) = output_rank output
rank (Sends turn conn message) = turn_rank turn

abbrev pub output_of : Note → Output
output_of (Says output) = output
output_of (Sends turn conn message) = Send conn message

abbrev pub of_rank : List Note → ℕ → List Output
of_rank notes k = map output_of (filter (λ n. rank n == k) notes)

-- the outputs of the ranks below
abbrev pub of_ranks : ℕ → List Note → List Output
of_ranks zero notes = []
of_ranks (suc k) notes = of_ranks k notes ++ of_rank notes k

-- Outputs of one kind stand as they were made.
unfoldable pub in_order : List Note → List Output
in_order notes = of_ranks ranks notes
