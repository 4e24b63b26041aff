-- One space before peers that send anything: what it refuses or answers, event by event. (This project's own protocol; names of exceptions are the Java RMI specification's, appendix A.)
use Rattle.std.specs.Prelude.{◌≡◌, ℕ, ◌^◌, List, [], ◌∷◌, None, Some, false, pos}
use Rattle.net_message.specs.declared.message.Message.{Message}
use Rattle.net_message.specs.declared.message.Message.TheVariants as message
use Rattle.sp_registry.specs.declared.fault.RegistryFault.TheVariants.{NotBound, BadName, NotOwn}
use Rattle.uuid.specs.declared.Uuid.{Uuid}
use Rattle.space_ids.specs.declared.ids.ObjId.{ObjId}
use Rattle.space_ids.specs.declared.value.Value.{Value}
use Rattle.space_ids.specs.declared.value.Value.TheVariants as values
use Rattle.sp_rules.specs.Behaviours.{Returned, Threw, Create, Get, Put}
use Rattle.sp_rules.specs.Classes.{Setting, AbsentMethod, BadArgument}
use Rattle.sp_rules.specs.Events.{Event, Moment, Sweep, Root, RootAck, Bind, Unbind, Lookup, Opened, Refused, Received, Closed, Committed, Parked, GivenBack, Finished, Output, Started, Ended, Withdrawn, Denied, Send, Dial, Close, Ready}
use Rattle.sp_rules.specs.Lists.{with_some}
use Rattle.sp_rules.specs.Refusals.{Refusal, CannotStart, UnknownTask, NotLent, NotHeld, WrongKind, Strange, WornOut, refusal}
use Rattle.sp_rules.specs.Space.{on}
use Rattle.sp_rules.specs.State.{State, opening}
use Rattle.sp_rules.specs.Worlds.{lent_for}
use Rattle.sp_scripts.specs.Names.{class_of, absent_method, box_class, box_clear, box_make, box_put, box_same, counter_bump, counter_class, counter_make, connect_exception, link_fresh, link_class, link_make, no_such_object_exception, not_bound_exception, out_of_memory_error, remote_exception, unmarshal_exception}
use Rattle.sp_scripts.specs.Programs.{setting_of}

-- an event is refused, or answers this
pub data Answer : Type 0 where
  Refuses : (why : Refusal) → Answer
  Answers : (outputs : List Output) → Answer

abbrev pub heard_from : Setting → State → List Event → List Answer
heard_from g s [] = []
heard_from g s (e ∷ es) =
    with_some (refusal g (lent_for e) s e) (Answers (on g e s).1 ∷ heard_from g (on g e s).0 es) (λ why. Refuses why ∷ heard_from g s es)

-- what a space that begins answers to these events
unfoldable pub heard : Setting → List Event → List Answer
heard g es = heard_from g opening es

-- ---- the spaces, and what they send

abbrev pub own : Uuid
own = 1 ∷ []

abbrev pub peer : Uuid
peer = 2 ∷ []

abbrev pub third : Uuid
third = 3 ∷ []

abbrev pub name : List ℕ
name = 99 ∷ []

abbrev pub object : ℕ → ObjId
object n = record { 0 = n }

-- a reference to a counter of a space, or to another object
abbrev pub counter_of : Uuid → ℕ → Value
counter_of space n = values.Ref (record { space = space; id = object n; class = class_of counter_class })

abbrev pub own_box : Value
own_box = values.Ref (record { space = own; id = object 1; class = class_of box_class })

abbrev pub hello : Uuid → Message
hello space = message.Hello 1 space (9 ∷ [])

abbrev pub said_hello : Answer
said_hello = Answers (Send 0 (hello own) ∷ [])

abbrev pub asked_lookup : Answer
asked_lookup = Answers (Started 1 ∷ Dial peer ∷ [])

abbrev pub ended_by : ℕ → ℕ → Output
ended_by task class = Ended task (Threw (class_of class))

-- the space of the scripts, and one whose tasks may hold one reference
abbrev pub space : Setting
space = setting_of own

abbrev pub narrow_space : Setting
narrow_space = record space { limits = record { heap = 65536; stack = 16384; references = 1; fuel = 1000000 } }

-- a lookup waits, and its dial is answered
abbrev pub dialled : List Event → List Event
dialled es = Lookup peer name ∷ Opened 0 (Some peer) ∷ es

-- a peer has dialled and said Hello
abbrev pub greeted : List Event → List Event
greeted es = Opened 0 None ∷ Received 0 (hello peer) ∷ es

-- ---- Hello

-- A right Hello lets the lookup go that waits; a Hello that is not first closes the connection, and ends it.
abbrev pub RightHello : Type 0
RightHello = heard space (dialled (Received 0 (hello peer) ∷ Received 0 (hello peer) ∷ [])) ≡
    asked_lookup ∷ said_hello ∷ Answers (Send 0 (message.Lookup 1 name) ∷ []) ∷ Answers (ended_by 1 unmarshal_exception ∷ Close 0 ∷ []) ∷ []

abbrev pub WrongDigest : Type 0
WrongDigest = heard space (dialled (Received 0 (message.Hello 1 peer (8 ∷ [])) ∷ [])) ≡
    asked_lookup ∷ said_hello ∷ Answers (ended_by 1 connect_exception ∷ Close 0 ∷ []) ∷ []

abbrev pub WrongId : Type 0
WrongId = heard space (dialled (Received 0 (hello third) ∷ [])) ≡
    asked_lookup ∷ said_hello ∷ Answers (ended_by 1 connect_exception ∷ Close 0 ∷ []) ∷ []

abbrev pub NoHello : Type 0
NoHello = heard space (dialled (Received 0 (message.Cleaned 1) ∷ [])) ≡
    asked_lookup ∷ said_hello ∷ Answers (ended_by 1 unmarshal_exception ∷ Close 0 ∷ []) ∷ []

abbrev pub RefusedDial : Type 0
RefusedDial = heard space (Lookup peer name ∷ Refused peer ∷ []) ≡ asked_lookup ∷ Answers (ended_by 1 connect_exception ∷ []) ∷ []

-- Dial is given once, whatever is asked of the peer while it is dialled; both lookups go out after its Hello, in their order.
abbrev pub DialGivenOnce : Type 0
DialGivenOnce = heard space (Lookup peer name ∷ Lookup peer name ∷ Opened 0 (Some peer) ∷ Lookup peer name ∷ Received 0 (hello peer) ∷ []) ≡
    asked_lookup ∷ Answers (Started 2 ∷ []) ∷ said_hello ∷ Answers (Started 3 ∷ [])
    ∷ Answers (Send 0 (message.Lookup 1 name) ∷ Send 0 (message.Lookup 2 name) ∷ Send 0 (message.Lookup 3 name) ∷ []) ∷ []

-- ---- frames that close a connection

-- A dialled end that sends what answers; an Ack of nothing; a Lookup's or a Call's number that is not above the last.
abbrev pub ClosedByThoseThatAsk : Type 0
ClosedByThoseThatAsk = (heard space (greeted (Received 0 (message.Returned 1 0 None) ∷ [])) ≡ said_hello ∷ Answers [] ∷ Answers (Close 0 ∷ []) ∷ [])
    × (heard space (greeted (Received 0 (message.Ack 1) ∷ [])) ≡ said_hello ∷ Answers [] ∷ Answers (Close 0 ∷ []) ∷ [])
    × (heard space (greeted (Received 0 (message.Lookup 1 name) ∷ Received 0 (message.Lookup 1 name) ∷ [])) ≡
    said_hello ∷ Answers [] ∷ Answers (Send 0 (message.Threw 1 (class_of not_bound_exception)) ∷ []) ∷ Answers (Close 0 ∷ []) ∷ [])
    × (heard space (greeted (Received 0 (message.Call 1 (object 1) counter_bump 5 []) ∷ Received 0 (message.Call 1 (object 1) counter_bump 5 []) ∷ [])) ≡
    said_hello ∷ Answers [] ∷ Answers (Send 0 (message.Threw 1 (class_of no_such_object_exception)) ∷ []) ∷ Answers (Close 0 ∷ []) ∷ [])

-- An end that asks; an answer to nothing, to calls and to dirty calls.
abbrev pub ClosedByThoseThatAnswer : Type 0
ClosedByThoseThatAnswer =
    (heard space (dialled (Received 0 (hello peer) ∷ Received 0 (message.Lookup 1 name) ∷ [])) ≡ ended)
    × (heard space (dialled (Received 0 (hello peer) ∷ Received 0 (message.Threw 7 (class_of not_bound_exception)) ∷ [])) ≡ ended)
    × (heard space (dialled (Received 0 (hello peer) ∷ Received 0 (message.Lease 1 100) ∷ [])) ≡ ended)
  where
    ended : List Answer
    ended = asked_lookup ∷ said_hello ∷ Answers (Send 0 (message.Lookup 1 name) ∷ []) ∷ Answers (ended_by 1 unmarshal_exception ∷ Close 0 ∷ []) ∷ []

-- ---- what a reply is refused for

abbrev pub replied : Message → List Answer
replied m = heard space (dialled (Received 0 (hello peer) ∷ Received 0 m ∷ []))

abbrev pub replied_as : List Output → List Answer
replied_as outputs = asked_lookup ∷ said_hello ∷ Answers (Send 0 (message.Lookup 1 name) ∷ []) ∷ Answers outputs ∷ []

-- More fuel than was lent, a value that is no reference, an own object that does not stand, a class that is no remote class, Spent, and a class that is no Throwable give UnmarshalException; each Returned is acknowledged.
abbrev pub UnfitReplies : Type 0
UnfitReplies =
    (replied (message.Returned 1 1 (Some (counter_of peer 1))) ≡ replied_as (ended_by 1 unmarshal_exception ∷ Send 0 (message.Ack 1) ∷ []))
    × (replied (message.Returned 1 0 (Some (values.Int (pos 1)))) ≡ replied_as (ended_by 1 unmarshal_exception ∷ Send 0 (message.Ack 1) ∷ []))
    × (replied (message.Returned 1 0 (Some (counter_of own 1))) ≡ replied_as (ended_by 1 unmarshal_exception ∷ Send 0 (message.Ack 1) ∷ []))
    × (replied (message.Returned 1 0 (Some (values.Ref (record { space = peer; id = object 1; class = class_of remote_exception })))) ≡ replied_as (ended_by 1 unmarshal_exception ∷ Send 0 (message.Ack 1) ∷ []))
    × (replied (message.Spent 1) ≡ replied_as (ended_by 1 unmarshal_exception ∷ []))
    × (replied (message.Threw 1 (class_of counter_class)) ≡ replied_as (ended_by 1 unmarshal_exception ∷ []))

-- ---- the order of outputs

-- A lookup's result waits for its lease, and then ends before its Ack; a field keeps the reference; a Clean that is due after a commit goes out with the next event, before that event's Dirty.
abbrev pub OrderOfFrames : Type 0
OrderOfFrames = heard space (dialled (Received 0 (hello peer) ∷ Received 0 (message.Returned 1 0 (Some (counter_of peer 1))) ∷ Received 0 (message.Lease 1 600000)
    ∷ Root box_make [] 100 ∷ Committed 2 0 (Create (class_of box_class)) ∷ GivenBack 2 0 ∷ Finished 2 7
    ∷ Root box_put (own_box ∷ counter_of peer 1 ∷ []) 100 ∷ Committed 3 5 (Put (object 1) 0 (counter_of peer 1)) ∷ GivenBack 3 0 ∷ Finished 3 2
    ∷ RootAck 1 ∷ Lookup peer name ∷ Root box_clear (own_box ∷ []) 100 ∷ Committed 5 5 (Put (object 1) 0 values.Null)
    ∷ Received 0 (message.Returned 2 0 (Some (counter_of peer 2))) ∷ Received 0 (message.Lease 3 600000) ∷ [])) ≡
    asked_lookup ∷ said_hello ∷ Answers (Send 0 (message.Lookup 1 name) ∷ []) ∷ Answers (Send 0 (message.Dirty 1 600000 (object 1 ∷ [])) ∷ [])
    ∷ Answers (Ended 1 (Returned (Some (counter_of peer 1))) ∷ Send 0 (message.Ack 1) ∷ [])
    ∷ Answers (Started 2 ∷ Ready 2 ∷ []) ∷ Answers [] ∷ Answers [] ∷ Answers (Ended 2 (Returned (Some own_box)) ∷ [])
    ∷ Answers (Started 3 ∷ Ready 3 ∷ []) ∷ Answers [] ∷ Answers [] ∷ Answers (Ended 3 (Returned None) ∷ [])
    ∷ Answers [] ∷ Answers (Started 4 ∷ Send 0 (message.Lookup 2 name) ∷ []) ∷ Answers (Started 5 ∷ Ready 5 ∷ []) ∷ Answers []
    ∷ Answers (Send 0 (message.Clean 2 false (object 1 ∷ [])) ∷ Send 0 (message.Dirty 3 600000 (object 2 ∷ [])) ∷ [])
    ∷ Answers (Ended 4 (Returned (Some (counter_of peer 2))) ∷ Send 0 (message.Ack 2) ∷ []) ∷ []

-- ---- a dirty call that was overtaken fails

-- A renewal is on its way as the reference is let go, so that a clean call overtakes it, and a new dirty call comes after. The peer answers
-- the last one alone. As the connection ends, the failure of the renewal does nothing: the lease stands, and an ordinary clean call is due
-- as soon as the reference is let go.
abbrev pub FailureOfAnOvertakenDirty : Type 0
FailureOfAnOvertakenDirty = heard space (dialled (Received 0 (hello peer) ∷ Received 0 (message.Returned 1 0 (Some (counter_of peer 1))) ∷ Received 0 (message.Lease 1 600000)
    ∷ Lookup peer name ∷ Moment 300000 ∷ RootAck 1 ∷ Received 0 (message.Returned 2 0 (Some (counter_of peer 1))) ∷ Received 0 (message.Lease 4 600000)
    ∷ Closed 0 ∷ RootAck 2 ∷ Opened 1 (Some peer) ∷ Received 1 (hello peer) ∷ [])) ≡
    asked_lookup ∷ said_hello ∷ Answers (Send 0 (message.Lookup 1 name) ∷ []) ∷ Answers (Send 0 (message.Dirty 1 600000 (object 1 ∷ [])) ∷ [])
    ∷ Answers (Ended 1 (Returned (Some (counter_of peer 1))) ∷ Send 0 (message.Ack 1) ∷ [])
    ∷ Answers (Started 2 ∷ Send 0 (message.Lookup 2 name) ∷ []) ∷ Answers (Send 0 (message.Dirty 2 600000 (object 1 ∷ [])) ∷ [])
    ∷ Answers (Send 0 (message.Clean 3 false (object 1 ∷ [])) ∷ []) ∷ Answers (Send 0 (message.Dirty 4 600000 (object 1 ∷ [])) ∷ [])
    ∷ Answers (Ended 2 (Returned (Some (counter_of peer 1))) ∷ Send 0 (message.Ack 2) ∷ [])
    ∷ Answers [] ∷ Answers (Dial peer ∷ []) ∷ Answers (Send 1 (hello own) ∷ []) ∷ Answers (Send 1 (message.Clean 5 false (object 1 ∷ [])) ∷ []) ∷ []

-- ---- refusals

-- of events that fit no state of a space that begins, and of names that are not allowed
abbrev pub Refusals : Type 0
Refusals = heard space (RootAck 1 ∷ Opened 0 (Some peer) ∷ Refused peer ∷ Closed 0 ∷ Received 0 (hello peer) ∷ Lookup own name ∷ Moment (2 ^ 63)
    ∷ Root absent_method [] 1 ∷ Root counter_bump (values.Int (pos 1) ∷ []) 1 ∷ Root counter_bump (counter_of own 7 ∷ []) 1 ∷ Root counter_bump (counter_of peer 7 ∷ []) 1
    ∷ Root counter_make [] 1000001 ∷ Committed 1 0 (Create (class_of counter_class)) ∷ Parked 1 0 ∷ GivenBack 1 0 ∷ Finished 1 0
    ∷ Bind [] (counter_of own 1) ∷ Bind name (counter_of peer 1) ∷ Unbind name ∷ Lookup peer [] ∷ []) ≡
    Refuses UnknownTask ∷ Refuses Strange ∷ Refuses Strange ∷ Refuses Strange ∷ Refuses Strange ∷ Refuses Strange ∷ Refuses WornOut
    ∷ Refuses (CannotStart AbsentMethod) ∷ Refuses (CannotStart BadArgument) ∷ Refuses NotHeld ∷ Refuses NotHeld
    ∷ Refuses WrongKind ∷ Refuses NotLent ∷ Refuses NotLent ∷ Refuses NotLent ∷ Refuses NotLent
    ∷ Answers (Denied BadName ∷ []) ∷ Answers (Denied NotOwn ∷ []) ∷ Answers (Denied NotBound ∷ []) ∷ Answers (Denied BadName ∷ []) ∷ []

-- Of a lent task: an object that it does not hold, a class that is not remote, a slot that the class has not, a value not of the field's
-- kind, a task that does not stand at the operation of the call: a call, its end, or another operation on the store.
abbrev pub RefusalsOfLentTasks : Type 0
RefusalsOfLentTasks = heard space (Root counter_make [] 100 ∷ Committed 1 0 (Get (object 5) 0) ∷ Committed 1 0 (Create (class_of remote_exception)) ∷ Parked 1 0 ∷ Finished 1 0
    ∷ Committed 1 0 (Create (class_of counter_class)) ∷ Committed 1 0 (Get (object 1) 1) ∷ Committed 1 0 (Put (object 1) 0 values.Null)
    ∷ Committed 1 0 (Put (object 1) 0 (counter_of peer 1)) ∷ Committed 1 0 (Get (object 1) 0) ∷ []) ≡
    Answers (Started 1 ∷ Ready 1 ∷ []) ∷ Refuses NotHeld ∷ Refuses WrongKind ∷ Refuses WrongKind ∷ Refuses WrongKind
    ∷ Answers [] ∷ Refuses WrongKind ∷ Refuses WrongKind ∷ Refuses NotHeld ∷ Refuses WrongKind ∷ []

-- ---- what holds an object

abbrev pub made_counter : List Event → List Event
made_counter es = Root counter_make [] 100 ∷ Committed 1 0 (Create (class_of counter_class)) ∷ GivenBack 1 0 ∷ Finished 1 7 ∷ es

abbrev pub made_answers : List Answer → List Answer
made_answers answers = Answers (Started 1 ∷ Ready 1 ∷ []) ∷ Answers [] ∷ Answers [] ∷ Answers (Ended 1 (Returned (Some (counter_of own 1))) ∷ []) ∷ answers

-- A task holds the object that it made; then its result does; then nothing.
abbrev pub HeldByATask : Type 0
HeldByATask = heard space (Root counter_make [] 100 ∷ Committed 1 0 (Create (class_of counter_class)) ∷ Sweep ∷ GivenBack 1 0 ∷ Finished 1 7 ∷ Sweep ∷ RootAck 1 ∷ Sweep ∷ []) ≡
    Answers (Started 1 ∷ Ready 1 ∷ []) ∷ Answers [] ∷ Answers [] ∷ Answers [] ∷ Answers (Ended 1 (Returned (Some (counter_of own 1))) ∷ [])
    ∷ Answers [] ∷ Answers [] ∷ Answers (Withdrawn (object 1 ∷ []) ∷ []) ∷ []

-- A field of a standing object holds the object in it; once the box goes, the next Sweep takes what was in it.
abbrev pub HeldByAField : Type 0
HeldByAField = heard space (made_counter (Root box_make [] 100 ∷ Committed 2 0 (Create (class_of box_class)) ∷ GivenBack 2 0 ∷ Finished 2 7
    ∷ Root box_put (second_box ∷ counter_of own 1 ∷ []) 100 ∷ Committed 3 5 (Put (object 2) 0 (counter_of own 1)) ∷ GivenBack 3 0 ∷ Finished 3 2
    ∷ RootAck 1 ∷ Sweep ∷ RootAck 2 ∷ Sweep ∷ Sweep ∷ [])) ≡
    made_answers (Answers (Started 2 ∷ Ready 2 ∷ []) ∷ Answers [] ∷ Answers [] ∷ Answers (Ended 2 (Returned (Some second_box)) ∷ [])
    ∷ Answers (Started 3 ∷ Ready 3 ∷ []) ∷ Answers [] ∷ Answers [] ∷ Answers (Ended 3 (Returned None) ∷ [])
    ∷ Answers [] ∷ Answers [] ∷ Answers [] ∷ Answers (Withdrawn (object 2 ∷ []) ∷ []) ∷ Answers (Withdrawn (object 1 ∷ []) ∷ []) ∷ [])
  where
    second_box : Value
    second_box = values.Ref (record { space = own; id = object 2; class = class_of box_class })

-- A result whose connection ended is held for 600,000 ms after the last moment, and a moment below the last changes nothing.
abbrev pub HeldAfterTheEnd : Type 0
HeldAfterTheEnd = heard space (made_counter (Bind name (counter_of own 1) ∷ RootAck 1 ∷ greeted (Received 0 (message.Lookup 1 name) ∷ Unbind name
    ∷ Moment 700000 ∷ Moment 5 ∷ Closed 0 ∷ Moment 1299999 ∷ Sweep ∷ Moment 1300000 ∷ Sweep ∷ []))) ≡
    made_answers (Answers [] ∷ Answers [] ∷ said_hello ∷ Answers [] ∷ Answers (Send 0 (message.Returned 1 0 (Some (counter_of own 1))) ∷ []) ∷ Answers []
    ∷ Answers [] ∷ Answers [] ∷ Answers [] ∷ Answers [] ∷ Answers [] ∷ Answers [] ∷ Answers (Withdrawn (object 1 ∷ []) ∷ []) ∷ [])

-- ---- what a task may hold

-- Two references are too many for a task that may hold one: as arguments, and as a reply, after which the object that was made stands until the next Sweep.
abbrev pub TooManyReferences : Type 0
TooManyReferences = heard narrow_space (Root counter_make [] 100 ∷ Committed 1 0 (Create (class_of counter_class)) ∷ GivenBack 1 0 ∷ Finished 1 7
    ∷ Root link_make [] 100 ∷ Committed 2 0 (Create (class_of link_class)) ∷ GivenBack 2 0 ∷ Finished 2 7
    ∷ Root box_same (counter_of own 1 ∷ own_link ∷ []) 100 ∷ Finished 3 0
    ∷ Root link_fresh (own_link ∷ []) 100 ∷ Committed 4 2 (Create (class_of counter_class)) ∷ GivenBack 4 0 ∷ Finished 4 0 ∷ Sweep ∷ []) ≡
    Answers (Started 1 ∷ Ready 1 ∷ []) ∷ Answers [] ∷ Answers [] ∷ Answers (Ended 1 (Returned (Some (counter_of own 1))) ∷ [])
    ∷ Answers (Started 2 ∷ Ready 2 ∷ []) ∷ Answers [] ∷ Answers [] ∷ Answers (Ended 2 (Returned (Some own_link)) ∷ [])
    ∷ Answers (Started 3 ∷ Ready 3 ∷ []) ∷ Answers (ended_by 3 out_of_memory_error ∷ [])
    ∷ Answers (Started 4 ∷ Ready 4 ∷ []) ∷ Answers [] ∷ Answers [] ∷ Answers (ended_by 4 out_of_memory_error ∷ []) ∷ Answers (Withdrawn (object 3 ∷ []) ∷ []) ∷ []
  where
    own_link : Value
    own_link = values.Ref (record { space = own; id = object 2; class = class_of link_class })
