-- What is asked of peers, what peers ask and what is sent, as an event of a space moves it: the few moves by which the rules change it, and
-- what is known as each is made. A frame is sent on a connection that is open, and any but a Hello on one on which a Hello has come.
use mathlib.Core.Path.{sym}
use Rattle.std.proofs.lemmas.Bool.{true≢false}
use Rattle.std.specs.List.{list_any}
use Rattle.std.specs.Str.{bytes_eq}
use Rattle.std.specs.Prelude.{◌≡◌, ◌≤◌, ◌⊎◌, refl, ℕ, ◌+◌, ◌==◌, not, nat_le, min, length, is_some, is_none, Bool, true, false, List, [], ◌∷◌, ◌++◌, Option, None, Some, filter, find, map, if◌then◌else◌}
use Rattle.space_ids.specs.declared.ids.ClassId.{ClassId}
use Rattle.dgc_client.specs.declared.groups.Group.{Group}
use Rattle.space_ids.specs.declared.ids.ForeignId.{ForeignId}
use Rattle.net_message.specs.declared.message.Message.TheVariants as message
use Rattle.net_message.specs.declared.message.Message.{Message}
use Rattle.uuid.specs.declared.Uuid.{Uuid}
use Rattle.space_ids.specs.declared.ids.ObjId.{ObjId}
use Rattle.space_ids.specs.declared.ids.Ref.{Ref}
use Rattle.space_ids.specs.declared.value.Value.TheVariants as values
use Rattle.space_ids.specs.declared.value.Value.{Value}
use Rattle.sp_rules.specs.Behaviours.{Outcome, Call, Reply, GivesBack, Throws}
use Rattle.sp_rules.specs.Classes.{Setting, Kind, fit_kinds}
use Rattle.sp_rules.specs.Endings
use Rattle.sp_rules.specs.Events.{Started, Ended, Turn, Sends, Note, Event, Moment, Sweep, Root, RootAck, Lookup, Opened, Refused, Received, Closed, ReadFailed, Bad, WriteFailed, Committed, Parked, GivenBack, Finished, Output, Withdrawn, Denied, Send, Dial, Close, Ready}
use Rattle.sp_rules.specs.Frames
use Rattle.sp_rules.specs.Holders
use Rattle.sp_rules.specs.Holders.{hold_ids, drop_ids}
use Rattle.sp_rules.specs.Laws.{AllOf}
use Rattle.sp_rules.specs.Lists.{each, with_some}
use Rattle.sp_rules.specs.LivingTasks
use Rattle.sp_rules.specs.OwnEvents
use Rattle.sp_rules.specs.ParkedFrames
use Rattle.sp_rules.specs.References.{references_in, references_of}
use Rattle.sp_rules.specs.Requests
use Rattle.sp_rules.specs.Space
use Rattle.sp_rules.specs.State as state
use Rattle.sp_rules.specs.State.{State, Object, Stored, Living, Origin, OfRoot, OfCall, Until, Request, Asked, Calls, LooksUp, Tells, Connection, KeptResult, Frame, CallFrame, ReturnedFrame, ParkedFrame, task_at, ready_at, object_at, connection_at, connection_to, is_open, set_task, say, send}
use Rattle.sp_rules.specs.Tasks.{AsksFor, HasEnded, stand, steps}
use Rattle.sp_rules.proofs.Stable.{new_row}
use Rattle.sp_laws.proofs.FlowRules.{Owed, Removed, Inbound, removed, of_origin, of_until, IsSameRow}
use Rattle.sp_laws.specs.Changes.{IsOfSpace}
use Rattle.sp_laws.specs.Sent.{is_send, is_hello, IsCallRefusal, IsRefusal}

-- ---- what is kept in an event

pub record EventParts : Type 0 where
  pub calls_made : ℕ
  pub tasks_made : ℕ
  pub tasks : List Living
  pub requests : List Request
  pub fresh : List Request
  pub results : List KeptResult
  pub connections : List Connection
  pub parked : List ParkedFrame
  pub notes : List Note
  pub store : List Stored

-- beside them, which peers were noted
pub record FrameParts : Type 0 where
  pub parts : EventParts
  pub noted : List Uuid

abbrev pub event_parts : State → EventParts
event_parts s = record { calls_made = s.calls_made; tasks_made = s.tasks_made; tasks = s.tasks; requests = s.requests; fresh = s.fresh; results = s.results; connections = s.connections; parked = s.parked; notes = s.notes; store = s.store }

abbrev pub frame_parts : State → FrameParts
frame_parts s = record { parts = event_parts s; noted = s.noted }

-- An event of a space; what is known of a connection on which a Hello came, by its number and whether this space dialled it, of the answers to calls that are
-- sent there, and of parked frames; the classes with which failed calls end, and what calls and lookups end with; at what tasks start, with these values; of
-- the versions that this space speaks on a connection, and of the ids that a dirty or clean call names there; and what is kept.
pub record View : Type 1 where
  pub setting : Setting
  pub event : Event
  pub Dialled : ℕ → Bool → Type 0
  pub Answers : ℕ → Message → Type 0
  pub Known : ParkedFrame → Type 0
  pub Fails : ClassId → Type 0
  pub Ends : Asked → Reply → Type 0
  pub Starts : Origin → ℕ → List Value → Type 0
  pub Speaks : ℕ → ℕ → Type 0
  pub Fits : ℕ → List ObjId → Type 0
  pub Keeps : List Owed → State → Type 0

abbrev pub IsFrom : View → Origin → Type 0
IsFrom V OfRoot = Unit {0}
IsFrom V (OfCall conn number) = V.Dialled conn false

-- A Hello comes with the event on a connection that a peer dialled: a space of version 2 answers with its own.
pub record AnswersHello (g : Setting) (e : Event) (Dialled : ℕ → Bool → Type 0) (conn : ℕ) : Type 0 where
  pub version : ℕ
  pub space : Uuid
  pub digest : List ℕ
  pub came : e ≡ Received conn (message.Hello version space digest)
  pub way : Dialled conn false
  pub late : nat_le 2 g.version ≡ true

-- The version of a Hello that this space says: of a connection that opens, 1 where a peer dialled and what is spoken with the peer where this space did; or
-- the lower of both versions, of one that answers.
abbrev pub IsVersionOf : View → State → ℕ → ℕ → Type 0
IsVersionOf V s conn version = ((V.event ≡ Opened conn None) × ((nat_le 2 V.setting.version ≡ false) × (version ≡ 1)))
    ⊎ (((peer : Uuid) × ((V.event ≡ Opened conn (Some peer)) × (version ≡ OwnEvents.version_to V.setting s peer)))
    ⊎ ((a : AnswersHello V.setting V.event V.Dialled conn) × (version ≡ min a.version V.setting.version)))

-- what is known of a frame as it is sent: a Hello is said as the connection opens, or as the other end's comes; a call or lookup goes out with its request
abbrev pub CanSend : View → ℕ → Message → Type 0
CanSend V conn (message.Hello version space digest) = V.Speaks conn version × (((dialled : Option Uuid) × (V.event ≡ Opened conn dialled)) ⊎ AnswersHello V.setting V.event V.Dialled conn)
CanSend V conn (message.Call number object method fuel arguments) = ⊥
CanSend V conn (message.Lookup number name) = ⊥
CanSend V conn (message.Ack number) = V.Dialled conn true
CanSend V conn (message.Dirty sequence period objects) = V.Dialled conn true × V.Fits conn objects
CanSend V conn (message.Clean sequence strong objects) = V.Dialled conn true × V.Fits conn objects
CanSend V conn (message.Returned number fuel value) = V.Dialled conn false × V.Answers conn (message.Returned number fuel value)
CanSend V conn (message.Threw number class) = V.Dialled conn false × V.Answers conn (message.Threw number class)
CanSend V conn (message.Spent number) = V.Dialled conn false × V.Answers conn (message.Spent number)
CanSend V conn (message.Lease sequence period) = V.Dialled conn false
CanSend V conn (message.Cleaned sequence) = V.Dialled conn false

-- a result is one of these
abbrev pub IsKeptIn : KeptResult → List KeptResult → Type 0
IsKeptIn k [] = ⊥
IsKeptIn k (x ∷ xs) = (k ≡ x) ⊎ IsKeptIn k xs

-- a result that is sent is held until its Ack
abbrev pub IsHeldFor : List KeptResult → ℕ → Message → Type 0
IsHeldFor results conn (message.Returned number fuel value) = IsKeptIn (record { until = state.Acked conn number; value = value }) results
IsHeldFor results conn _ = Unit {0}

-- With an event a result is let go: that of a root or lookup as it is acknowledged, that of a call as its Ack comes on its connection, one whose connection ended at a moment not below its end.
abbrev pub IsReleased : Event → Until → Type 0
IsReleased e (state.RootAcked task) = e ≡ RootAck task
IsReleased e (state.Acked conn number) = e ≡ Received conn (message.Ack number)
IsReleased e (state.Passed until) = (moment : ℕ) × ((e ≡ Moment moment) × (nat_le until moment ≡ true))

-- that a task ended is said by the event that finishes it
abbrev pub IsSaid : View → Output → Type 0
IsSaid V (Ended task outcome) = (made : ℕ) × (V.event ≡ Finished task made)
IsSaid V _ = Unit {0}

-- a frame came with the event on this connection
abbrev pub HasComeOn : View → ℕ → Type 0
HasComeOn V conn = (m : Message) × (V.event ≡ Received conn m)

-- what is known of an output as it is said: of a connection that is closed, that a frame came there, and that it is not open
abbrev pub MaySay : View → State → Output → Type 0
MaySay V s (Close conn) = HasComeOn V conn × (is_open s conn ≡ false)
MaySay V s (Started task) = Unit {0}
MaySay V s (Ended task outcome) = IsSaid V (Ended task outcome)
MaySay V s (Withdrawn ids) = Unit {0}
MaySay V s (Denied why) = Unit {0}
MaySay V s (Send conn m) = Unit {0}
MaySay V s (Dial peer) = Unit {0}
MaySay V s (Ready task) = Unit {0}

abbrev pub is_finish : Event → Bool
is_finish (Finished task k) = true
is_finish _ = false

-- the events with which connections end, or a Dial
abbrev pub is_ending : Event → Bool
is_ending (Refused peer) = true
is_ending (Received conn m) = true
is_ending (Closed conn) = true
is_ending (ReadFailed conn) = true
is_ending (Bad conn) = true
is_ending (WriteFailed conn unsent) = true
is_ending _ = false

-- then no task is finished
pub ending-goes : (e : Event) → is_ending e ≡ true → is_finish e ≡ false
ending-goes (Finished task k) is = absurd (true≢false (sym is))
ending-goes _ is = refl

-- and it is of no task
pub ending-apart : (e : Event) → is_ending e ≡ true → IsOfSpace e
ending-apart (Committed task k op) is = absurd (true≢false (sym is))
ending-apart (Parked task k) is = absurd (true≢false (sym is))
ending-apart (GivenBack task k) is = absurd (true≢false (sym is))
ending-apart (Finished task k) is = absurd (true≢false (sym is))
ending-apart _ is = refl

-- the events with which no peer is reached: a Dial is refused, a first Hello is wrong
abbrev pub is_unreached : Event → Bool
is_unreached (Refused peer) = true
is_unreached (Received conn m) = is_hello m
is_unreached _ = false

abbrev pub is_unwritten : Event → Bool
is_unwritten (WriteFailed conn unsent) = true
is_unwritten _ = false

-- the events with which the store of a space changes
abbrev pub is_storing : Event → Bool
is_storing Sweep = true
is_storing (Committed task k op) = true
is_storing _ = false

-- a call or lookup goes out as a frame
abbrev pub out : Turn → ℕ → Message → Request → State → State
out turn conn m q s = record s { requests = s.requests ++ q ∷ []; notes = s.notes ++ Sends turn conn m ∷ [] }

-- The moves that keep a property of a state and of what is under way.
pub record Flows (V : View) : Type 0 where
  -- what is known
  pub known : (l : List Owed) (s : State) → V.Keeps l s → AllOf V.Known s.parked
  pub dialled : (l : List Owed) (s : State) → V.Keeps l s → AllOf (λ (c : Connection). is_some c.peer ≡ true → V.Dialled c.number (is_some c.dialled)) s.connections
  pub origins : (l : List Owed) (s : State) → V.Keeps l s → AllOf (λ (t : Living). IsFrom V t.origin) s.tasks
  pub sided : (p : ParkedFrame) → V.Known p → V.Dialled p.conn (not (Frames.is_call_frame p.frame))
  pub fails : (asked : Asked) (class : ClassId) → V.Fails class → V.Ends asked (Throws class)
  pub starts : (l : List Owed) (s : State) (p : ParkedFrame) (target : ObjId) (method fuel : ℕ) (arguments : List Value) (o : Object) (selected : ℕ) → is_ending V.event ≡ true → V.Keeps l s → V.Known p → p.frame ≡ CallFrame target method fuel arguments → object_at s target ≡ Some o → V.setting.classes.selected o.class method ≡ Some selected
      → V.Starts (OfCall p.conn p.number) selected (values.Ref (record { space = V.setting.id; id = target; class = o.class }) ∷ arguments)
  pub gives : (p : ParkedFrame) (value : Option Value) (fuel : ℕ) (asked : Asked) → is_ending V.event ≡ true → V.Known p → p.frame ≡ ReturnedFrame value fuel → ParkedFrames.has_number p.number asked ≡ true → V.Ends asked (GivesBack value fuel)
  pub refuses : (conn number : ℕ) (class : ClassId) → IsRefusal V.setting V.event conn number class → V.Answers conn (message.Threw number class)
  pub finds : (conn number : ℕ) (name : List ℕ) (r : Ref) → V.event ≡ Received conn (message.Lookup number name) → r.space ≡ V.setting.id → V.Answers conn (message.Returned number 0 (Some (values.Ref r)))
  pub speaks : (l : List Owed) (s : State) (conn version : ℕ) → IsVersionOf V s conn version → V.Keeps l s → V.Speaks conn version
  pub fits : (l : List Owed) (s : State) (conn : ℕ) (ids : List ObjId) → length ids ≤ Requests.most_on s conn → V.Keeps l s → V.Fits conn ids
  -- outputs
  pub quiet : (l : List Owed) (s t : State) → frame_parts t ≡ frame_parts s → V.Keeps l s → V.Keeps l t
  pub says : (l : List Owed) (s : State) (output : Output) → is_send output ≡ false → MaySay V s output → V.Keeps l s → V.Keeps l (say output s)
  pub sends : (l : List Owed) (s : State) (turn : Turn) (conn : ℕ) (m : Message) → CanSend V conn m → is_open s conn ≡ true → IsHeldFor s.results conn m → V.Keeps l s → V.Keeps l (record s { notes = s.notes ++ Sends turn conn m ∷ [] })
  pub clears : (s : State) → V.Keeps [] s → V.Keeps [] (record s { notes = [] })
  -- the store
  pub stores : (l : List Owed) (s : State) (store : List Stored) → is_storing V.event ≡ true → V.Keeps l s → V.Keeps l (record s { store = store })
  -- requests
  pub adds : (l : List Owed) (s : State) (q : Request) → V.Keeps (Removed q.peer q.asked ∷ l) s → V.Keeps l (Requests.add_request q s)
  pub calls_out : (l : List Owed) (s : State) (turn : Turn) (conn : ℕ) (peer : Uuid) (number task lent : ℕ) (kind : Kind) (m : Message) → V.Dialled conn true → is_open s conn ≡ true → V.Keeps (Removed peer (Calls number task lent kind m) ∷ l) s
      → V.Keeps l (out turn conn m (record { peer = peer; asked = Calls number task lent kind m; stage = state.Out conn 0 }) s)
  pub looks_out : (l : List Owed) (s : State) (turn : Turn) (conn : ℕ) (peer : Uuid) (number task : ℕ) (name : List ℕ) → V.Dialled conn true → is_open s conn ≡ true → V.Keeps (Removed peer (LooksUp number task name) ∷ l) s
      → V.Keeps l (out turn conn (message.Lookup number name) (record { peer = peer; asked = LooksUp number task name; stage = state.Out conn 0 }) s)
  pub tells : (l : List Owed) (s : State) (q : Request) (call : ℕ) (group : Group) → q.asked ≡ Tells call group → V.Keeps l s → V.Keeps l (Requests.add_request q s)
  pub told : (l : List Owed) (s : State) (peer : Uuid) (call : ℕ) (group : Group) → V.Keeps (Removed peer (Tells call group) ∷ l) s → V.Keeps l s
  pub unfresh : (l : List Owed) (s : State) → V.Keeps l s → V.Keeps (removed s.fresh ++ l) (record s { fresh = [] })
  pub removes : (l : List Owed) (s : State) (is : Request → Bool) → V.Keeps l s → V.Keeps (removed (filter is s.requests) ++ l) (record s { requests = filter (λ q. not (is q)) s.requests })
  pub sorts : (l : List Owed) (s : State) (is : Request → Bool) (rs : List Request) → V.Keeps (removed rs ++ l) s → V.Keeps (removed (filter (λ q. not (is q)) rs) ++ (removed (filter is rs) ++ l)) s
  pub removes_one : (l : List Owed) (s : State) (finds is : Request → Bool) (k : ℕ) (q : Request) → find finds s.requests ≡ Some q → ((p : Request) → finds p ≡ true → is p ≡ true) → ((p : Request) → is p ≡ true → ParkedFrames.has_number k p.asked ≡ true) → V.Keeps l s
      → V.Keeps (Removed q.peer q.asked ∷ l) (record s { requests = filter (λ p. not (is p)) s.requests })
  pub removes_told : (l : List Owed) (s : State) (dirty : Bool) (conn sequence : ℕ) → V.Keeps l s → V.Keeps l (record s { requests = filter (λ q. not (Frames.tells_on dirty conn sequence q)) s.requests })
  pub answers : (l : List Owed) (s : State) (conn number : ℕ) → V.Keeps l s → V.Keeps l (record s { requests = map (Frames.answered_on conn number) s.requests })
  -- tasks
  pub begins : (l : List Owed) (s : State) (origin : Origin) (method : ℕ) (arguments : List Value) (fuel : ℕ) → is_finish V.event ≡ false → V.Starts origin method arguments → V.Keeps (of_origin origin ++ l) s
      → V.Keeps l (record s { tasks_made = s.tasks_made + 1; tasks = s.tasks ++ new_row V.setting origin method arguments fuel s ∷ [] })
  pub ends : (l : List Owed) (s : State) (id : ℕ) (t : Living) → is_finish V.event ≡ true → ready_at s id ≡ Some t → V.Keeps l s → V.Keeps (of_origin t.origin ++ l) (record s { tasks = filter (λ (u : Living). not (u.id == id)) s.tasks })
  pub replies : (l : List Owed) (s : State) (peer : Uuid) (number task lent : ℕ) (kind : Kind) (m : Message) (reply : Reply) (t : Living) → V.Ends (Calls number task lent kind m) reply → task_at s task ≡ Some t → V.Keeps (Removed peer (Calls number task lent kind m) ∷ l) s
      → V.Keeps l (set_task (LivingTasks.after_reply V.setting reply) task s)
  pub replies_none : (l : List Owed) (s : State) (peer : Uuid) (number task lent : ℕ) (kind : Kind) (m : Message) → task_at s task ≡ None → V.Keeps (Removed peer (Calls number task lent kind m) ∷ l) s → V.Keeps l s
  pub looked_up : (l : List Owed) (s : State) (peer : Uuid) (number task : ℕ) (name : List ℕ) (reply : Reply) → V.Ends (LooksUp number task name) reply → V.Keeps (Removed peer (LooksUp number task name) ∷ l) s
      → V.Keeps l (say (Ended task (LivingTasks.outcome_of reply)) s)
  pub works : (l : List Owed) (s : State) (id : ℕ) (t : Living) (f : Living → Living) → Space.answers_outputs V.event ≡ false → IsSameRow f → (f t).waits ≡ false → ready_at s id ≡ Some t → V.Keeps l s → V.Keeps l (set_task f id s)
  -- results
  pub keeps : (l : List Owed) (s : State) (until : Until) (value : Option Value) → V.Keeps (of_until until ++ l) s → V.Keeps l (record s { results = s.results ++ record { until = until; value = value } ∷ [] })
  pub results_go : (l : List Owed) (s : State) (is : KeptResult → Bool) → ((k : KeptResult) → is k ≡ false → IsReleased V.event k.until) → V.Keeps l s → V.Keeps l (record s { results = filter is s.results })
  -- calls that come
  pub falls : (l : List Owed) (s : State) (conn number : ℕ) → V.Keeps (Inbound conn number ∷ l) s → V.Keeps l s
  pub sent : (l : List Owed) (s : State) (conn : ℕ) (m : Message) → V.Keeps l s → V.Keeps l (state.set_connection (λ (c : Connection). record c { sent = m ∷ c.sent }) conn s)
  pub versions : (l : List Owed) (s : State) (conn version : ℕ) → V.Speaks conn version → V.Keeps l s → V.Keeps l (Frames.of_version version conn s)
  pub notes_peer : (l : List Owed) (s : State) (conn : ℕ) (c : Connection) (peer space : Uuid) (digest : List ℕ) → V.event ≡ Received conn (message.Hello 1 space digest) → connection_at s conn ≡ Some c → nat_le 2 c.version ≡ true → V.Keeps l s → V.Keeps l (Endings.note_peer peer s)
  pub counts : (l : List Owed) (s : State) (conn number : ℕ) (c : Connection) → V.Dialled conn false → connection_at s conn ≡ Some c → nat_le number c.last ≡ false → V.Keeps l s → V.Keeps (Inbound conn number ∷ l) (Frames.counted conn number s)
  pub parks_call : (l : List Owed) (s : State) (p : ParkedFrame) → is_finish V.event ≡ false → V.Known p → Frames.is_call_frame p.frame ≡ true → V.Keeps (Inbound p.conn p.number ∷ l) s → V.Keeps l (record s { parked = s.parked ++ p ∷ [] })
  pub parks_result : (l : List Owed) (s : State) (p : ParkedFrame) → V.Known p → Frames.is_call_frame p.frame ≡ false → V.Keeps l s → V.Keeps l (record s { parked = s.parked ++ p ∷ [] })
  pub takes : (l : List Owed) (s : State) (p : ParkedFrame) → V.Keeps l s → V.Keeps l (ParkedFrames.take_parked p s)
  pub takes_call : (l : List Owed) (s : State) (p q : ParkedFrame) → find (ParkedFrames.is_parked_at p.conn p.number) s.parked ≡ Some q → Frames.is_call_frame q.frame ≡ true → V.Keeps l s → V.Keeps (Inbound q.conn q.number ∷ l) (ParkedFrames.take_parked p s)
  pub closes : (l : List Owed) (s : State) (conn : ℕ) (c : Connection) → connection_at s conn ≡ Some c → V.Fails V.setting.classes.unmarshal → V.Keeps l s → V.Keeps l (Endings.without_connection conn s)

-- a Hello comes from the space that was dialled, if one was
abbrev pub IsWhoWasDialled : Option Uuid → Uuid → Type 0
IsWhoWasDialled None space = Unit {0}
IsWhoWasDialled (Some peer) space = bytes_eq space peer ≡ true

-- What the event itself brings: what it begins, the frames that come with it, and with what calls end.
pub record Begins (V : View) (s : State) : Type 0 where
  pub opens : (conn : ℕ) (dialled : Option Uuid) → V.event ≡ Opened conn dialled → V.Keeps [] s → V.Keeps [] (OwnEvents.add_connection conn dialled s)
  pub parks : (id k : ℕ) (t : Living) (target : Ref) (method : ℕ) (arguments : List Value) → V.event ≡ Parked id k → ready_at s id ≡ Some t → stand (steps k t.task) ≡ AsksFor (Call target method arguments) → V.Keeps [] s
      → V.Keeps [] (LivingTasks.park_op V.setting id k t (Call target method arguments) s)
  pub looks : (peer : Uuid) (name : List ℕ) → V.event ≡ Lookup peer name
      → V.Keeps [] s → V.Keeps [] (record s { tasks_made = s.tasks_made + 1; calls_made = s.calls_made + 1; fresh = record { peer = peer; asked = LooksUp (s.calls_made + 1) (s.tasks_made + 1) name; stage = state.Waits } ∷ [] })
  pub greets : (c : Connection) (version : ℕ) (space : Uuid) (digest : List ℕ) → V.event ≡ Received c.number (message.Hello version space digest) → connection_at s c.number ≡ Some c → is_none c.peer ≡ true → bytes_eq digest V.setting.digest ≡ true → IsWhoWasDialled c.dialled space
      → V.Keeps [] s → V.Keeps [] (Frames.greeted space c.number s) × V.Dialled c.number (is_some c.dialled)
  pub roots : (method : ℕ) (arguments : List Value) (fuel : ℕ) → V.event ≡ Root method arguments fuel → V.Starts OfRoot method arguments
  pub unmarshal : is_ending V.event ≡ true → V.Fails V.setting.classes.unmarshal
  pub connect : is_unreached V.event ≡ true → V.Fails V.setting.classes.connect
  pub marshal : is_unwritten V.event ≡ true → V.Fails V.setting.classes.marshal
  pub threw : (conn number : ℕ) (class : ClassId) → V.event ≡ Received conn (message.Threw number class) → (q : Request) → find (ParkedFrames.is_asked_on conn number) s.requests ≡ Some q → ParkedFrames.has_number number q.asked ≡ true → V.Ends q.asked (Frames.thrown_reply V.setting class)
  pub spent : (conn number : ℕ) → V.event ≡ Received conn (message.Spent number) → (q : Request) → find (ParkedFrames.is_asked_on conn number) s.requests ≡ Some q → ParkedFrames.has_number number q.asked ≡ true → V.Ends q.asked (Frames.spent_reply V.setting q.asked)
  pub finished : (id k : ℕ) (t : Living) (outcome : Outcome) (conn number : ℕ) → V.event ≡ Finished id k → ready_at s id ≡ Some t → stand (steps k t.task) ≡ HasEnded outcome → t.origin ≡ OfCall conn number
      → V.Answers conn (LivingTasks.reply_frame V.setting number (steps k t.task).fuel outcome)
  pub call_came : (p : ParkedFrame) (target : ObjId) (o : Object) (method fuel : ℕ) (arguments : List Value) → p.frame ≡ CallFrame o.id method fuel arguments → V.Dialled p.conn false → object_at s target ≡ Some o → V.setting.classes.may_call o.class method ≡ true → fit_kinds (V.setting.classes.parameters method) arguments ≡ true
      → list_any (Holders.is_refused V.setting s) (references_of arguments) ≡ false → V.Known p
  pub result_came : (p : ParkedFrame) (value : Option Value) (fuel : ℕ) → V.event ≡ Received p.conn (message.Returned p.number fuel value) → p.frame ≡ ReturnedFrame value fuel → V.Dialled p.conn true → (q : Request) → find (ParkedFrames.is_asked_on p.conn p.number) s.requests ≡ Some q → Frames.fits_asked q.asked value fuel ≡ true
      → list_any (Holders.is_refused V.setting s) (references_in value) ≡ false → V.Known p

-- ---- small steps

pub if_flow : {V : View} (F : Flows V) {l : List Owed} {t u : State} (b : Bool) → V.Keeps l t → V.Keeps l u → V.Keeps l (if b then t else u)
if_flow F true h k = h
if_flow F false h k = k

pub some_flow : {V : View} (F : Flows V) {l : List Owed} {A : Type 0} {t : State} (x : Option A) (f : A → State) → V.Keeps l t → ((a : A) → x ≡ Some a → V.Keeps l (f a)) → V.Keeps l (with_some x t f)
some_flow F None f h k = h
some_flow F (Some a) f h k = k a refl

pub each_flow : {V : View} (F : Flows V) {l : List Owed} {A : Type 0} {s : State} (f : State → A → State) (xs : List A) → ((t : State) (x : A) → V.Keeps l t → V.Keeps l (f t x)) → V.Keeps l s → V.Keeps l (each f xs s)
unfolding each
each_flow F f [] k h = h
each_flow F {s = s} f (x ∷ xs) k h = each_flow F f xs k (k s x h)

-- each of which something is known
pub each_known_flow : {V : View} (F : Flows V) {l : List Owed} {A : Type 0} (Is : A → Type 0) {s : State} (f : State → A → State) (xs : List A) → AllOf Is xs → ((t : State) (x : A) → Is x → V.Keeps l t → V.Keeps l (f t x)) → V.Keeps l s → V.Keeps l (each f xs s)
unfolding each
each_known_flow F Is f [] a k h = h
each_known_flow F Is {s = s} f (x ∷ xs) a k h = each_known_flow F Is f xs a.1 k (k s x a.0 h)

-- each ends one that was removed
pub each_removed : {V : View} (F : Flows V) {l : List Owed} {s : State} (f : State → Request → State) (rs : List Request) → ((m : List Owed) (t : State) (q : Request) → V.Keeps (Removed q.peer q.asked ∷ m) t → V.Keeps m (f t q)) → V.Keeps (removed rs ++ l) s → V.Keeps l (each f rs s)
unfolding each
each_removed F f [] k h = h
each_removed F {l} {s = s} f (q ∷ rs) k h = each_removed F f rs k (k (removed rs ++ l) s q h)

pub send_flow : {V : View} (F : Flows V) {l : List Owed} {s : State} (turn : Turn) (conn : ℕ) (m : Message) → CanSend V conn m → IsHeldFor s.results conn m → V.Keeps l s → V.Keeps l (send turn conn m s)
unfolding send
send_flow {V} F {l} {s} turn conn m may held h = by (is_open s conn) refl
  where
    by : (b : Bool) → is_open s conn ≡ b → V.Keeps l (if b then record s { notes = s.notes ++ Sends turn conn m ∷ [] } else s)
    by true e = F.sends l s turn conn m may e held h
    by false e = h

pub hold_flow : {V : View} (F : Flows V) {l : List Owed} {s : State} (ids : List ForeignId) → V.Keeps l s → V.Keeps l (hold_ids ids s)
unfolding hold_ids
hold_flow {V} F {l} ids h = each_flow F Holders.holder_comes ids (λ t x k. F.quiet l t _ refl k) h

pub drop_flow : {V : View} (F : Flows V) {l : List Owed} {s : State} (ids : List ForeignId) → V.Keeps l s → V.Keeps l (drop_ids ids s)
unfolding drop_ids
drop_flow {V} F {l} ids h = each_flow F Holders.holder_goes ids (λ t x k. F.quiet l t _ refl k) h

pub let_go_flow : {V : View} (F : Flows V) {l : List Owed} {s : State} (p : ParkedFrame) (parked : List ParkedFrame) → V.Keeps l s → V.Keeps l (ParkedFrames.let_go_parked p parked s)
let_go_flow {V} F p parked h = each_flow F _ (filter (ParkedFrames.is_parked_at p.conn p.number) parked) (λ t q k. drop_flow F q.references k) h
