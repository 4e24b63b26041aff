-- What is asked of peers, what peers ask and what is sent, as the rules of a space move it in one event, for properties that ask neither
-- whether a connection is open nor whether a Hello has come there. If the few moves keep such a property, an event keeps it; each move says
-- what is known as it is made.
use mathlib.Core.Path.{ap}
use Rattle.std.specs.Prelude.{◌≡◌, refl, ℕ, ◌+◌, ◌==◌, not, nat_le, is_some, Bool, true, false, List, [], ◌∷◌, ◌++◌, Option, None, Some, filter, find, map}
use Rattle.std.specs.List.{list_any}
use Rattle.space_ids.specs.declared.ids.ClassId.{ClassId}
use Rattle.dgc_client.specs.declared.groups.Group.{Group}
use Rattle.net_message.specs.declared.message.Message.TheVariants as message
use Rattle.net_message.specs.declared.message.Message.{Message}
use Rattle.uuid.specs.declared.Uuid.{Uuid}
use Rattle.space_ids.specs.declared.ids.ObjId.{ObjId}
use Rattle.space_ids.specs.declared.ids.Ref.{Ref}
use Rattle.space_ids.specs.declared.value.Value.TheVariants as values
use Rattle.space_ids.specs.declared.value.Value.{Value}
use Rattle.sp_rules.specs.Behaviours.{Outcome, Call, Reply, GivesBack, Throws}
use Rattle.sp_rules.specs.Classes.{Kind, fit_kinds}
use Rattle.sp_rules.specs.Endings
use Rattle.sp_rules.specs.Events.{Started, Ended, Turn, Sends, Root, Lookup, Opened, Received, Parked, Finished, Output, Withdrawn, Denied, Send, Dial, Close, Ready}
use Rattle.sp_rules.specs.Frames
use Rattle.sp_rules.specs.Holders
use Rattle.sp_rules.specs.Laws.{AllOf}
use Rattle.sp_rules.specs.LivingTasks
use Rattle.sp_rules.specs.OwnEvents
use Rattle.sp_rules.specs.ParkedFrames
use Rattle.sp_rules.specs.References.{references_in, references_of}
use Rattle.sp_rules.specs.Requests
use Rattle.sp_rules.specs.Space
use Rattle.sp_rules.specs.State as state
use Rattle.sp_rules.specs.State.{State, Object, Stored, Living, Origin, OfRoot, OfCall, Until, Request, Asked, Calls, LooksUp, Tells, Connection, KeptResult, Frame, CallFrame, ReturnedFrame, ParkedFrame, task_at, ready_at, object_at, connection_at, connection_to, is_open, set_task, say, send}
use Rattle.sp_rules.specs.Tasks.{AsksFor, HasEnded, stand, steps}
use Rattle.sp_rules.proofs.AllLemmas.{all-found, all-weaken}
use Rattle.sp_rules.proofs.Stable.{new_row}
use Rattle.sp_laws.proofs.FlowRules.{Owed, Removed, Inbound, removed, of_origin, of_until, IsSameRow}
use Rattle.sp_laws.specs.Sent.{is_send, IsRefusal}
use Rattle.sp_laws.proofs.FrameFlows as frame
use Rattle.sp_laws.proofs.FrameEvents as events
use Rattle.sp_laws.proofs.FrameFlows.{FrameParts}
pub use Rattle.sp_laws.proofs.FrameFlows.{EventParts, event_parts, View, IsFrom, CanSend, IsKeptIn, IsHeldFor, IsReleased, IsSaid, is_finish, is_ending, is_storing, ending-goes, is_unreached, is_unwritten, out}
pub use Rattle.sp_laws.proofs.FrameEvents.{asked-out}

-- ---- what is kept in an event

-- The moves that keep a property of a state and of what is under way.
pub record Flows (V : View) : Type 0 where
  -- what is known
  pub known : (l : List Owed) (s : State) → V.Keeps l s → AllOf V.Known s.parked
  pub dialled : (l : List Owed) (s : State) → V.Keeps l s → AllOf (λ (c : Connection). V.Dialled c.number (is_some c.dialled)) s.connections
  pub origins : (l : List Owed) (s : State) → V.Keeps l s → AllOf (λ (t : Living). IsFrom V t.origin) s.tasks
  pub sided : (p : ParkedFrame) → V.Known p → V.Dialled p.conn (not (Frames.is_call_frame p.frame))
  pub fails : (asked : Asked) (class : ClassId) → V.Fails class → V.Ends asked (Throws class)
  pub starts : (l : List Owed) (s : State) (p : ParkedFrame) (target : ObjId) (method fuel : ℕ) (arguments : List Value) (o : Object) (selected : ℕ) → is_ending V.event ≡ true → V.Keeps l s → V.Known p → p.frame ≡ CallFrame target method fuel arguments → object_at s target ≡ Some o → V.setting.classes.selected o.class method ≡ Some selected
      → V.Starts (OfCall p.conn p.number) selected (values.Ref (record { space = V.setting.id; id = target; class = o.class }) ∷ arguments)
  pub gives : (p : ParkedFrame) (value : Option Value) (fuel : ℕ) (asked : Asked) → is_ending V.event ≡ true → V.Known p → p.frame ≡ ReturnedFrame value fuel → ParkedFrames.has_number p.number asked ≡ true → V.Ends asked (GivesBack value fuel)
  pub refuses : (conn number : ℕ) (class : ClassId) → IsRefusal V.setting V.event conn number class → V.Answers conn (message.Threw number class)
  pub finds : (conn number : ℕ) (name : List ℕ) (r : Ref) → V.event ≡ Received conn (message.Lookup number name) → r.space ≡ V.setting.id → V.Answers conn (message.Returned number 0 (Some (values.Ref r)))
  pub speaks : (conn version : ℕ) → V.Speaks conn version
  pub fits : (conn : ℕ) (ids : List ObjId) → V.Fits conn ids
  -- outputs
  pub quiet : (l : List Owed) (s t : State) → event_parts t ≡ event_parts s → V.Keeps l s → V.Keeps l t
  pub says : (l : List Owed) (s : State) (output : Output) → is_send output ≡ false → IsSaid V output → V.Keeps l s → V.Keeps l (say output s)
  pub sends : (l : List Owed) (s : State) (turn : Turn) (conn : ℕ) (m : Message) → CanSend V conn m → IsHeldFor s.results conn m → V.Keeps l s → V.Keeps l (record s { notes = s.notes ++ Sends turn conn m ∷ [] })
  pub clears : (s : State) → V.Keeps [] s → V.Keeps [] (record s { notes = [] })
  -- the store
  pub stores : (l : List Owed) (s : State) (store : List Stored) → is_storing V.event ≡ true → V.Keeps l s → V.Keeps l (record s { store = store })
  -- requests
  pub adds : (l : List Owed) (s : State) (q : Request) → V.Keeps (Removed q.peer q.asked ∷ l) s → V.Keeps l (Requests.add_request q s)
  pub calls_out : (l : List Owed) (s : State) (turn : Turn) (conn : ℕ) (peer : Uuid) (number task lent : ℕ) (kind : Kind) (m : Message) → V.Dialled conn true → V.Keeps (Removed peer (Calls number task lent kind m) ∷ l) s
      → V.Keeps l (out turn conn m (record { peer = peer; asked = Calls number task lent kind m; stage = state.Out conn 0 }) s)
  pub looks_out : (l : List Owed) (s : State) (turn : Turn) (conn : ℕ) (peer : Uuid) (number task : ℕ) (name : List ℕ) → V.Dialled conn true → V.Keeps (Removed peer (LooksUp number task name) ∷ l) s
      → V.Keeps l (out turn conn (message.Lookup number name) (record { peer = peer; asked = LooksUp number task name; stage = state.Out conn 0 }) s)
  pub tells : (l : List Owed) (s : State) (q : Request) (call : ℕ) (group : Group) → q.asked ≡ Tells call group → V.Keeps l s → V.Keeps l (Requests.add_request q s)
  pub told : (l : List Owed) (s : State) (peer : Uuid) (call : ℕ) (group : Group) → V.Keeps (Removed peer (Tells call group) ∷ l) s → V.Keeps l s
  pub unfresh : (l : List Owed) (s : State) → V.Keeps l s → V.Keeps (removed s.fresh ++ l) (record s { fresh = [] })
  pub removes : (l : List Owed) (s : State) (is : Request → Bool) → V.Keeps l s → V.Keeps (removed (filter is s.requests) ++ l) (record s { requests = filter (λ q. not (is q)) s.requests })
  pub sorts : (l : List Owed) (s : State) (is : Request → Bool) (rs : List Request) → V.Keeps (removed rs ++ l) s → V.Keeps (removed (filter (λ q. not (is q)) rs) ++ (removed (filter is rs) ++ l)) s
  pub removes_one : (l : List Owed) (s : State) (finds is : Request → Bool) (k : ℕ) (q : Request) → find finds s.requests ≡ Some q → ((p : Request) → finds p ≡ true → is p ≡ true) → ((p : Request) → is p ≡ true → ParkedFrames.has_number k p.asked ≡ true) → V.Keeps l s
      → V.Keeps (Removed q.peer q.asked ∷ l) (record s { requests = filter (λ p. not (is p)) s.requests })
  pub removes_told : (l : List Owed) (s : State) (dirty : Bool) (conn sequence : ℕ) → V.Keeps l s → V.Keeps l (record s { requests = filter (λ q. not (Frames.tells_on dirty conn sequence q)) s.requests })
  pub answers : (l : List Owed) (s : State) (conn number : ℕ) → V.Keeps l s → V.Keeps l (record s { requests = map (Frames.answered_on conn number) s.requests })
  -- tasks
  pub begins : (l : List Owed) (s : State) (origin : Origin) (method : ℕ) (arguments : List Value) (fuel : ℕ) → is_finish V.event ≡ false → V.Starts origin method arguments → V.Keeps (of_origin origin ++ l) s
      → V.Keeps l (record s { tasks_made = s.tasks_made + 1; tasks = s.tasks ++ new_row V.setting origin method arguments fuel s ∷ [] })
  pub ends : (l : List Owed) (s : State) (id : ℕ) (t : Living) → is_finish V.event ≡ true → ready_at s id ≡ Some t → V.Keeps l s → V.Keeps (of_origin t.origin ++ l) (record s { tasks = filter (λ (u : Living). not (u.id == id)) s.tasks })
  pub replies : (l : List Owed) (s : State) (peer : Uuid) (number task lent : ℕ) (kind : Kind) (m : Message) (reply : Reply) (t : Living) → V.Ends (Calls number task lent kind m) reply → task_at s task ≡ Some t → V.Keeps (Removed peer (Calls number task lent kind m) ∷ l) s
      → V.Keeps l (set_task (LivingTasks.after_reply V.setting reply) task s)
  pub replies_none : (l : List Owed) (s : State) (peer : Uuid) (number task lent : ℕ) (kind : Kind) (m : Message) → task_at s task ≡ None → V.Keeps (Removed peer (Calls number task lent kind m) ∷ l) s → V.Keeps l s
  pub looked_up : (l : List Owed) (s : State) (peer : Uuid) (number task : ℕ) (name : List ℕ) (reply : Reply) → V.Ends (LooksUp number task name) reply → V.Keeps (Removed peer (LooksUp number task name) ∷ l) s
      → V.Keeps l (say (Ended task (LivingTasks.outcome_of reply)) s)
  pub works : (l : List Owed) (s : State) (id : ℕ) (t : Living) (f : Living → Living) → Space.answers_outputs V.event ≡ false → IsSameRow f → (f t).waits ≡ false → ready_at s id ≡ Some t → V.Keeps l s → V.Keeps l (set_task f id s)
  -- results
  pub keeps : (l : List Owed) (s : State) (until : Until) (value : Option Value) → V.Keeps (of_until until ++ l) s → V.Keeps l (record s { results = s.results ++ record { until = until; value = value } ∷ [] })
  pub results_go : (l : List Owed) (s : State) (is : KeptResult → Bool) → ((k : KeptResult) → is k ≡ false → IsReleased V.event k.until) → V.Keeps l s → V.Keeps l (record s { results = filter is s.results })
  -- calls that come
  pub falls : (l : List Owed) (s : State) (conn number : ℕ) → V.Keeps (Inbound conn number ∷ l) s → V.Keeps l s
  pub row : (l : List Owed) (s : State) (conn : ℕ) (f : Connection → Connection) → ((c : Connection) → (f c).number ≡ c.number) → ((c : Connection) → (f c).last ≡ c.last) → ((c : Connection) → (f c).dialled ≡ c.dialled) → V.Keeps l s → V.Keeps l (state.set_connection f conn s)
  pub counts : (l : List Owed) (s : State) (conn number : ℕ) (c : Connection) → V.Dialled conn false → connection_at s conn ≡ Some c → nat_le number c.last ≡ false → V.Keeps l s → V.Keeps (Inbound conn number ∷ l) (Frames.counted conn number s)
  pub parks_call : (l : List Owed) (s : State) (p : ParkedFrame) → is_finish V.event ≡ false → V.Known p → Frames.is_call_frame p.frame ≡ true → V.Keeps (Inbound p.conn p.number ∷ l) s → V.Keeps l (record s { parked = s.parked ++ p ∷ [] })
  pub parks_result : (l : List Owed) (s : State) (p : ParkedFrame) → V.Known p → Frames.is_call_frame p.frame ≡ false → V.Keeps l s → V.Keeps l (record s { parked = s.parked ++ p ∷ [] })
  pub takes : (l : List Owed) (s : State) (p : ParkedFrame) → V.Keeps l s → V.Keeps l (ParkedFrames.take_parked p s)
  pub takes_call : (l : List Owed) (s : State) (p q : ParkedFrame) → find (ParkedFrames.is_parked_at p.conn p.number) s.parked ≡ Some q → Frames.is_call_frame q.frame ≡ true → V.Keeps l s → V.Keeps (Inbound q.conn q.number ∷ l) (ParkedFrames.take_parked p s)
  pub closes : (l : List Owed) (s : State) (conn : ℕ) → V.Fails V.setting.classes.unmarshal → V.Keeps l s → V.Keeps l (Endings.without_connection conn s)

-- What the event itself brings: what it begins, the frames that come with it, and with what calls end.
pub record Begins (V : View) (s : State) : Type 0 where
  pub opens : (conn : ℕ) (dialled : Option Uuid) → V.event ≡ Opened conn dialled → V.Keeps [] s → V.Keeps [] (OwnEvents.add_connection conn dialled s)
  pub parks : (id k : ℕ) (t : Living) (target : Ref) (method : ℕ) (arguments : List Value) → V.event ≡ Parked id k → ready_at s id ≡ Some t → stand (steps k t.task) ≡ AsksFor (Call target method arguments) → V.Keeps [] s
      → V.Keeps [] (LivingTasks.park_op V.setting id k t (Call target method arguments) s)
  pub looks : (peer : Uuid) (name : List ℕ) → V.event ≡ Lookup peer name
      → V.Keeps [] s → V.Keeps [] (record s { tasks_made = s.tasks_made + 1; calls_made = s.calls_made + 1; fresh = record { peer = peer; asked = LooksUp (s.calls_made + 1) (s.tasks_made + 1) name; stage = state.Waits } ∷ [] })
  pub roots : (method : ℕ) (arguments : List Value) (fuel : ℕ) → V.event ≡ Root method arguments fuel → V.Starts OfRoot method arguments
  pub unmarshal : is_ending V.event ≡ true → V.Fails V.setting.classes.unmarshal
  pub connect : is_unreached V.event ≡ true → V.Fails V.setting.classes.connect
  pub marshal : is_unwritten V.event ≡ true → V.Fails V.setting.classes.marshal
  pub threw : (conn number : ℕ) (class : ClassId) → V.event ≡ Received conn (message.Threw number class) → (q : Request) → find (ParkedFrames.is_asked_on conn number) s.requests ≡ Some q → ParkedFrames.has_number number q.asked ≡ true → V.Ends q.asked (Frames.thrown_reply V.setting class)
  pub spent : (conn number : ℕ) → V.event ≡ Received conn (message.Spent number) → (q : Request) → find (ParkedFrames.is_asked_on conn number) s.requests ≡ Some q → ParkedFrames.has_number number q.asked ≡ true → V.Ends q.asked (Frames.spent_reply V.setting q.asked)
  pub finished : (id k : ℕ) (t : Living) (outcome : Outcome) (conn number : ℕ) → V.event ≡ Finished id k → ready_at s id ≡ Some t → stand (steps k t.task) ≡ HasEnded outcome → t.origin ≡ OfCall conn number
      → V.Answers conn (LivingTasks.reply_frame V.setting number (steps k t.task).fuel outcome)
  pub call_came : (p : ParkedFrame) (target : ObjId) (o : Object) (method fuel : ℕ) (arguments : List Value) → p.frame ≡ CallFrame o.id method fuel arguments → V.Dialled p.conn false → object_at s target ≡ Some o → V.setting.classes.may_call o.class method ≡ true → fit_kinds (V.setting.classes.parameters method) arguments ≡ true
      → list_any (Holders.is_refused V.setting s) (references_of arguments) ≡ false → V.Known p
  pub result_came : (p : ParkedFrame) (value : Option Value) (fuel : ℕ) → V.event ≡ Received p.conn (message.Returned p.number fuel value) → p.frame ≡ ReturnedFrame value fuel → V.Dialled p.conn true → (q : Request) → find (ParkedFrames.is_asked_on p.conn p.number) s.requests ≡ Some q → Frames.fits_asked q.asked value fuel ≡ true
      → list_any (Holders.is_refused V.setting s) (references_in value) ≡ false → V.Known p

-- ---- the moves are those of frames

is-said : (V : View) (s : State) (o : Output) → frame.MaySay V s o → IsSaid V o
is-said V s (Started task) a = tt
is-said V s (Ended task outcome) a = a
is-said V s (Withdrawn ids) a = tt
is-said V s (Denied why) a = tt
is-said V s (Send conn m) a = tt
is-said V s (Dial peer) a = tt
is-said V s (Close conn) a = tt
is-said V s (Ready task) a = tt

any-row : {V : View} (F : Flows V) {l : List Owed} {s : State} → V.Keeps l s → AllOf (λ (c : Connection). is_some c.peer ≡ true → V.Dialled c.number (is_some c.dialled)) s.connections
any-row {V} F {l} {s} k = all-weaken (λ (c : Connection). V.Dialled c.number (is_some c.dialled)) (λ (c : Connection). is_some c.peer ≡ true → V.Dialled c.number (is_some c.dialled)) s.connections (λ c a e. a) (F.dialled l s k)

flows : {V : View} → Flows V → frame.Flows V
flows {V} F = record {
  known = F.known;
  dialled = λ l s k. any-row F k;
  origins = F.origins;
  sided = F.sided;
  fails = F.fails;
  starts = F.starts;
  gives = F.gives;
  refuses = F.refuses;
  finds = F.finds;
  speaks = λ l s conn version is k. F.speaks conn version;
  fits = λ l s conn ids few k. F.fits conn ids;
  quiet = λ l s t eq k. F.quiet l s t (ap (λ (p : FrameParts). p.parts) eq) k;
  says = λ l s output is so k. F.says l s output is (is-said V s output so) k;
  sends = λ l s turn conn m may there held k. F.sends l s turn conn m may held k;
  clears = F.clears;
  stores = F.stores;
  adds = F.adds;
  calls_out = λ l s turn conn peer number task lent kind m known there k. F.calls_out l s turn conn peer number task lent kind m known k;
  looks_out = λ l s turn conn peer number task name known there k. F.looks_out l s turn conn peer number task name known k;
  tells = F.tells;
  told = F.told;
  unfresh = F.unfresh;
  removes = F.removes;
  sorts = F.sorts;
  removes_one = F.removes_one;
  removes_told = F.removes_told;
  answers = F.answers;
  begins = F.begins;
  ends = F.ends;
  replies = F.replies;
  replies_none = F.replies_none;
  looked_up = F.looked_up;
  works = F.works;
  keeps = F.keeps;
  results_go = F.results_go;
  falls = F.falls;
  sent = λ l s conn m k. F.row l s conn (λ (c : Connection). record c { sent = m ∷ c.sent }) (λ c. refl) (λ c. refl) (λ c. refl) k;
  versions = λ l s conn version speaks k. F.row l s conn (λ (c : Connection). record c { version = version }) (λ c. refl) (λ c. refl) (λ c. refl) k;
  notes_peer = λ l s conn c peer space digest same is higher k. F.quiet l s (Endings.note_peer peer s) refl k;
  counts = F.counts;
  parks_call = F.parks_call;
  parks_result = F.parks_result;
  takes = F.takes;
  takes_call = F.takes_call;
  closes = λ l s conn c is may k. F.closes l s conn may k;
}

begins : {V : View} {s : State} → Flows V → Begins V s → frame.Begins V s
begins {V} {s} F B = record {
  opens = B.opens;
  parks = B.parks;
  looks = B.looks;
  greets = λ c version space digest same is none known who k. (
    F.row [] s c.number (λ (d : Connection). record d { peer = Some space }) (λ d. refl) (λ d. refl) (λ d. refl) k,
    all-found (λ (d : Connection). V.Dialled d.number (is_some d.dialled)) (λ (d : Connection). d.number == c.number) s.connections c is (F.dialled [] s k),
  );
  roots = B.roots;
  unmarshal = B.unmarshal;
  connect = B.connect;
  marshal = B.marshal;
  threw = B.threw;
  spent = B.spent;
  finished = B.finished;
  call_came = B.call_came;
  result_came = B.result_came;
}

-- before frames are answered, what the event did
pub happen_settles : {V : View} (F : Flows V) (s : State) → Begins V s → V.Keeps [] s → V.Keeps [] (Requests.settle (Space.happen V.setting V.event s))
happen_settles F s B h = events.happen_settles (flows F) s (begins F B) h

-- what the moves keep, an event keeps
pub on_flow : {V : View} (F : Flows V) (s : State) → Begins V s → V.Keeps [] s → V.Keeps [] (Space.on V.setting V.event s).0
on_flow F s B h = events.on_flow (flows F) s (begins F B) h
