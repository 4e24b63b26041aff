-- The rules of a space as they move requests, frames that came and wait for an answer, and the frames that answer them. If the few moves keep
-- a property, each rule keeps it up to the end of the event.
use mathlib.Core.Path.{sym, ap, subst}
use Rattle.std.proofs.lemmas.Bool.{eqb-true}
use Rattle.std.specs.List.{list_any}
use Rattle.std.specs.Str.{bytes_eq}
use Rattle.std.specs.Prelude.{◌≡◌, refl, ℕ, ◌+◌, ◌==◌, ◌&&◌, ◌||◌, not, nat_le, nat_lt, is_some, is_none, Bool, true, false, List, [], ◌∷◌, ◌++◌, Option, None, Some, Result, Ok, Err, filter, find, map, if◌then◌else◌}
use Rattle.space_ids.specs.declared.ids.ClassId.{ClassId}
use Rattle.space_ids.specs.declared.ids.ForeignId.{ForeignId}
use Rattle.space_ids.specs.declared.ids.ObjId.{ObjId}
use Rattle.space_ids.specs.declared.ids.Ref.{Ref}
use Rattle.space_ids.specs.declared.value.Value.TheVariants as values
use Rattle.space_ids.specs.declared.value.Value.{Value}
use Rattle.uuid.specs.declared.Uuid.{Uuid}
use Rattle.dgc_client.specs.History as lease_events
use Rattle.dgc_client.specs.Lease as lease
use Rattle.dgc_client.specs.Table as client
use Rattle.dgc_client.specs.Table.{numbers_of, on_each, Told, On}
use Rattle.dgc_client.specs.declared.groups.Group.{Group}
use Rattle.dgc_client.specs.declared.lease.Due.TheVariants as due
use Rattle.dgc_client.specs.declared.lease.Due.{Due}
use Rattle.net_message.specs.declared.message.Message.TheVariants as message
use Rattle.net_message.specs.declared.message.Message.{Message}
use Rattle.sp_registry.specs.Bindings as registry
use Rattle.sp_registry.specs.Names.{is_name}
use Rattle.sp_registry.specs.declared.fault.RegistryFault.{RegistryFault}
use Rattle.sp_registry.specs.declared.registry.Binding.{Binding}
use Rattle.sp_rules.specs.Behaviours.{Outcome, Returned, Threw, Spent, Op, Create, Get, Put, Call, Reply, GivesBack, Throws}
use Rattle.sp_rules.specs.Classes.{Setting, fit_kinds}
use Rattle.sp_rules.specs.Endings
use Rattle.sp_rules.specs.Events.{Ended, Turn, Sends, Hellos, Replies, Note, Event, Moment, Sweep, Root, RootAck, Bind, Rebind, Unbind, Lookup, Opened, Refused, Received, Closed, ReadFailed, Bad, WriteFailed, Committed, Parked, GivenBack, Finished, Output, Dial, Close}
use Rattle.sp_rules.specs.Frames
use Rattle.sp_rules.specs.Holders
use Rattle.sp_rules.specs.Holders.{hold_ids, drop_ids}
use Rattle.sp_rules.specs.Lists.{each, with_some}
use Rattle.sp_rules.specs.LivingTasks
use Rattle.sp_rules.specs.OwnEvents
use Rattle.sp_rules.specs.ParkedFrames
use Rattle.sp_rules.specs.References.{references_of, references_in}
use Rattle.sp_rules.specs.Requests
use Rattle.sp_rules.specs.Space
use Rattle.sp_rules.specs.State as state
use Rattle.sp_rules.specs.State.{State, Object, Living, Origin, OfRoot, OfCall, Until, Request, Asked, Calls, LooksUp, Tells, Connection, KeptResult, Frame, CallFrame, ReturnedFrame, ParkedFrame, task_at, ready_at, object_at, connection_at, connection_to, is_open, set_task, say, send}
use Rattle.sp_rules.specs.Tasks.{Stand, Runs, AsksFor, HasEnded, stand, steps}
use Rattle.sp_rules.proofs.AllLemmas.{found-is}
use Rattle.sp_rules.proofs.ReadyLemmas.{ready-is}
use Rattle.sp_rules.proofs.Stable.{new_row}
use Rattle.sp_laws.specs.CallSent.{is_send}
use Rattle.sp_order_laws.specs.Answering.{Exchange, CallReply, GroupReply, ResultAck}

-- ---- what is owed

-- A frame of a connection and number came, and its answer is owed.
pub data Owed : Type 0 where
  Owes : (x : Exchange) (conn number : ℕ) → Owed

-- what a frame that comes makes a space owe
abbrev pub brought : ℕ → Message → List Owed
brought conn (message.Call number object method fuel arguments) = Owes CallReply conn number ∷ []
brought conn (message.Lookup number name) = Owes CallReply conn number ∷ []
brought conn (message.Dirty sequence period objects) = Owes GroupReply conn sequence ∷ []
brought conn (message.Clean sequence strong objects) = Owes GroupReply conn sequence ∷ []
brought conn (message.Returned number fuel value) = Owes ResultAck conn number ∷ []
brought conn _ = []

-- what a frame that is sent pays
abbrev pub paid : ℕ → Message → List Owed
paid conn (message.Returned number fuel value) = Owes CallReply conn number ∷ []
paid conn (message.Threw number class) = Owes CallReply conn number ∷ []
paid conn (message.Spent number) = Owes CallReply conn number ∷ []
paid conn (message.Lease sequence period) = Owes GroupReply conn sequence ∷ []
paid conn (message.Cleaned sequence) = Owes GroupReply conn sequence ∷ []
paid conn (message.Ack number) = Owes ResultAck conn number ∷ []
paid conn _ = []

abbrev pub owed_by : Event → List Owed
owed_by (Received conn m) = brought conn m
owed_by _ = []

abbrev pub of_frame : ℕ → ℕ → Frame → Owed
of_frame conn number (CallFrame target method fuel arguments) = Owes CallReply conn number
of_frame conn number (ReturnedFrame value fuel) = Owes ResultAck conn number

abbrev pub of_parked : ParkedFrame → Owed
of_parked p = of_frame p.conn p.number p.frame

abbrev pub of_origin : Origin → List Owed
of_origin OfRoot = []
of_origin (OfCall conn number) = Owes CallReply conn number ∷ []

-- a frame that asks under a number of its own
abbrev pub is_numbered : Message → Bool
is_numbered (message.Call number object method fuel arguments) = true
is_numbered (message.Lookup number name) = true
is_numbered (message.Dirty sequence period objects) = true
is_numbered (message.Clean sequence strong objects) = true
is_numbered _ = false

-- ---- what is kept

-- the parts at which a property may look
pub record WalkParts : Type 0 where
  pub calls_made : ℕ
  pub groups_made : ℕ
  pub numbers : ℕ
  pub tasks : List Living
  pub requests : List Request
  pub fresh : List Request
  pub connections : List Connection
  pub parked : List ParkedFrame
  pub notes : List Note

abbrev pub walk_parts : State → WalkParts
walk_parts s = record { calls_made = s.calls_made; groups_made = s.groups_made; numbers = numbers_of s.leases; tasks = s.tasks; requests = s.requests; fresh = s.fresh; connections = s.connections; parked = s.parked; notes = s.notes }

-- a task that is changed keeps its id and its origin
pub record IsSameTask (f : Living → Living) : Type 0 where
  pub id : (t : Living) → (f t).id ≡ t.id
  pub origin : (t : Living) → (f t).origin ≡ t.origin

-- The moves that keep a property of a state and of what is owed beside it.
pub record Moves (g : Setting) (P : List Owed → State → Type 0) : Type 0 where
  pub quiet : (l : List Owed) (s t : State) → walk_parts t ≡ walk_parts s → P l s → P l t
  pub says : (l : List Owed) (s : State) (output : Output) → is_send output ≡ false → P l s → P l (say output s)
  pub pays : (l : List Owed) (s : State) (turn : Turn) (conn : ℕ) (m : Message) → is_numbered m ≡ false → P (paid conn m ++ l) s → P l (record s { notes = s.notes ++ Sends turn conn m ∷ [] })
  pub falls : (l : List Owed) (s : State) (o : Owed) → P (o ∷ l) s → P l s
  pub fewer : (l : List Owed) (s : State) (is : Request → Bool) → P l s → P l (record s { requests = filter (λ q. not (is q)) s.requests })
  pub answered : (l : List Owed) (s : State) (conn number : ℕ) → P l s → P l (record s { requests = map (Frames.answered_on conn number) s.requests })
  pub begins : (l : List Owed) (s : State) (origin : Origin) (method : ℕ) (arguments : List Value) (fuel : ℕ) → P (of_origin origin ++ l) s
      → P l (record s { tasks_made = s.tasks_made + 1; tasks = s.tasks ++ new_row g origin method arguments fuel s ∷ [] })
  pub ends : (l : List Owed) (s : State) (id : ℕ) (t : Living) → task_at s id ≡ Some t → P l s → P (of_origin t.origin ++ l) (record s { tasks = filter (λ (u : Living). not (u.id == id)) s.tasks })
  pub works : (l : List Owed) (s : State) (id : ℕ) (f : Living → Living) → IsSameTask f → P l s → P l (set_task f id s)
  pub parks : (l : List Owed) (s : State) (p : ParkedFrame) → P (of_parked p ∷ l) s → P l (record s { parked = s.parked ++ p ∷ [] })
  pub takes : (l : List Owed) (s : State) (p : ParkedFrame) → P l s → P l (ParkedFrames.take_parked p s)
  pub counts : (l : List Owed) (s : State) (conn number : ℕ) → P (Owes CallReply conn number ∷ l) s → P (Owes CallReply conn number ∷ l) (Frames.counted conn number s)
  pub versions : (l : List Owed) (s : State) (conn version : ℕ) → P l s → P l (Frames.of_version version conn s)
  pub closes : (l : List Owed) (s : State) (conn : ℕ) → P l s → P l (Endings.without_connection conn s)

-- Beside them: a parked frame goes with what is owed for it, and all that wait for a reference fail.
pub record Walks (g : Setting) (P : List Owed → State → Type 0) : Type 0 where
  pub moves : Moves g P
  pub frees : (l : List Owed) (s : State) (p q : ParkedFrame) → find (ParkedFrames.is_parked_at p.conn p.number) s.parked ≡ Some q → P l s → P (of_parked q ∷ l) (ParkedFrames.take_parked p s)
  pub fails : (l : List Owed) (s : State) (r : ForeignId) → P l s → P l (each (ParkedFrames.fail_parked g) (filter (ParkedFrames.names r) s.parked) s)

-- What the event itself begins.
pub record Begins (g : Setting) (P : List Owed → State → Type 0) (s : State) (e : Event) : Type 0 where
  pub opens : (conn : ℕ) (dialled : Option Uuid) → e ≡ Opened conn dialled → P [] s → P [] (OwnEvents.add_connection conn dialled s)
  pub greets : (c : Connection) (space : Uuid) → connection_at s c.number ≡ Some c → P [] s → P [] (Frames.greeted space c.number s)
  pub flushes : (c : Connection) (space peer : Uuid) → connection_at s c.number ≡ Some c → is_none c.peer ≡ true → P [] s → P [] (Requests.flush_waiting peer c.number (Frames.greeted space c.number s))
  pub asks : (id k : ℕ) (t : Living) (target : Ref) (method : ℕ) (arguments : List Value) → e ≡ Parked id k → P [] s → P [] (LivingTasks.park_op g id k t (Call target method arguments) s)
  pub looks : (peer : Uuid) (name : List ℕ) → e ≡ Lookup peer name → P [] s
      → P [] (record s { tasks_made = s.tasks_made + 1; calls_made = s.calls_made + 1; fresh = record { peer = peer; asked = LooksUp (s.calls_made + 1) (s.tasks_made + 1) name; stage = state.Waits } ∷ [] })

-- ---- small steps

if_walk : {g : Setting} {P : List Owed → State → Type 0} (M : Moves g P) {l : List Owed} {t u : State} (b : Bool) → P l t → P l u → P l (if b then t else u)
if_walk M true h k = h
if_walk M false h k = k

some_walk : {g : Setting} {P : List Owed → State → Type 0} (M : Moves g P) {l : List Owed} {A : Type 0} {t : State} (x : Option A) (f : A → State) → P l t → ((a : A) → x ≡ Some a → P l (f a)) → P l (with_some x t f)
some_walk M None f h k = h
some_walk M (Some a) f h k = k a refl

pub each_walk : {g : Setting} {P : List Owed → State → Type 0} (M : Moves g P) {l : List Owed} {A : Type 0} {s : State} (f : State → A → State) (xs : List A) → ((t : State) (x : A) → P l t → P l (f t x)) → P l s → P l (each f xs s)
unfolding each
each_walk M f [] k h = h
each_walk M {s = s} f (x ∷ xs) k h = each_walk M f xs k (k s x h)

pub all_fall : {g : Setting} {P : List Owed → State → Type 0} (M : Moves g P) {l : List Owed} {s : State} (os : List Owed) → P (os ++ l) s → P l s
all_fall M [] h = h
all_fall M {l} {s} (o ∷ os) h = all_fall M os (M.falls (os ++ l) s o h)

pub send_walk : {g : Setting} {P : List Owed → State → Type 0} (M : Moves g P) {l : List Owed} {s : State} (turn : Turn) (conn : ℕ) (m : Message) → is_numbered m ≡ false → P (paid conn m ++ l) s → P l (send turn conn m s)
unfolding send
send_walk {P = P} M {l} {s} turn conn m is h = if_walk M (is_open s conn) (M.pays l s turn conn m is h) (all_fall M (paid conn m) h)

hold_walk : {g : Setting} {P : List Owed → State → Type 0} (M : Moves g P) {l : List Owed} {s : State} (ids : List ForeignId) → P l s → P l (hold_ids ids s)
unfolding hold_ids
hold_walk {P = P} M {l} ids h = each_walk M Holders.holder_comes ids (λ t x k. M.quiet l t _ refl k) h

drop_walk : {g : Setting} {P : List Owed → State → Type 0} (M : Moves g P) {l : List Owed} {s : State} (ids : List ForeignId) → P l s → P l (drop_ids ids s)
unfolding drop_ids
drop_walk {P = P} M {l} ids h = each_walk M Holders.holder_goes ids (λ t x k. M.quiet l t _ refl k) h

let_go_walk : {g : Setting} {P : List Owed → State → Type 0} (M : Moves g P) {l : List Owed} {s : State} (p : ParkedFrame) (parked : List ParkedFrame) → P l s → P l (ParkedFrames.let_go_parked p parked s)
let_go_walk {P = P} M {l} p parked h = each_walk M _ (filter (ParkedFrames.is_parked_at p.conn p.number) parked) (λ t q k. drop_walk M q.references k) h

-- ---- tasks

add_task_walk : {g : Setting} {P : List Owed → State → Type 0} (M : Moves g P) {l : List Owed} {s : State} (origin : Origin) (method : ℕ) (arguments : List Value) (fuel : ℕ) → P (of_origin origin ++ l) s → P l (LivingTasks.add_task g origin method arguments fuel s)
unfolding LivingTasks.add_task
add_task_walk M {l} {s} origin method arguments fuel h = M.says l _ _ refl (hold_walk M _ (M.says l _ _ refl (M.begins l s origin method arguments fuel h)))

keep_walk : {g : Setting} {P : List Owed → State → Type 0} (M : Moves g P) {l : List Owed} {s : State} (until : Until) (value : Option Value) → P l s → P l (LivingTasks.keep g until value s)
keep_walk M {l} {s} until value h = hold_walk M _ (M.quiet l s _ refl h)

keep_result_walk : {g : Setting} {P : List Owed → State → Type 0} (M : Moves g P) {l : List Owed} {s : State} (until : Until) (outcome : Outcome) → P l s → P l (LivingTasks.keep_result g until outcome s)
keep_result_walk M until (Returned value) h = keep_walk M until value h
keep_result_walk M until (Threw class) h = h
keep_result_walk M until Spent h = h

report_walk : {g : Setting} {P : List Owed → State → Type 0} (M : Moves g P) {l : List Owed} {s : State} (origin : Origin) (id fuel : ℕ) (outcome : Outcome) → P (of_origin origin ++ l) s → P l (LivingTasks.report g origin id fuel outcome s)
report_walk M OfRoot id fuel outcome h = keep_result_walk M (state.RootAcked id) outcome h
report_walk {g} {P} M {l} {s} (OfCall conn number) id fuel outcome h = if_walk M (is_open s conn) (replies outcome) (M.falls l s _ h)
  where
    replies : (o : Outcome) → P l (send Replies conn (LivingTasks.reply_frame g number fuel o) (LivingTasks.keep_result g (state.Acked conn number) o s))
    replies (Returned value) = send_walk M Replies conn _ refl (keep_result_walk M (state.Acked conn number) (Returned value) h)
    replies (Threw class) = send_walk M Replies conn _ refl h
    replies Spent = send_walk M Replies conn _ refl h

end_with_walk : {g : Setting} {P : List Owed → State → Type 0} (M : Moves g P) {l : List Owed} {s : State} (id : ℕ) (t u : Living) (outcome : Outcome) → task_at s id ≡ Some u → t.origin ≡ u.origin → P l s → P l (LivingTasks.end_with g id t outcome s)
end_with_walk {g} {P} M {l} {s} id t u outcome is same h = drop_walk M _ (report_walk M t.origin id t.task.fuel outcome (M.says _ _ (Ended id outcome) refl
    (M.quiet _ (record s { tasks = filter (λ (v : Living). not (v.id == id)) s.tasks }) _ refl (subst (λ o. P (of_origin o ++ l) (record s { tasks = filter (λ (v : Living). not (v.id == id)) s.tasks })) (sym same) (M.ends l s id u is h)))))

reply_to_walk : {g : Setting} {P : List Owed → State → Type 0} (M : Moves g P) {l : List Owed} {s : State} (asked : Asked) (reply : Reply) → P l s → P l (LivingTasks.reply_to g asked reply s)
unfolding LivingTasks.reply_to LivingTasks.reply_task
reply_to_walk {g} {P} M {l} {s} (Calls number task lent kind m) reply h = some_walk M (task_at s task) _ h (λ t is. M.says l _ _ refl (hold_walk M _ (M.works l s task (LivingTasks.after_reply g reply) (record { id = λ u. refl; origin = λ u. refl }) h)))
reply_to_walk M {l} (LooksUp number task name) reply h = keep_result_walk M (state.RootAcked task) (LivingTasks.outcome_of reply) (M.says l _ (Ended task (LivingTasks.outcome_of reply)) refl h)
reply_to_walk M (Tells call group) reply h = h

after_op_walk : {g : Setting} {P : List Owed → State → Type 0} (M : Moves g P) {l : List Owed} {s : State} (op : Op) → P l s → P l (LivingTasks.after_op g op s)
unfolding LivingTasks.after_op
after_op_walk {P = P} M {l} {s} (Create class) h = if_walk M (LivingTasks.is_full s) h (M.quiet l s _ refl h)
after_op_walk M (Get id slot) h = h
after_op_walk M {l} {s} (Put id slot value) h = drop_walk M _ (hold_walk M _ (M.quiet l s _ refl h))
after_op_walk M (Call target method arguments) h = h

commit_walk : {g : Setting} {P : List Owed → State → Type 0} (M : Moves g P) {l : List Owed} {s : State} (id k : ℕ) (op : Op) → P l s → P l (LivingTasks.commit g id k op s)
unfolding LivingTasks.commit
commit_walk {g} {P} M {l} {s} id k op h = some_walk M (ready_at s id) _ h (λ t is. after_op_walk M op (hold_walk M _
    (M.works l s id (λ (u : Living). LivingTasks.after_reply g (LivingTasks.op_reply g op s) (LivingTasks.after_steps k u)) (record { id = λ u. refl; origin = λ u. refl }) h)))

give_back_walk : {g : Setting} {P : List Owed → State → Type 0} (M : Moves g P) {l : List Owed} {s : State} (id k : ℕ) → P l s → P l (LivingTasks.give_back id k s)
unfolding LivingTasks.give_back
give_back_walk {P = P} M {l} {s} id k h = some_walk M (ready_at s id) _ h (λ t is. M.works l s id (LivingTasks.after_steps k) (record { id = λ u. refl; origin = λ u. refl }) h)

park_walk : {g : Setting} {P : List Owed → State → Type 0} (M : Moves g P) {s : State} {e : Event} (id k : ℕ) → e ≡ Parked id k → Begins g P s e → P [] s → P [] (LivingTasks.park_call g id k s)
unfolding LivingTasks.park_call
park_walk {g} {P} M {s} {e} id k same B h = some_walk M (ready_at s id) _ h (λ t is. at t (stand (steps k t.task)))
  where
    parks : (t : Living) (op : Op) → P [] (LivingTasks.park_op g id k t op s)
    parks t (Create class) = h
    parks t (Get o slot) = h
    parks t (Put o slot value) = h
    parks t (Call target method arguments) = B.asks id k t target method arguments same h

    at : (t : Living) (stands : Stand) → P [] (LivingTasks.park_at g id k t stands s)
    at t Runs = h
    at t (AsksFor op) = parks t op
    at t (HasEnded outcome) = h

finish_walk : {g : Setting} {P : List Owed → State → Type 0} (M : Moves g P) {l : List Owed} {s : State} (id k : ℕ) → P l s → P l (LivingTasks.finish_task g id k s)
unfolding LivingTasks.finish_task
finish_walk {g} {P} M {l} {s} id k h = some_walk M (ready_at s id) _ h (λ t is. at t is (stand (steps k t.task)))
  where
    at : (t : Living) → ready_at s id ≡ Some t → (stands : Stand) → P l (LivingTasks.end_at g id (LivingTasks.after_steps k t) stands s)
    at t is Runs = h
    at t is (AsksFor op) = h
    at t is (HasEnded outcome) = end_with_walk M id (LivingTasks.after_steps k t) t outcome (ready-is (task_at s id) t is).0 refl h

-- ---- parked frames

start_call_walk : {g : Setting} {P : List Owed → State → Type 0} (M : Moves g P) {l : List Owed} {s : State} (p : ParkedFrame) (target : ObjId) (method fuel : ℕ) (arguments : List Value) → P (Owes CallReply p.conn p.number ∷ l) s → P l (ParkedFrames.start_call g p target method fuel arguments s)
unfolding ParkedFrames.start_call
start_call_walk {g} {P} M {l} {s} p target method fuel arguments h = some_walk M (object_at s target) _ (M.falls l s _ h) (λ o is. selected (record { space = g.id; id = target; class = o.class }) (g.classes.selected o.class method))
  where
    selected : (receiver : Ref) (found : Option ℕ) → P l (ParkedFrames.start_selected g p.conn p.number receiver found fuel arguments s)
    selected receiver None = send_walk M _ p.conn _ refl h
    selected receiver (Some m) = add_task_walk M (OfCall p.conn p.number) m _ fuel h

answer_parked_walk : {g : Setting} {P : List Owed → State → Type 0} (M : Moves g P) {l : List Owed} {s : State} (p : ParkedFrame) (reply : Reply) → P (Owes ResultAck p.conn p.number ∷ l) s → P l (ParkedFrames.answer_parked g p reply s)
unfolding ParkedFrames.answer_parked
answer_parked_walk {P = P} M {l} {s} p reply h = some_walk M (find (ParkedFrames.is_call_on p.conn p.number) s.requests) _ (M.falls l s _ h) (λ q is. reply_to_walk M q.asked reply (send_walk M _ p.conn (message.Ack p.number) refl (M.fewer _ s (ParkedFrames.is_call_on p.conn p.number) h)))

go_frame_walk : {g : Setting} {P : List Owed → State → Type 0} (M : Moves g P) {l : List Owed} {s : State} (p : ParkedFrame) (f : Frame) → P (of_frame p.conn p.number f ∷ l) s → P l (ParkedFrames.go_frame g p f s)
go_frame_walk M p (CallFrame target method fuel arguments) h = start_call_walk M p target method fuel arguments h
go_frame_walk M p (ReturnedFrame value fuel) h = answer_parked_walk M p (GivesBack value fuel) h

go_walk : {g : Setting} {P : List Owed → State → Type 0} (W : Walks g P) {l : List Owed} {s : State} (p : ParkedFrame) → P l s → P l (ParkedFrames.go g s p)
unfolding ParkedFrames.go
go_walk {P = P} W {l} {s} p h = some_walk W.moves (find (ParkedFrames.is_parked_at p.conn p.number) s.parked) _ h (λ q is. let_go_walk W.moves p s.parked (go_frame_walk W.moves q q.frame (W.frees l s p q is h)))

go_all_walk : {g : Setting} {P : List Owed → State → Type 0} (W : Walks g P) {l : List Owed} {s : State} → P l s → P l (ParkedFrames.go_all g s)
unfolding ParkedFrames.go_all
go_all_walk {P = P} W {l} h = each_walk W.moves _ _ (λ t p k. go_walk W p k) h

park_frame_walk : {g : Setting} {P : List Owed → State → Type 0} (W : Walks g P) {l : List Owed} {s : State} (conn number : ℕ) (frame : Frame) (references : List ForeignId) → P (of_frame conn number frame ∷ l) s → P l (ParkedFrames.park_frame g conn number frame references s)
unfolding ParkedFrames.park_frame
park_frame_walk W {l} {s} conn number frame references h = go_all_walk W (hold_walk W.moves references (W.moves.parks l s (record { conn = conn; number = number; frame = frame; references = references }) h))

pub fail_parked_walk : {g : Setting} {P : List Owed → State → Type 0} (M : Moves g P) {l : List Owed} {s : State} (p : ParkedFrame) → P (of_parked p ∷ l) s → P l (ParkedFrames.fail_parked g s p)
unfolding ParkedFrames.fail_parked
fail_parked_walk {g} {P} M {l} {s} p h = frame p.frame (let_go_walk M p s.parked (M.takes _ s p h))
  where
    frame : (f : Frame) {t : State} → P (of_frame p.conn p.number f ∷ l) t → P l (ParkedFrames.fail_frame g p f t)
    frame (CallFrame target method fuel arguments) k = send_walk M _ p.conn _ refl k
    frame (ReturnedFrame value fuel) k = answer_parked_walk M p (Throws g.classes.unmarshal) k

-- ---- endings

fail_dirty_walk : {g : Setting} {P : List Owed → State → Type 0} (W : Walks g P) {l : List Owed} {s : State} (call : ℕ) (id : ForeignId) → P l s → P l (Endings.fail_dirty g call s id)
unfolding Endings.fail_dirty
fail_dirty_walk {g} {P} W {l} {s} call id h = if_walk W.moves (lease.is_made (Holders.lease_now s id).dirty call && is_none (Holders.lease_now s id).lease) (W.fails l failed id kept) kept
  where
    failed : State
    failed = record s { leases = client.On id (lease_events.DirtyFailed call) ∷ s.leases }

    kept : P l failed
    kept = W.moves.quiet l s _ refl h

fail_group_walk : {g : Setting} {P : List Owed → State → Type 0} (W : Walks g P) {l : List Owed} {s : State} (kind : Due) (b : Group) (call : ℕ) → P l s → P l (Endings.fail_group g kind b call s)
fail_group_walk {P = P} W {l} due.Dirty b call h = each_walk W.moves _ _ (λ t x k. fail_dirty_walk W call x k) h
fail_group_walk {P = P} W {l} (due.Clean strong) b call h = each_walk W.moves _ _ (λ t x k. W.moves.quiet l t _ refl k) h

end_asked_walk : {g : Setting} {P : List Owed → State → Type 0} (W : Walks g P) {l : List Owed} {s : State} (class : ClassId) (asked : Asked) → P l s → P l (Endings.end_asked g class asked s)
end_asked_walk W class (Calls number task lent kind m) h = reply_to_walk W.moves (Calls number task lent kind m) (Throws class) h
end_asked_walk W class (LooksUp number task name) h = reply_to_walk W.moves (LooksUp number task name) (Throws class) h
end_asked_walk W class (Tells call group) h = fail_group_walk W group.kind group call h

end_requests_walk : {g : Setting} {P : List Owed → State → Type 0} (W : Walks g P) {l : List Owed} {s : State} (is : Request → Bool) (why : Asked → ClassId) → P l s → P l (Endings.end_requests g is why s)
unfolding Endings.end_requests
end_requests_walk {P = P} W {l} {s} is why h = each_walk W.moves _ _ (λ t q k. end_asked_walk W (why q.asked) q.asked k) (each_walk W.moves _ _ (λ t q k. end_asked_walk W (why q.asked) q.asked k) (W.moves.fewer l s is h))

let_connection_go_walk : {g : Setting} {P : List Owed → State → Type 0} (M : Moves g P) {l : List Owed} {s : State} (conn : ℕ) → P l s → P l (Endings.let_connection_go conn s)
let_connection_go_walk M {l} {s} conn h = each_walk M _ _ (λ t p k. let_go_walk M p t.parked (M.takes l t p k)) (M.closes l s conn h)

redial_walk : {g : Setting} {P : List Owed → State → Type 0} (M : Moves g P) {l : List Owed} {s : State} (peer : Uuid) (conn : ℕ) → P l s → P l (Endings.redial peer conn s)
unfolding Endings.redial Requests.dial
redial_walk {P = P} M {l} {s} peer conn h = if_walk M (is_some (connection_to closed peer) || state.is_dialling closed peer) kept (M.says l _ (Dial peer) refl (M.quiet l closed _ refl kept))
  where
    closed : State
    closed = say (Close conn) (Endings.let_connection_go conn (Endings.note_peer peer s))

    kept : P l closed
    kept = M.says l _ (Close conn) refl (let_connection_go_walk M {l = l} {s = Endings.note_peer peer s} conn (M.quiet l s _ refl h))

end_connection_walk : {g : Setting} {P : List Owed → State → Type 0} (W : Walks g P) {l : List Owed} {s : State} (why : Asked → ClassId) (conn : ℕ) → P l s → P l (Endings.end_connection g why conn s)
unfolding Endings.end_connection
end_connection_walk W {l} {s} why conn h = some_walk W.moves (connection_at s conn) _ h (λ c is. end_requests_walk W _ why (let_connection_go_walk W.moves {l = l} conn h))

close_walk : {g : Setting} {P : List Owed → State → Type 0} (W : Walks g P) {l : List Owed} {s : State} (class : ClassId) (conn : ℕ) → P l s → P l (Endings.close g class conn s)
unfolding Endings.close
close_walk W {l} class conn h = W.moves.says l _ (Close conn) refl (end_connection_walk W _ conn h)

-- ---- frames that come

say_hello_walk : {g : Setting} {P : List Owed → State → Type 0} (M : Moves g P) {l : List Owed} {s : State} (version conn : ℕ) → P l s → P l (Frames.say_hello g version conn s)
say_hello_walk {g} M {l} {s} version conn h = M.versions l (send Hellos conn (message.Hello version g.id g.digest) s) conn version (send_walk M Hellos conn (message.Hello version g.id g.digest) refl h)

first_walk : {g : Setting} {P : List Owed → State → Type 0} (W : Walks g P) {s : State} {e : Event} (c : Connection) (m : Message) → Begins g P s e → connection_at s c.number ≡ Some c → is_none c.peer ≡ true → P (brought c.number m) s → P [] (Frames.first_frame g c m s)
unfolding Frames.first_frame
first_walk {g} {P} W {s} c (message.Hello version space digest) B is shut h = some_walk W.moves c.dialled _
    (if_walk W.moves (bytes_eq digest g.digest && nat_le version g.version) (if_walk W.moves (nat_le 2 g.version) (say_hello_walk W.moves {l = []} _ c.number (B.greets c space is h)) (B.greets c space is h)) (close_walk W _ c.number h))
    (λ peer eq. if_walk W.moves (bytes_eq digest g.digest && bytes_eq space peer)
    (if_walk W.moves (version == c.version) (B.flushes c space peer is shut h) (if_walk W.moves (nat_le 2 c.version && version == 1) (redial_walk W.moves {l = []} peer c.number h) (close_walk W _ c.number h)))
    (close_walk W _ c.number h))
first_walk W c (message.Call number object method fuel arguments) B is shut h = close_walk W _ c.number (W.moves.falls [] _ _ h)
first_walk W c (message.Returned number fuel value) B is shut h = close_walk W _ c.number (W.moves.falls [] _ _ h)
first_walk W c (message.Threw number class) B is shut h = close_walk W _ c.number h
first_walk W c (message.Spent number) B is shut h = close_walk W _ c.number h
first_walk W c (message.Ack number) B is shut h = close_walk W _ c.number h
first_walk W c (message.Dirty sequence period objects) B is shut h = close_walk W _ c.number (W.moves.falls [] _ _ h)
first_walk W c (message.Lease sequence period) B is shut h = close_walk W _ c.number h
first_walk W c (message.Clean sequence strong objects) B is shut h = close_walk W _ c.number (W.moves.falls [] _ _ h)
first_walk W c (message.Cleaned sequence) B is shut h = close_walk W _ c.number h
first_walk W c (message.Lookup number name) B is shut h = close_walk W _ c.number (W.moves.falls [] _ _ h)

call_of_walk : {g : Setting} {P : List Owed → State → Type 0} (W : Walks g P) {l : List Owed} {s : State} (conn number : ℕ) (o : Object) (method fuel : ℕ) (arguments : List Value) → P (Owes CallReply conn number ∷ l) s → P l (Frames.call_of g conn number o method fuel arguments s)
call_of_walk {g} {P} W {l} {s} conn number o method fuel arguments h =
    if_walk W.moves (not (g.classes.may_call o.class method) || (not (fit_kinds (g.classes.parameters method) arguments) || list_any (Holders.is_refused g s) (references_of arguments))) (send_walk W.moves _ conn _ refl h)
    (if_walk W.moves (Frames.is_busy s) (send_walk W.moves _ conn _ refl h) (park_frame_walk W conn number _ _ h))

got_call_walk : {g : Setting} {P : List Owed → State → Type 0} (W : Walks g P) {l : List Owed} {s : State} (c : Connection) (number : ℕ) (target : ObjId) (method fuel : ℕ) (arguments : List Value) → P (Owes CallReply c.number number ∷ l) s → P l (Frames.got_call g c number target method fuel arguments s)
unfolding Frames.got_call
got_call_walk {g} {P} W {l} {s} c number target method fuel arguments h = if_walk W.moves (nat_le number c.last) (close_walk W _ c.number (W.moves.falls l s _ h)) (on (object_at s target))
  where
    on : (o : Option Object) → P l (Frames.call_on g c.number number o method fuel arguments (Frames.counted c.number number s))
    on None = send_walk W.moves _ c.number _ refl (W.moves.counts _ _ c.number number h)
    on (Some o) = call_of_walk W c.number number o method fuel arguments (W.moves.counts _ _ c.number number h)

found_walk : {g : Setting} {P : List Owed → State → Type 0} (M : Moves g P) {l : List Owed} {s : State} (conn number : ℕ) (o : Option Object) → P (Owes CallReply conn number ∷ l) s → P l (Frames.found g conn number o s)
found_walk M conn number None h = send_walk M _ conn _ refl h
found_walk {g} M conn number (Some o) h = send_walk M _ conn _ refl (keep_walk M (state.Acked conn number) (Some (values.Ref (record { space = g.id; id = o.id; class = o.class }))) h)

got_lookup_walk : {g : Setting} {P : List Owed → State → Type 0} (W : Walks g P) {l : List Owed} {s : State} (c : Connection) (number : ℕ) (name : List ℕ) → P (Owes CallReply c.number number ∷ l) s → P l (Frames.got_lookup g c number name s)
unfolding Frames.got_lookup
got_lookup_walk {P = P} W {l} {s} c number name h = if_walk W.moves (nat_le number c.last) (close_walk W _ c.number (W.moves.falls l s _ h)) (found_walk W.moves c.number number (Frames.object_of s (registry.lookup s.owner.names name)) (W.moves.counts _ _ c.number number h))

release_walk : {g : Setting} {P : List Owed → State → Type 0} (M : Moves g P) {l : List Owed} {s : State} (is : KeptResult → Bool) → P l s → P l (Frames.release g is s)
unfolding Frames.release
release_walk {P = P} M {l} {s} is h = each_walk M _ _ (λ t q k. drop_walk M _ k) (M.quiet l s _ refl h)

got_ack_walk : {g : Setting} {P : List Owed → State → Type 0} (W : Walks g P) {l : List Owed} {s : State} (c : Connection) (number : ℕ) → P l s → P l (Frames.got_ack g c number s)
unfolding Frames.got_ack
got_ack_walk {P = P} W {l} {s} c number h = if_walk W.moves (list_any (Frames.is_acked_by c.number number) s.results) (release_walk W.moves _ h) (close_walk W _ c.number h)

returned_walk : {g : Setting} {P : List Owed → State → Type 0} (W : Walks g P) {l : List Owed} {s : State} (c : Connection) (number fuel : ℕ) (value : Option Value) (asked : Asked) → P (Owes ResultAck c.number number ∷ l) s → P l (Frames.returned_for g c number fuel value asked s)
returned_walk {g} {P} W {l} {s} c number fuel value asked h = if_walk W.moves (not (Frames.fits_asked asked value fuel) || list_any (Holders.is_refused g s) (references_in value))
    (reply_to_walk W.moves asked (Throws g.classes.unmarshal) (send_walk W.moves _ c.number (message.Ack number) refl (W.moves.fewer _ s (ParkedFrames.is_call_on c.number number) h)))
    (park_frame_walk W c.number number _ _ (W.moves.answered _ s c.number number h))

-- a result that answers nothing is not acknowledged
came_result_walk : {g : Setting} {P : List Owed → State → Type 0} (W : Walks g P) {l : List Owed} {s : State} (c : Connection) (number fuel : ℕ) (value : Option Value) → P (Owes ResultAck c.number number ∷ l) s → P l (Frames.answered_by g c number (Frames.returned_for g c number fuel value) s)
unfolding Frames.answered_by
came_result_walk W {l} {s} c number fuel value h = some_walk W.moves (find (ParkedFrames.is_asked_on c.number number) s.requests) _ (close_walk W _ c.number (W.moves.falls l s _ h)) (λ q is. returned_walk W c number fuel value q.asked h)

answered_by_walk : {g : Setting} {P : List Owed → State → Type 0} (W : Walks g P) {l : List Owed} {s : State} (c : Connection) (number : ℕ) (next : Asked → State → State) → ((asked : Asked) → P l (next asked s)) → P l s → P l (Frames.answered_by g c number next s)
unfolding Frames.answered_by
answered_by_walk {P = P} W {l} {s} c number next k h = some_walk W.moves (find (ParkedFrames.is_asked_on c.number number) s.requests) _ (close_walk W _ c.number h) (λ q is. k q.asked)

ends_as_walk : {g : Setting} {P : List Owed → State → Type 0} (M : Moves g P) {l : List Owed} {s : State} (c : Connection) (number : ℕ) (reply : Asked → Reply) (asked : Asked) → P l s → P l (Frames.ends_as g c number reply asked s)
ends_as_walk M {l} {s} c number reply asked h = reply_to_walk M asked (reply asked) (M.fewer l s (ParkedFrames.is_call_on c.number number) h)

pub numbers-told : (refs : List ForeignId) (e : lease_events.Event) (h : List Told) → numbers_of (on_each refs e h) ≡ numbers_of h
numbers-told [] e h = refl
numbers-told (x ∷ refs) e h = numbers-told refs e (On x e ∷ h)

group_told_walk : {g : Setting} {P : List Owed → State → Type 0} (M : Moves g P) {l : List Owed} {s : State} (event : ℕ → lease_events.Event) (asked : Asked) → P l s → P l (Frames.group_told event asked s)
group_told_walk M event (Calls n task lent kind m) h = h
group_told_walk M event (LooksUp n task name) h = h
group_told_walk M {l} {s} event (Tells call group) h = M.quiet l s _ (ap (λ n. record { calls_made = s.calls_made; groups_made = s.groups_made; numbers = n; tasks = s.tasks; requests = s.requests; fresh = s.fresh; connections = s.connections; parked = s.parked; notes = s.notes })
    (numbers-told (client.references_at group.peer group.ids) (event call) s.leases)) h

told_by_walk : {g : Setting} {P : List Owed → State → Type 0} (W : Walks g P) {l : List Owed} {s : State} (c : Connection) (dirty : Bool) (sequence : ℕ) (event : ℕ → lease_events.Event) → P l s → P l (Frames.told_by g c dirty sequence event s)
unfolding Frames.told_by
told_by_walk {P = P} W {l} {s} c dirty sequence event h = some_walk W.moves (find (Frames.tells_on dirty c.number sequence) s.requests) _ (close_walk W _ c.number h) (λ q is. go_all_walk W (group_told_walk W.moves event q.asked (W.moves.fewer l s (Frames.tells_on dirty c.number sequence) h)))

got_walk : {g : Setting} {P : List Owed → State → Type 0} (W : Walks g P) {s : State} (c : Connection) (m : Message) → P (brought c.number m) s → P [] (Frames.got g c m s)
unfolding Frames.got Frames.got_dirty Frames.got_clean
got_walk W c (message.Hello version space digest) h = close_walk W _ c.number h
got_walk W c (message.Call number object method fuel arguments) h = got_call_walk W c number object method fuel arguments h
got_walk W c (message.Returned number fuel value) h = came_result_walk W c number fuel value h
got_walk {g} W c (message.Threw number class) h = answered_by_walk W c number _ (λ asked. ends_as_walk W.moves c number (λ a. Frames.thrown_reply g class) asked h) h
got_walk {g} W c (message.Spent number) h = answered_by_walk W c number _ (λ asked. ends_as_walk W.moves c number (Frames.spent_reply g) asked h) h
got_walk W c (message.Ack number) h = got_ack_walk W c number h
got_walk W {s} c (message.Dirty sequence period objects) h = if_walk W.moves (Frames.fit_frame c objects) (send_walk W.moves _ c.number _ refl (W.moves.quiet _ s _ refl h)) (close_walk W _ c.number (W.moves.falls [] _ _ h))
got_walk W c (message.Lease sequence period) h = told_by_walk W c true sequence (λ call. lease_events.DirtyAnswered call period) h
got_walk W {s} c (message.Clean sequence strong objects) h = if_walk W.moves (Frames.fit_frame c objects) (send_walk W.moves _ c.number _ refl (W.moves.quiet _ s _ refl h)) (close_walk W _ c.number (W.moves.falls [] _ _ h))
got_walk W c (message.Cleaned sequence) h = told_by_walk W c false sequence lease_events.CleanAnswered h
got_walk W c (message.Lookup number name) h = got_lookup_walk W c number name h

received_walk : {g : Setting} {P : List Owed → State → Type 0} (W : Walks g P) {s : State} {e : Event} (conn : ℕ) (c : Option Connection) (m : Message) → Begins g P s e → connection_at s conn ≡ c → P (brought conn m) s → P [] (OwnEvents.received_on g c m s)
unfolding Frames.receive
received_walk {P = P} W conn None m B is h = all_fall W.moves (brought conn m) (none (brought conn m) h)
  where
    none : {s : State} (os : List Owed) → P os s → P (os ++ []) s
    none {s} [] k = k
    none {s} (o ∷ os) k = subst (λ l. P l s) (sym (append-none (o ∷ os))) k
      where
        append-none : (l : List Owed) → l ++ [] ≡ l
        append-none [] = refl
        append-none (x ∷ xs) = ap (λ (l : List Owed). x ∷ l) (append-none xs)
received_walk {g} {P} W {s} conn (Some c) m B is h = came (subst (λ n. P (brought n m) s) (sym same) h) (subst (λ n. connection_at s n ≡ Some c) (sym same) is)
  where
    same : c.number ≡ conn
    same = eqb-true c.number conn (found-is (λ (d : Connection). d.number == conn) s.connections c is)

    closing : (n : Message) → P (brought c.number n) s → P [] s
    closing (message.Hello version space digest) k = k
    closing (message.Call number object method fuel arguments) k = W.moves.falls [] s _ k
    closing (message.Returned number fuel value) k = W.moves.falls [] s _ k
    closing (message.Threw number class) k = k
    closing (message.Spent number) k = k
    closing (message.Ack number) k = k
    closing (message.Dirty sequence period objects) k = W.moves.falls [] s _ k
    closing (message.Lease sequence period) k = k
    closing (message.Clean sequence strong objects) k = W.moves.falls [] s _ k
    closing (message.Cleaned sequence) k = k
    closing (message.Lookup number name) k = W.moves.falls [] s _ k

    came : P (brought c.number m) s → connection_at s c.number ≡ Some c → P [] (Frames.receive g c m s)
    came k there = pick (is_none c.peer) refl
      where
        pick : (b : Bool) → is_none c.peer ≡ b → P [] (if b then Frames.first_frame g c m s else (if Frames.is_wrong_way (Frames.is_asking m) (is_some c.dialled) then Endings.close g g.classes.unmarshal c.number s else Frames.got g c m s))
        pick true shut = first_walk W c m B there shut k
        pick false shut = if_walk W.moves (Frames.is_wrong_way (Frames.is_asking m) (is_some c.dialled)) (close_walk W _ c.number (closing m k)) (got_walk W c m k)

-- ---- own events

moment_walk : {g : Setting} {P : List Owed → State → Type 0} (M : Moves g P) {l : List Owed} {s : State} (moment : ℕ) → P l s → P l (OwnEvents.on_moment g moment s)
unfolding OwnEvents.on_moment
moment_walk {P = P} M {l} {s} moment h = if_walk M (nat_lt moment s.moment) h (release_walk M _ (M.quiet l s _ refl h))

sweep_walk : {g : Setting} {P : List Owed → State → Type 0} (M : Moves g P) {l : List Owed} {s : State} → P l s → P l (OwnEvents.on_sweep g s)
unfolding OwnEvents.on_sweep
sweep_walk {g} {P} M {l} {s} h = sweeps (OwnEvents.without_reason g s)
  where
    sweeps : (gone : List Object) → P l (OwnEvents.sweep_of g s gone)
    sweeps [] = h
    sweeps (o ∷ os) = M.says l _ _ refl (each_walk M _ (o ∷ os) (λ t p k. drop_walk M _ k) (each_walk M _ _ (λ t id k. M.quiet l t _ refl k) (M.quiet l s _ refl h)))

names_walk : {g : Setting} {P : List Owed → State → Type 0} (M : Moves g P) {l : List Owed} {s : State} (x : Result (List Binding) RegistryFault) → P l s → P l (OwnEvents.set_names x s)
unfolding OwnEvents.set_names
names_walk M {l} {s} (Ok names) h = M.quiet l s _ refl h
names_walk M {l} {s} (Err why) h = M.says l s _ refl h

lookup_walk : {g : Setting} {P : List Owed → State → Type 0} (M : Moves g P) {s : State} {e : Event} (peer : Uuid) (name : List ℕ) → e ≡ Lookup peer name → Begins g P s e → P [] s → P [] (OwnEvents.on_lookup g peer name s)
unfolding OwnEvents.on_lookup
lookup_walk {P = P} M {s} peer name same B h = if_walk M (is_name name) (M.says [] _ _ refl (B.looks peer name same h)) (M.says [] s _ refl h)

opened_walk : {g : Setting} {P : List Owed → State → Type 0} (M : Moves g P) {s : State} {e : Event} (conn : ℕ) (dialled : Option Uuid) → e ≡ Opened conn dialled → Begins g P s e → P [] s → P [] (OwnEvents.on_opened g conn dialled s)
unfolding OwnEvents.on_opened
opened_walk {g} M conn None same B h = if_walk M (nat_le 2 g.version) (B.opens conn None same h) (say_hello_walk M {l = []} 1 conn (B.opens conn None same h))
opened_walk M {s} conn (Some peer) same B h = say_hello_walk M {l = []} {s = OwnEvents.dialled_no_more (Some peer) (OwnEvents.add_connection conn (Some peer) s)} _ conn (M.quiet [] _ _ refl (B.opens conn (Some peer) same h))

refused_walk : {g : Setting} {P : List Owed → State → Type 0} (W : Walks g P) {l : List Owed} {s : State} (peer : Uuid) → P l s → P l (OwnEvents.on_refused g peer s)
unfolding OwnEvents.on_refused
refused_walk W {l} {s} peer h = end_requests_walk W (Requests.waits_for peer) _ (W.moves.quiet l s _ refl h)

-- ---- events

-- what the moves keep, an event keeps up to its end
pub happen_walk : {g : Setting} {P : List Owed → State → Type 0} (W : Walks g P) {s : State} (e : Event) → Begins g P s e → P (owed_by e) s → P [] (Space.happen g e s)
unfolding Space.happen Endings.fail_write
happen_walk W (Moment moment) B h = moment_walk W.moves moment h
happen_walk W Sweep B h = sweep_walk W.moves h
happen_walk W (Root method arguments fuel) B h = add_task_walk W.moves OfRoot method arguments fuel h
happen_walk W (RootAck task) B h = release_walk W.moves _ h
happen_walk W (Bind name value) B h = names_walk W.moves _ h
happen_walk W (Rebind name value) B h = names_walk W.moves _ h
happen_walk W (Unbind name) B h = names_walk W.moves _ h
happen_walk W (Lookup peer name) B h = lookup_walk W.moves peer name refl B h
happen_walk W (Opened conn dialled) B h = opened_walk W.moves conn dialled refl B h
happen_walk W (Refused peer) B h = refused_walk W peer h
happen_walk W {s} (Received conn m) B h = received_walk W conn (connection_at s conn) m B refl h
happen_walk W (Closed conn) B h = end_connection_walk W _ conn h
happen_walk W (ReadFailed conn) B h = end_connection_walk W _ conn h
happen_walk W (Bad conn) B h = end_connection_walk W _ conn h
happen_walk W (WriteFailed conn lost) B h = end_connection_walk W _ conn h
happen_walk W (Committed task k op) B h = commit_walk W.moves task k op h
happen_walk W (Parked task k) B h = park_walk W.moves task k refl B h
happen_walk W (GivenBack task k) B h = give_back_walk W.moves task k h
happen_walk W (Finished task k) B h = finish_walk W.moves task k h
