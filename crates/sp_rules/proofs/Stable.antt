-- What most rules of a space leave alone. If a property looks at the objects, tasks, names and entries of a space alone, and the few
-- changes of those parts keep it, each rule keeps it.
use mathlib.Core.Path.{ap}
use Rattle.std.specs.Prelude.{◌≡◌, refl, ℕ, ◌+◌, ◌==◌, not, ◌||◌, ◌&&◌, nat_le, nat_lt, is_none, is_some, Bool, true, false, List, [], ◌∷◌, ◌++◌, Option, None, Some, Result, Ok, Err, filter, find, if◌then◌else◌}
use Rattle.std.specs.List.{list_any}
use Rattle.space_ids.specs.declared.ids.ClassId.{ClassId}
use Rattle.dgc_client.specs.History as lease_events
use Rattle.dgc_client.specs.declared.groups.Group.{Group}
use Rattle.dgc_client.specs.declared.lease.Due.{Due}
use Rattle.dgc_client.specs.declared.lease.Due.TheVariants as due
use Rattle.space_ids.specs.declared.ids.ForeignId.{ForeignId}
use Rattle.dgc_list.specs.History as owner
use Rattle.net_message.specs.declared.message.Message.{Message}
use Rattle.net_message.specs.declared.message.Message.TheVariants as message
use Rattle.sp_registry.specs.Bindings as registry
use Rattle.sp_registry.specs.declared.fault.RegistryFault.{RegistryFault}
use Rattle.sp_registry.specs.declared.registry.Binding.{Binding}
use Rattle.uuid.specs.declared.Uuid.{Uuid}
use Rattle.space_ids.specs.declared.ids.ObjId.{ObjId}
use Rattle.space_ids.specs.declared.ids.Ref.{Ref}
use Rattle.space_ids.specs.declared.value.Value.{Value}
use Rattle.space_ids.specs.declared.value.Value.TheVariants as values
use Rattle.sp_rules.specs.Behaviours.{Outcome, Returned, Threw, Spent, Op, Create, Get, Put, Call, Reply}
use Rattle.sp_rules.specs.Classes
use Rattle.sp_rules.specs.Classes.{Setting}
use Rattle.sp_rules.specs.Endings
use Rattle.sp_rules.specs.Events.{Event, Moment, Sweep, Root, RootAck, Bind, Rebind, Unbind, Lookup, Opened, Refused, Received, Closed, ReadFailed, Bad, WriteFailed, Committed, Parked, GivenBack, Finished, Output, Started, Ended, Withdrawn, Denied, Send, Dial, Close, Ready, Turn}
use Rattle.sp_rules.specs.Frames
use Rattle.sp_rules.specs.Holders
use Rattle.sp_rules.specs.Holders.{hold_ids, drop_ids}
use Rattle.sp_rules.specs.Laws.{tells_owner, leaves_owner, is_naming, is_sweep}
use Rattle.sp_rules.specs.Lists.{each, with_some}
use Rattle.sp_rules.specs.LivingTasks
use Rattle.sp_rules.specs.OwnEvents
use Rattle.sp_rules.specs.ParkedFrames
use Rattle.sp_rules.specs.References.{references_of, foreign_ids}
use Rattle.sp_rules.specs.Requests
use Rattle.sp_rules.specs.Space
use Rattle.sp_rules.specs.State
use Rattle.sp_rules.specs.State.{State, Living, Beginning, Origin, OfRoot, OfCall, Until, Request, Asked, Calls, LooksUp, Tells, Connection, Frame, CallFrame, ReturnedFrame, ParkedFrame, Owner, Stored, Made, Written, Gone, task_at, ready_at, set_task, set_connection, tell_owner, send, is_open, object_at, connection_at, connection_to}
use Rattle.sp_rules.specs.Tasks.{Stand, Runs, AsksFor, HasEnded, start, stand, steps}

-- ---- the parts that a property may look at

pub record Core : Type 0 where
  pub objects_made : ℕ
  pub tasks_made : ℕ
  pub store : List Stored
  pub owner : Owner
  pub tasks : List Living

abbrev pub core_of : State → Core
core_of s = record { objects_made = s.objects_made; tasks_made = s.tasks_made; store = s.store; owner = s.owner; tasks = s.tasks }

-- the row of a task that begins
abbrev pub new_row : Setting → Origin → ℕ → List Value → ℕ → State → Living
new_row g origin method arguments fuel s = record {
  id = s.tasks_made + 1;
  origin = origin;
  waits = false;
  task = start g method arguments fuel;
  began = record { method = method; arguments = arguments; fuel = fuel };
  given = [];
  steps = 0;
}

-- a property that looks at those parts alone
pub record IsFramed (P : State → Type 0) : Type 0 where
  pub frame : (s t : State) → core_of t ≡ core_of s → P s → P t

-- A property is stable if it looks at those parts alone, and tasks that begin, go on and end, and objects that are made and written, keep
-- it.
pub record IsStable (g : Setting) (P : State → Type 0) : Type 0 where
  pub framed : IsFramed P
  pub begins : (s : State) (origin : Origin) (method : ℕ) (arguments : List Value) (fuel : ℕ) → P s
      → P (record s { tasks_made = s.tasks_made + 1; tasks = s.tasks ++ new_row g origin method arguments fuel s ∷ [] })
  pub counts : (s : State) → P s → P (record s { tasks_made = s.tasks_made + 1 })
  pub ends : (s : State) (id : ℕ) → P s → P (record s { tasks = filter (λ (u : Living). not (u.id == id)) s.tasks })
  pub replies : (s : State) (id : ℕ) (t : Living) (reply : Reply) → task_at s id ≡ Some t → P s → P (set_task (LivingTasks.after_reply g reply) id s)
  pub commits : (s : State) (id k : ℕ) (t : Living) (reply : Reply) → ready_at s id ≡ Some t → P s
      → P (set_task (λ (u : Living). LivingTasks.after_reply g reply (LivingTasks.after_steps k u)) id s)
  pub waits : (s : State) (id k : ℕ) (t : Living) → ready_at s id ≡ Some t → P s → P (set_task (LivingTasks.waiting k) id s)
  pub goes_on : (s : State) (id k : ℕ) (t : Living) → ready_at s id ≡ Some t → P s → P (set_task (LivingTasks.after_steps k) id s)
  pub makes : (s : State) (class : ClassId) → P s → P (record s { objects_made = s.objects_made + 1; store = Made (LivingTasks.next_object s) class ∷ s.store })
  pub writes : (s : State) (id : ObjId) (slot : ℕ) (value : Value) → P s → P (record s { store = Written id slot value ∷ s.store })

-- what clients tell of the owner's objects keeps it
pub record AllowsTelling (P : State → Type 0) : Type 0 where
  pub told : (s : State) (call : owner.Call) → P s → P (tell_owner call s)

-- changes of names keep it
pub record AllowsNaming (P : State → Type 0) : Type 0 where
  pub named : (s : State) (names : List Binding) → P s → P (record s { owner = record s.owner { names = names } })

-- objects that are withdrawn keep it
pub record AllowsWithdrawal (P : State → Type 0) : Type 0 where
  pub gone : (s : State) (ids : List ObjId) → P s → P (record s { store = Gone ids ∷ s.store })

-- ---- small steps

if_keeps : {P : State → Type 0} (F : IsFramed P) {t u : State} (b : Bool) → P t → P u → P (if b then t else u)
if_keeps F true e f = e
if_keeps F false e f = f

some_keeps : {P : State → Type 0} (F : IsFramed P) {A : Type 0} {t : State} (x : Option A) (f : A → State)
    → P t → ((a : A) → x ≡ Some a → P (f a)) → P (with_some x t f)
some_keeps F None f e h = e
some_keeps F (Some a) f e h = h a refl

pub each_keeps : {P : State → Type 0} (F : IsFramed P) {A : Type 0} {s : State} (f : State → A → State) (xs : List A)
    → ((t : State) (x : A) → P t → P (f t x)) → P s → P (each f xs s)
unfolding each
each_keeps F f [] h e = e
each_keeps F {s = s} f (x ∷ xs) h e = each_keeps F f xs h (h s x e)

pub send_keeps : {P : State → Type 0} (F : IsFramed P) {s : State} (turn : Turn) (conn : ℕ) (m : Message) → P s → P (send turn conn m s)
unfolding send
send_keeps F {s = s} turn conn m e = if_keeps F (is_open s conn) (F.frame s _ refl e) e

pub hold_keeps : {P : State → Type 0} (F : IsFramed P) {s : State} (ids : List ForeignId) → P s → P (hold_ids ids s)
unfolding hold_ids
hold_keeps F ids e = each_keeps F Holders.holder_comes ids (λ t x h. F.frame t _ refl h) e

pub drop_keeps : {P : State → Type 0} (F : IsFramed P) {s : State} (ids : List ForeignId) → P s → P (drop_ids ids s)
unfolding drop_ids
drop_keeps F ids e = each_keeps F Holders.holder_goes ids (λ t x h. F.frame t _ refl h) e

let_go_keeps : {P : State → Type 0} (F : IsFramed P) {s : State} (p : ParkedFrame) (parked : List ParkedFrame) → P s → P (ParkedFrames.let_go_parked p parked s)
let_go_keeps F p parked e = each_keeps F _ (filter (ParkedFrames.is_parked_at p.conn p.number) parked) (λ t q h. drop_keeps F q.references h) e

-- ---- requests

part_keeps : {P : State → Type 0} (F : IsFramed P) {s : State} (turn : Turn) (conn call : ℕ) (part : Group)
    → P s → P (Requests.part_goes_out turn conn call s part)
unfolding Requests.part_goes_out
part_keeps F {s = s} turn conn call part e = send_keeps F turn conn _ (F.frame s _ refl e)

go_out_keeps : {P : State → Type 0} (F : IsFramed P) {s : State} (turn : Turn) (conn : ℕ) (q : Request) → P s → P (Requests.go_out turn conn q s)
unfolding Requests.go_out
go_out_keeps {P = P} F {s = s} turn conn q e = goes q.asked
  where
    goes : (a : Asked) → P (Requests.goes_out turn conn q.peer a s)
    goes (Calls number task lent kind m) = send_keeps F turn conn m (F.frame s _ refl e)
    goes (LooksUp number task name) = send_keeps F turn conn _ (F.frame s _ refl e)
    goes (Tells call group) = each_keeps F _ _ (λ t part h. part_keeps F turn conn call part h) e

dial_keeps : {P : State → Type 0} (F : IsFramed P) {s : State} (peer : Uuid) → P s → P (Requests.dial peer s)
unfolding Requests.dial
dial_keeps F {s = s} peer e = if_keeps F (is_some (connection_to s peer) || State.is_dialling s peer) e (F.frame s _ refl e)

ask_keeps : {P : State → Type 0} (F : IsFramed P) {s : State} (q : Request) → P s → P (Requests.ask s q)
unfolding Requests.ask
ask_keeps F {s = s} q e = some_keeps F (Requests.hello_came (connection_to s q.peer)) _ (dial_keeps F q.peer (F.frame s _ refl e)) (λ conn is. go_out_keeps F _ conn q e)

flush_keeps : {P : State → Type 0} (F : IsFramed P) {s : State} (peer : Uuid) (conn : ℕ) → P s → P (Requests.flush_waiting peer conn s)
unfolding Requests.flush_waiting
flush_keeps F {s = s} peer conn e = each_keeps F _ _ (λ t r h. go_out_keeps F _ conn r h) (F.frame s _ refl e)

make_group_keeps : {P : State → Type 0} (F : IsFramed P) {s : State} (b : Group) → P s → P (Requests.make_group s b)
unfolding Requests.make_group
make_group_keeps F {s = s} b e = ask_keeps F _ (F.frame s _ refl e)

make_due_keeps : {P : State → Type 0} (F : IsFramed P) {s : State} → P s → P (Requests.make_due s)
unfolding Requests.make_due
make_due_keeps F e = each_keeps F _ _ (λ t b h. make_group_keeps F b h) e

ask_fresh_keeps : {P : State → Type 0} (F : IsFramed P) {s : State} → P s → P (Requests.ask_fresh s)
unfolding Requests.ask_fresh
ask_fresh_keeps F {s = s} e = each_keeps F _ _ (λ t q h. ask_keeps F q h) (F.frame s _ refl e)

pub settle_keeps : {P : State → Type 0} (F : IsFramed P) {s : State} → P s → P (Requests.settle s)
unfolding Requests.settle
settle_keeps F e = ask_fresh_keeps F (make_due_keeps F e)

-- ---- tasks

add_task_keeps : {g : Setting} {P : State → Type 0} (S : IsStable g P) {s : State} (origin : Origin) (method : ℕ) (arguments : List Value) (fuel : ℕ)
    → P s → P (LivingTasks.add_task g origin method arguments fuel s)
unfolding LivingTasks.add_task
add_task_keeps {g} S {s = s} origin method arguments fuel e =
    S.framed.frame _ _ refl (hold_keeps S.framed (foreign_ids g.id (start g method arguments fuel).held) (S.framed.frame _ _ refl (S.begins s origin method arguments fuel e)))

keep_keeps : {g : Setting} {P : State → Type 0} (S : IsStable g P) {s : State} (until : Until) (value : Option Value) → P s → P (LivingTasks.keep g until value s)
keep_keeps S {s = s} until value e = hold_keeps S.framed _ (S.framed.frame s _ refl e)

keep_result_keeps : {g : Setting} {P : State → Type 0} (S : IsStable g P) {s : State} (until : Until) (outcome : Outcome) → P s → P (LivingTasks.keep_result g until outcome s)
keep_result_keeps S until (Returned value) e = keep_keeps S until value e
keep_result_keeps S until (Threw class) e = e
keep_result_keeps S until Spent e = e

report_keeps : {g : Setting} {P : State → Type 0} (S : IsStable g P) {s : State} (origin : Origin) (id fuel : ℕ) (outcome : Outcome) → P s → P (LivingTasks.report g origin id fuel outcome s)
report_keeps S OfRoot id fuel outcome e = keep_result_keeps S _ outcome e
report_keeps S {s = s} (OfCall conn number) id fuel outcome e = if_keeps S.framed (is_open s conn) (send_keeps S.framed _ conn _ (keep_result_keeps S _ outcome e)) e

end_with_keeps : {g : Setting} {P : State → Type 0} (S : IsStable g P) {s : State} (id : ℕ) (t : Living) (outcome : Outcome) → P s → P (LivingTasks.end_with g id t outcome s)
end_with_keeps S {s = s} id t outcome e = drop_keeps S.framed _ (report_keeps S t.origin id t.task.fuel outcome (S.framed.frame _ _ refl (S.ends s id e)))

reply_task_keeps : {g : Setting} {P : State → Type 0} (S : IsStable g P) {s : State} (id : ℕ) (reply : Reply) → P s → P (LivingTasks.reply_task g id reply s)
unfolding LivingTasks.reply_task
reply_task_keeps S {s = s} id reply e = some_keeps S.framed (task_at s id) _ e (λ t is. S.framed.frame _ _ refl (hold_keeps S.framed _ (S.replies s id t reply is e)))

reply_to_keeps : {g : Setting} {P : State → Type 0} (S : IsStable g P) {s : State} (asked : Asked) (reply : Reply) → P s → P (LivingTasks.reply_to g asked reply s)
unfolding LivingTasks.reply_to
reply_to_keeps S (Calls number task lent kind m) reply e = reply_task_keeps S task reply e
reply_to_keeps S {s = s} (LooksUp number task name) reply e = keep_result_keeps S (State.RootAcked task) (LivingTasks.outcome_of reply) (S.framed.frame s _ refl e)
reply_to_keeps S (Tells call group) reply e = e

after_op_keeps : {g : Setting} {P : State → Type 0} (S : IsStable g P) {s : State} (op : Op) → P s → P (LivingTasks.after_op g op s)
unfolding LivingTasks.after_op
after_op_keeps S {s = s} (Create class) e = if_keeps S.framed (LivingTasks.is_full s) e (S.makes s class e)
after_op_keeps S (Get id slot) e = e
after_op_keeps S {s = s} (Put id slot value) e = drop_keeps S.framed _ (hold_keeps S.framed _ (S.writes s id slot value e))
after_op_keeps S (Call target method arguments) e = e

commit_keeps : {g : Setting} {P : State → Type 0} (S : IsStable g P) {s : State} (id k : ℕ) (op : Op) → P s → P (LivingTasks.commit g id k op s)
unfolding LivingTasks.commit
commit_keeps {g} S {s = s} id k op e = some_keeps S.framed (ready_at s id) _ e (λ t is. after_op_keeps S op (hold_keeps S.framed _ (S.commits s id k t (LivingTasks.op_reply g op s) is e)))

park_keeps : {g : Setting} {P : State → Type 0} (S : IsStable g P) {s : State} (id k : ℕ) → P s → P (LivingTasks.park_call g id k s)
unfolding LivingTasks.park_call
park_keeps {g} {P} S {s = s} id k e = some_keeps S.framed (ready_at s id) _ e (λ t is. at t is (stand (steps k t.task)))
  where
    parks : (t : Living) → ready_at s id ≡ Some t → (op : Op) → P (LivingTasks.park_op g id k t op s)
    parks t is (Create class) = e
    parks t is (Get o slot) = e
    parks t is (Put o slot value) = e
    parks t is (Call target method arguments) = S.framed.frame _ _ refl (S.waits s id k t is e)

    at : (t : Living) → ready_at s id ≡ Some t → (stands : Stand) → P (LivingTasks.park_at g id k t stands s)
    at t is Runs = e
    at t is (AsksFor op) = parks t is op
    at t is (HasEnded outcome) = e

give_back_keeps : {g : Setting} {P : State → Type 0} (S : IsStable g P) {s : State} (id k : ℕ) → P s → P (LivingTasks.give_back id k s)
unfolding LivingTasks.give_back
give_back_keeps S {s = s} id k e = some_keeps S.framed (ready_at s id) _ e (λ t is. S.goes_on s id k t is e)

finish_keeps : {g : Setting} {P : State → Type 0} (S : IsStable g P) {s : State} (id k : ℕ) → P s → P (LivingTasks.finish_task g id k s)
unfolding LivingTasks.finish_task
finish_keeps {g} {P} S {s = s} id k e = some_keeps S.framed (ready_at s id) _ e (λ t is. at (LivingTasks.after_steps k t) (stand (steps k t.task)))
  where
    at : (t : Living) (stands : Stand) → P (LivingTasks.end_at g id t stands s)
    at t Runs = e
    at t (AsksFor op) = e
    at t (HasEnded outcome) = end_with_keeps S id t outcome e

-- ---- parked frames

answer_threw_keeps : {g : Setting} {P : State → Type 0} (S : IsStable g P) {s : State} (conn number : ℕ) (class : ClassId) → P s → P (ParkedFrames.answer_threw conn number class s)
answer_threw_keeps S conn number class e = send_keeps S.framed _ conn _ e

start_call_keeps : {g : Setting} {P : State → Type 0} (S : IsStable g P) {s : State} (p : ParkedFrame) (target : ObjId) (method fuel : ℕ) (arguments : List Value)
    → P s → P (ParkedFrames.start_call g p target method fuel arguments s)
unfolding ParkedFrames.start_call
start_call_keeps {g} {P} S {s = s} p target method fuel arguments e = some_keeps S.framed (object_at s target) _ e (λ o is. selected _ (g.classes.selected o.class method))
  where
    selected : (receiver : Ref) (found : Option ℕ) → P (ParkedFrames.start_selected g p.conn p.number receiver found fuel arguments s)
    selected receiver None = answer_threw_keeps S p.conn p.number _ e
    selected receiver (Some m) = add_task_keeps S _ m _ fuel e

answer_parked_keeps : {g : Setting} {P : State → Type 0} (S : IsStable g P) {s : State} (p : ParkedFrame) (reply : Reply) → P s → P (ParkedFrames.answer_parked g p reply s)
unfolding ParkedFrames.answer_parked
answer_parked_keeps S {s = s} p reply e = some_keeps S.framed (find (ParkedFrames.is_call_on p.conn p.number) s.requests) _ e (λ r is.
    reply_to_keeps S r.asked reply (send_keeps S.framed _ p.conn _ (S.framed.frame s _ refl e)))

go_keeps : {g : Setting} {P : State → Type 0} (S : IsStable g P) {s : State} (p : ParkedFrame) → P s → P (ParkedFrames.go g s p)
unfolding ParkedFrames.go
go_keeps {g} {P} S {s = s} p e = some_keeps S.framed (find (ParkedFrames.is_parked_at p.conn p.number) s.parked) _ e (λ q is. let_go_keeps S.framed p s.parked (frame q q.frame (S.framed.frame s _ refl e)))
  where
    frame : (q : ParkedFrame) (f : Frame) {t : State} → P t → P (ParkedFrames.go_frame g q f t)
    frame q (CallFrame target method fuel arguments) h = start_call_keeps S q target method fuel arguments h
    frame q (ReturnedFrame value fuel) h = answer_parked_keeps S q _ h

go_all_keeps : {g : Setting} {P : State → Type 0} (S : IsStable g P) {s : State} → P s → P (ParkedFrames.go_all g s)
unfolding ParkedFrames.go_all
go_all_keeps S e = each_keeps S.framed _ _ (λ t p h. go_keeps S p h) e

park_frame_keeps : {g : Setting} {P : State → Type 0} (S : IsStable g P) {s : State} (conn number : ℕ) (f : Frame) (references : List ForeignId)
    → P s → P (ParkedFrames.park_frame g conn number f references s)
unfolding ParkedFrames.park_frame
park_frame_keeps S {s = s} conn number f references e = go_all_keeps S (hold_keeps S.framed references (S.framed.frame s _ refl e))

fail_parked_keeps : {g : Setting} {P : State → Type 0} (S : IsStable g P) {s : State} (p : ParkedFrame) → P s → P (ParkedFrames.fail_parked g s p)
unfolding ParkedFrames.fail_parked
fail_parked_keeps {g} {P} S {s = s} p e = frame p.frame (let_go_keeps S.framed p s.parked (S.framed.frame s _ refl e))
  where
    frame : (f : Frame) {t : State} → P t → P (ParkedFrames.fail_frame g p f t)
    frame (CallFrame target method fuel arguments) h = answer_threw_keeps S p.conn p.number _ h
    frame (ReturnedFrame value fuel) h = answer_parked_keeps S p _ h

-- ---- endings

fail_dirty_keeps : {g : Setting} {P : State → Type 0} (S : IsStable g P) {s : State} (call : ℕ) (id : ForeignId) → P s → P (Endings.fail_dirty g call s id)
unfolding Endings.fail_dirty
fail_dirty_keeps S {s = s} call id e = if_keeps S.framed (Rattle.dgc_client.specs.Lease.is_made (Holders.lease_now s id).dirty call && is_none (Holders.lease_now s id).lease) (each_keeps S.framed _ (filter (ParkedFrames.names id) s.parked) (λ t p h. fail_parked_keeps S p h) (S.framed.frame s _ refl e)) (S.framed.frame s _ refl e)

fail_group_keeps : {g : Setting} {P : State → Type 0} (S : IsStable g P) {s : State} (kind : Due) (b : Group) (call : ℕ) → P s → P (Endings.fail_group g kind b call s)
fail_group_keeps S due.Dirty b call e = each_keeps S.framed _ _ (λ t x h. fail_dirty_keeps S call x h) e
fail_group_keeps S (due.Clean strong) b call e = each_keeps S.framed _ _ (λ t x h. S.framed.frame t _ refl h) e

end_asked_keeps : {g : Setting} {P : State → Type 0} (S : IsStable g P) {s : State} (class : ClassId) (asked : Asked) → P s → P (Endings.end_asked g class asked s)
end_asked_keeps S class (Calls number task lent kind m) e = reply_to_keeps S (Calls number task lent kind m) _ e
end_asked_keeps S class (LooksUp number task name) e = reply_to_keeps S (LooksUp number task name) _ e
end_asked_keeps S class (Tells call group) e = fail_group_keeps S group.kind group call e

end_requests_keeps : {g : Setting} {P : State → Type 0} (S : IsStable g P) {s : State} (is : Request → Bool) (why : Asked → ClassId) → P s → P (Endings.end_requests g is why s)
unfolding Endings.end_requests
end_requests_keeps S {s = s} is why e =
    each_keeps S.framed _ _ (λ t q h. end_asked_keeps S (why q.asked) q.asked h)
    (each_keeps S.framed _ _ (λ t q h. end_asked_keeps S (why q.asked) q.asked h) (S.framed.frame s _ refl e))

let_connection_go_keeps : {P : State → Type 0} (F : IsFramed P) {s : State} (conn : ℕ) → P s → P (Endings.let_connection_go conn s)
let_connection_go_keeps F {s = s} conn e = each_keeps F _ _ (λ t p h. let_go_keeps F p t.parked (F.frame t _ refl h)) (F.frame s _ refl e)

end_connection_keeps : {g : Setting} {P : State → Type 0} (S : IsStable g P) {s : State} (why : Asked → ClassId) (conn : ℕ) → P s → P (Endings.end_connection g why conn s)
unfolding Endings.end_connection
end_connection_keeps S {s = s} why conn e = some_keeps S.framed (connection_at s conn) _ e (λ c is. end_requests_keeps S _ why (let_connection_go_keeps S.framed conn e))

pub close_keeps : {g : Setting} {P : State → Type 0} (S : IsStable g P) {s : State} (class : ClassId) (conn : ℕ) → P s → P (Endings.close g class conn s)
unfolding Endings.close
close_keeps S class conn e = S.framed.frame _ _ refl (end_connection_keeps S (λ asked. class) conn e)

fail_write_keeps : {g : Setting} {P : State → Type 0} (S : IsStable g P) {s : State} (conn unsent : ℕ) → P s → P (Endings.fail_write g conn unsent s)
unfolding Endings.fail_write
fail_write_keeps S conn unsent e = end_connection_keeps S _ conn e

redial_keeps : {P : State → Type 0} (F : IsFramed P) {s : State} (peer : Uuid) (conn : ℕ) → P s → P (Endings.redial peer conn s)
unfolding Endings.redial
redial_keeps F {s = s} peer conn e = dial_keeps F peer (F.frame _ _ refl (let_connection_go_keeps F conn (F.frame s _ refl e)))

-- ---- frames

say_hello_keeps : {P : State → Type 0} (F : IsFramed P) {s : State} (g : Setting) (version conn : ℕ) → P s → P (Frames.say_hello g version conn s)
say_hello_keeps F g version conn e = F.frame _ _ refl (send_keeps F Rattle.sp_rules.specs.Events.Hellos conn (message.Hello version g.id g.digest) e)

pub first_frame_keeps : {g : Setting} {P : State → Type 0} (S : IsStable g P) {s : State} (c : Connection) (m : Message) → P s → P (Frames.first_frame g c m s)
unfolding Frames.first_frame
first_frame_keeps {g} {P} S {s = s} c (message.Hello version space digest) e = some_keeps S.framed c.dialled _ (if_keeps S.framed _ answers (close_keeps S _ c.number e))
    (λ peer is. if_keeps S.framed _ (answered peer) (close_keeps S _ c.number e))
  where
    known : P (Frames.greeted space c.number s)
    known = S.framed.frame s _ refl e

    answers : P (Frames.answer_hello g version c.number (Frames.greeted space c.number s))
    answers = if_keeps S.framed (nat_le 2 g.version) (say_hello_keeps S.framed g _ c.number known) known

    answered : (peer : Uuid) → P (Frames.answered_hello g c peer version space s)
    answered peer = if_keeps S.framed (version == c.version) (flush_keeps S.framed peer c.number known)
        (if_keeps S.framed (nat_le 2 c.version && version == 1) (redial_keeps S.framed peer c.number e) (close_keeps S _ c.number e))
first_frame_keeps S c _ e = close_keeps S _ c.number e

pub release_keeps : {g : Setting} {P : State → Type 0} (S : IsStable g P) {s : State} (is : State.KeptResult → Bool) → P s → P (Frames.release g is s)
unfolding Frames.release
release_keeps S {s = s} is e = each_keeps S.framed _ _ (λ t r h. drop_keeps S.framed _ h) (S.framed.frame s _ refl e)

call_of_keeps : {g : Setting} {P : State → Type 0} (S : IsStable g P) {s : State} (conn number : ℕ) (o : State.Object) (method fuel : ℕ) (arguments : List Value)
    → P s → P (Frames.call_of g conn number o method fuel arguments s)
call_of_keeps {g} S {s = s} conn number o method fuel arguments e =
    if_keeps S.framed (not (g.classes.may_call o.class method) || (not (Classes.fit_kinds (g.classes.parameters method) arguments)
    || list_any (Holders.is_refused g s) (references_of arguments)))
    (answer_threw_keeps S conn number g.classes.unmarshal e)
    (if_keeps S.framed (Frames.is_busy s) (answer_threw_keeps S conn number g.classes.server_error e)
    (park_frame_keeps S conn number (CallFrame o.id method fuel arguments) _ e))

got_call_keeps : {g : Setting} {P : State → Type 0} (S : IsStable g P) {s : State} (c : Connection) (number : ℕ) (target : ObjId) (method fuel : ℕ) (arguments : List Value)
    → P s → P (Frames.got_call g c number target method fuel arguments s)
unfolding Frames.got_call
got_call_keeps {g} {P} S {s = s} c number target method fuel arguments e = if_keeps S.framed (nat_le number c.last) (close_keeps S _ c.number e) (on (object_at s target))
  where
    on : (o : Option State.Object) → P (Frames.call_on g c.number number o method fuel arguments (Frames.counted c.number number s))
    on None = answer_threw_keeps S c.number number _ (S.framed.frame s _ refl e)
    on (Some o) = call_of_keeps S c.number number o method fuel arguments (S.framed.frame s _ refl e)

got_lookup_keeps : {g : Setting} {P : State → Type 0} (S : IsStable g P) {s : State} (c : Connection) (number : ℕ) (name : List ℕ) → P s → P (Frames.got_lookup g c number name s)
unfolding Frames.got_lookup
got_lookup_keeps {g} {P} S {s = s} c number name e = if_keeps S.framed (nat_le number c.last) (close_keeps S _ c.number e) (on (Frames.object_of s (registry.lookup s.owner.names name)))
  where
    on : (o : Option State.Object) → P (Frames.found g c.number number o (Frames.counted c.number number s))
    on None = answer_threw_keeps S c.number number _ (S.framed.frame s _ refl e)
    on (Some o) = send_keeps S.framed Rattle.sp_rules.specs.Events.Replies c.number _ (keep_keeps S (State.Acked c.number number) (Some (values.Ref (record { space = g.id; id = o.id; class = o.class }))) (S.framed.frame s _ refl e))

got_ack_keeps : {g : Setting} {P : State → Type 0} (S : IsStable g P) {s : State} (c : Connection) (number : ℕ) → P s → P (Frames.got_ack g c number s)
unfolding Frames.got_ack
got_ack_keeps S {s = s} c number e = if_keeps S.framed (list_any (Frames.is_acked_by c.number number) s.results) (release_keeps S _ e) (close_keeps S _ c.number e)

answered_by_keeps : {g : Setting} {P : State → Type 0} (S : IsStable g P) {s : State} (c : Connection) (number : ℕ) (next : Asked → State → State)
    → ((asked : Asked) → P (next asked s)) → P s → P (Frames.answered_by g c number next s)
unfolding Frames.answered_by
answered_by_keeps S {s = s} c number next h e = some_keeps S.framed (find (ParkedFrames.is_asked_on c.number number) s.requests) _ (close_keeps S _ c.number e) (λ q is. h q.asked)

returned_keeps : {g : Setting} {P : State → Type 0} (S : IsStable g P) {s : State} (c : Connection) (number fuel : ℕ) (value : Option Value) (asked : Asked)
    → P s → P (Frames.returned_for g c number fuel value asked s)
returned_keeps S {s = s} c number fuel value asked e =
    if_keeps S.framed _ (reply_to_keeps S asked _ (send_keeps S.framed _ c.number _ (S.framed.frame s _ refl e))) (park_frame_keeps S c.number number _ _ (S.framed.frame s _ refl e))

ends_as_keeps : {g : Setting} {P : State → Type 0} (S : IsStable g P) {s : State} (c : Connection) (number : ℕ) (reply : Asked → Reply) (asked : Asked)
    → P s → P (Frames.ends_as g c number reply asked s)
ends_as_keeps S {s = s} c number reply asked e = reply_to_keeps S asked _ (S.framed.frame s _ refl e)

told_by_keeps : {g : Setting} {P : State → Type 0} (S : IsStable g P) {s : State} (c : Connection) (dirty : Bool) (sequence : ℕ) (event : ℕ → lease_events.Event)
    → P s → P (Frames.told_by g c dirty sequence event s)
unfolding Frames.told_by
told_by_keeps {P = P} S {s = s} c dirty sequence event e = some_keeps S.framed (find (Frames.tells_on dirty c.number sequence) s.requests) _ (close_keeps S _ c.number e)
    (λ q is. go_all_keeps S (tells q.asked (S.framed.frame s _ refl e)))
  where
    tells : (asked : Asked) {t : State} → P t → P (Frames.group_told event asked t)
    tells (Calls n task lent kind m) h = h
    tells (LooksUp n task name) h = h
    tells (Tells call group) {t = t} h = S.framed.frame t _ refl h

got_keeps : {g : Setting} {P : State → Type 0} (S : IsStable g P) {s : State} (c : Connection) (m : Message) → (tells_owner m ≡ true → AllowsTelling P) → P s → P (Frames.got g c m s)
unfolding Frames.got Frames.got_dirty Frames.got_clean
got_keeps S c (message.Hello version space digest) T e = close_keeps S _ c.number e
got_keeps S c (message.Call number object method fuel arguments) T e = got_call_keeps S c number object method fuel arguments e
got_keeps S c (message.Returned number fuel value) T e = answered_by_keeps S c number _ (λ asked. returned_keeps S c number fuel value asked e) e
got_keeps {g} S c (message.Threw number class) T e = answered_by_keeps S c number _ (λ asked. ends_as_keeps S c number (λ a. Frames.thrown_reply g class) asked e) e
got_keeps {g} S c (message.Spent number) T e = answered_by_keeps S c number _ (λ asked. ends_as_keeps S c number (Frames.spent_reply g) asked e) e
got_keeps S c (message.Ack number) T e = got_ack_keeps S c number e
got_keeps S {s = s} c (message.Dirty sequence period objects) T e = if_keeps S.framed (Frames.fit_frame c objects) (send_keeps S.framed _ c.number _ ((T refl).told s _ e)) (close_keeps S _ c.number e)
got_keeps S c (message.Lease sequence period) T e = told_by_keeps S c true sequence _ e
got_keeps S {s = s} c (message.Clean sequence strong objects) T e = if_keeps S.framed (Frames.fit_frame c objects) (send_keeps S.framed _ c.number _ ((T refl).told s _ e)) (close_keeps S _ c.number e)
got_keeps S c (message.Cleaned sequence) T e = told_by_keeps S c false sequence _ e
got_keeps S c (message.Lookup number name) T e = got_lookup_keeps S c number name e

pub receive_keeps : {g : Setting} {P : State → Type 0} (S : IsStable g P) {s : State} (c : Connection) (m : Message) → (tells_owner m ≡ true → AllowsTelling P) → P s → P (Frames.receive g c m s)
unfolding Frames.receive
receive_keeps S c m T e = if_keeps S.framed (is_none c.peer) (first_frame_keeps S c m e) (if_keeps S.framed _ (close_keeps S _ c.number e) (got_keeps S c m T e))

received_keeps : {g : Setting} {P : State → Type 0} (S : IsStable g P) {s : State} (c : Option Connection) (m : Message) → (tells_owner m ≡ true → AllowsTelling P)
    → P s → P (OwnEvents.received_on g c m s)
received_keeps S None m T e = e
received_keeps S (Some c) m T e = receive_keeps S c m T e

-- ---- own events

moment_keeps : {g : Setting} {P : State → Type 0} (S : IsStable g P) (T : AllowsTelling P) {s : State} (moment : ℕ) → P s → P (OwnEvents.on_moment g moment s)
unfolding OwnEvents.on_moment
moment_keeps S T {s = s} moment e = if_keeps S.framed (nat_lt moment s.moment) e (release_keeps S _ (S.framed.frame _ _ refl (T.told s (owner.Moment moment) e)))

sweep_keeps : {g : Setting} {P : State → Type 0} (S : IsStable g P) (T : AllowsTelling P) (W : AllowsWithdrawal P) {s : State} → P s → P (OwnEvents.on_sweep g s)
unfolding OwnEvents.on_sweep
sweep_keeps {g} {P} S T W {s = s} e = sweeps (OwnEvents.without_reason g s)
  where
    withdraws : (gone : List State.Object) → P (OwnEvents.withdraw g s gone)
    withdraws gone = S.framed.frame _ _ refl (each_keeps S.framed _ _ (λ t o h. drop_keeps S.framed _ h) (each_keeps S.framed _ _ (λ t id h. T.told t (owner.Forget id) h) (W.gone s _ e)))

    sweeps : (gone : List State.Object) → P (OwnEvents.sweep_of g s gone)
    sweeps [] = e
    sweeps (o ∷ os) = withdraws (o ∷ os)

names_keeps : {g : Setting} {P : State → Type 0} (S : IsStable g P) (T : AllowsNaming P) {s : State} (r : Result (List Binding) RegistryFault) → P s → P (OwnEvents.set_names r s)
unfolding OwnEvents.set_names
names_keeps S T {s = s} (Ok names) e = T.named s names e
names_keeps S T {s = s} (Err why) e = S.framed.frame s _ refl e

lookup_keeps : {g : Setting} {P : State → Type 0} (S : IsStable g P) {s : State} (peer : Uuid) (name : List ℕ) → P s → P (OwnEvents.on_lookup g peer name s)
unfolding OwnEvents.on_lookup
lookup_keeps S {s = s} peer name e = if_keeps S.framed (Rattle.sp_registry.specs.Names.is_name name) (S.framed.frame _ _ refl (S.counts s e)) (S.framed.frame s _ refl e)

opened_keeps : {g : Setting} {P : State → Type 0} (S : IsStable g P) {s : State} (conn : ℕ) (dialled : Option Uuid) → P s → P (OwnEvents.on_opened g conn dialled s)
unfolding OwnEvents.on_opened
opened_keeps {g} S {s = s} conn None e = if_keeps S.framed (nat_le 2 g.version) (S.framed.frame s _ refl e) (say_hello_keeps S.framed g 1 conn (S.framed.frame s _ refl e))
opened_keeps {g} S {s = s} conn (Some peer) e = say_hello_keeps S.framed g _ conn (S.framed.frame s _ refl e)

refused_keeps : {g : Setting} {P : State → Type 0} (S : IsStable g P) {s : State} (peer : Uuid) → P s → P (OwnEvents.on_refused g peer s)
unfolding OwnEvents.on_refused
refused_keeps S {s = s} peer e = end_requests_keeps S _ _ (S.framed.frame s _ refl e)

-- ---- events

tells-leave : (m : Message) → tells_owner m ≡ true → not (tells_owner m) ≡ false
tells-leave m e = ap not e

happen_keeps : {g : Setting} {P : State → Type 0} (S : IsStable g P) {s : State} (e : Event) → (leaves_owner e ≡ false → AllowsTelling P) → (is_naming e ≡ true → AllowsNaming P) → (is_sweep e ≡ true → AllowsWithdrawal P)
    → P s → P (Space.happen g e s)
unfolding Space.happen
happen_keeps S (Moment moment) T N W h = moment_keeps S (T refl) moment h
happen_keeps S Sweep T N W h = sweep_keeps S (T refl) (W refl) h
happen_keeps S (Root method arguments fuel) T N W h = add_task_keeps S OfRoot method arguments fuel h
happen_keeps S (RootAck task) T N W h = release_keeps S _ h
happen_keeps S (Bind name value) T N W h = names_keeps S (N refl) _ h
happen_keeps S (Rebind name value) T N W h = names_keeps S (N refl) _ h
happen_keeps S (Unbind name) T N W h = names_keeps S (N refl) _ h
happen_keeps S (Lookup peer name) T N W h = lookup_keeps S peer name h
happen_keeps S (Opened conn dialled) T N W h = opened_keeps S conn dialled h
happen_keeps S (Refused peer) T N W h = refused_keeps S peer h
happen_keeps S {s = s} (Received conn m) T N W h = received_keeps S (connection_at s conn) m (λ e. T (tells-leave m e)) h
happen_keeps S (Closed conn) T N W h = end_connection_keeps S _ conn h
happen_keeps S (ReadFailed conn) T N W h = end_connection_keeps S _ conn h
happen_keeps S (Bad conn) T N W h = end_connection_keeps S _ conn h
happen_keeps S (WriteFailed conn unsent) T N W h = fail_write_keeps S conn unsent h
happen_keeps S (Committed task k op) T N W h = commit_keeps S task k op h
happen_keeps S (Parked task k) T N W h = park_keeps S task k h
happen_keeps S (GivenBack task k) T N W h = give_back_keeps S task k h
happen_keeps S (Finished task k) T N W h = finish_keeps S task k h

record_sent_keeps : {P : State → Type 0} (F : IsFramed P) {s : State} (o : Output) → P s → P (Space.record_sent s o)
record_sent_keeps F (Started task) h = h
record_sent_keeps F (Ended task outcome) h = h
record_sent_keeps F (Withdrawn ids) h = h
record_sent_keeps F (Denied why) h = h
record_sent_keeps F {s = s} (Send conn m) h = F.frame s _ refl h
record_sent_keeps F (Dial peer) h = h
record_sent_keeps F (Close conn) h = h
record_sent_keeps F (Ready task) h = h

-- the end of an event
pub finish_event_keeps : {P : State → Type 0} (F : IsFramed P) {s : State} (answers : Bool) → P s → P (Space.finish_event answers s).0
finish_event_keeps F true h = each_keeps F _ _ (λ t o k. record_sent_keeps F o k) (F.frame _ _ refl (settle_keeps F h))
finish_event_keeps F false h = h

-- an event keeps a stable property, if all that the event may do besides keeps it
pub on_keeps : {g : Setting} {P : State → Type 0} (S : IsStable g P) (s : State) (e : Event) → (leaves_owner e ≡ false → AllowsTelling P) → (is_naming e ≡ true → AllowsNaming P) → (is_sweep e ≡ true → AllowsWithdrawal P)
    → P s → P (Space.on g e s).0
unfolding Space.on
on_keeps S s e T N W h = finish_event_keeps S.framed (Space.answers_outputs e) (happen_keeps S e T N W h)
