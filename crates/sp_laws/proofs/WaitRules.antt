-- What most rules of a space leave: a property that looks at leases and parked frames alone is kept by each rule if it is kept by all that happens to
-- a foreign reference but a lease that comes, and by frames that are taken out; and if frames that wait for nothing go before the rule ends.
use Rattle.std.specs.Prelude.{◌≡◌, refl, ℕ, ◌+◌, ◌==◌, not, ◌||◌, ◌&&◌, nat_le, nat_lt, is_none, is_some, Bool, true, false, List, [], ◌∷◌, Option, None, Some, Result, Ok, Err, filter, find, if◌then◌else◌}
use Rattle.std.specs.List.{list_any}
use Rattle.space_ids.specs.declared.ids.ClassId.{ClassId}
use Rattle.dgc_client.specs.History as lease_events
use Rattle.dgc_client.specs.Table as client
use Rattle.dgc_client.specs.declared.groups.Group.{Group}
use Rattle.dgc_client.specs.declared.lease.Due.{Due}
use Rattle.dgc_client.specs.declared.lease.Due.TheVariants as due
use Rattle.space_ids.specs.declared.ids.ForeignId.{ForeignId}
use Rattle.net_message.specs.declared.message.Message.{Message}
use Rattle.net_message.specs.declared.message.Message.TheVariants as message
use Rattle.sp_registry.specs.Bindings as registry
use Rattle.sp_registry.specs.declared.fault.RegistryFault.{RegistryFault}
use Rattle.sp_registry.specs.declared.registry.Binding.{Binding}
use Rattle.uuid.specs.declared.Uuid.{Uuid}
use Rattle.space_ids.specs.declared.ids.ObjId.{ObjId}
use Rattle.space_ids.specs.declared.ids.Ref.{Ref}
use Rattle.space_ids.specs.declared.value.Value.{Value}
use Rattle.space_ids.specs.declared.value.Value.TheVariants as values
use Rattle.sp_rules.specs.Behaviours.{Outcome, Returned, Threw, Spent, Op, Create, Get, Put, Call, Reply}
use Rattle.sp_rules.specs.Classes
use Rattle.sp_rules.specs.Classes.{Setting}
use Rattle.sp_rules.specs.Endings
use Rattle.sp_rules.specs.Events.{Event, Moment, Sweep, Root, RootAck, Bind, Rebind, Unbind, Lookup, Opened, Refused, Received, Closed, ReadFailed, Bad, WriteFailed, Committed, Parked, GivenBack, Finished, Output, Started, Ended, Withdrawn, Denied, Send, Dial, Close, Ready, Turn}
use Rattle.sp_rules.specs.Frames
use Rattle.sp_rules.specs.Holders
use Rattle.sp_rules.specs.Holders.{hold_ids, drop_ids}
use Rattle.sp_rules.specs.Lists.{each, with_some}
use Rattle.sp_rules.specs.LivingTasks
use Rattle.sp_rules.specs.OwnEvents
use Rattle.sp_rules.specs.ParkedFrames
use Rattle.sp_rules.specs.References.{references_of, foreign_ids}
use Rattle.sp_rules.specs.Requests
use Rattle.sp_rules.specs.Space
use Rattle.sp_rules.specs.State
use Rattle.sp_rules.specs.State.{State, Living, Beginning, Origin, OfRoot, OfCall, Until, Request, Asked, Calls, LooksUp, Tells, Connection, Frame, CallFrame, ReturnedFrame, ParkedFrame, Owner, Stored, Made, Written, Gone, task_at, ready_at, set_task, set_connection, tell_owner, send, is_open, object_at, connection_at, connection_to}
use Rattle.sp_rules.specs.Tasks.{Stand, Runs, AsksFor, HasEnded, start, stand, steps}

-- ---- what happens to leases and parked frames

-- a lease comes
abbrev pub is_answer : lease_events.Event → Bool
is_answer lease_events.Held = false
is_answer lease_events.Dropped = false
is_answer (lease_events.Moment moment) = false
is_answer (lease_events.DirtyMade call) = false
is_answer (lease_events.CleanMade call) = false
is_answer (lease_events.DirtySent call) = false
is_answer (lease_events.DirtyAnswered call period) = true
is_answer (lease_events.DirtyFailed call) = false
is_answer (lease_events.CleanAnswered call) = false
is_answer (lease_events.CleanFailed call) = false

abbrev pub gives_lease : client.Told → Bool
gives_lease (client.On r event) = is_answer event
gives_lease (client.At moment) = false
gives_lease client.Numbered = false

pub record Seen : Type 0 where
  pub leases : List client.Told
  pub parked : List ParkedFrame

abbrev pub seen_of : State → Seen
seen_of s = record { leases = s.leases; parked = s.parked }

-- a property that looks at leases and parked frames alone, and is kept as long as no lease comes and no frame is parked
pub record IsFramed (P : State → Type 0) : Type 0 where
  pub frame : (s t : State) → seen_of t ≡ seen_of s → P s → P t
  pub told : (s : State) (t : client.Told) → gives_lease t ≡ false → P s → P (record s { leases = t ∷ s.leases })
  pub taken : (s : State) (is : ParkedFrame → Bool) → P s → P (record s { parked = filter is s.parked })

-- the same, in a space of this setting
pub record IsSteady (g : Setting) (P : State → Type 0) : Type 0 where
  pub framed : IsFramed P

-- and that holds once the frames that wait for nothing went
pub record IsStable (g : Setting) (P : State → Type 0) : Type 0 where
  pub steady : IsSteady g P
  pub goes : (s : State) → P (ParkedFrames.go_all g s)

-- ---- small steps

if_keeps : {P : State → Type 0} (F : IsFramed P) {t u : State} (b : Bool) → P t → P u → P (if b then t else u)
if_keeps F true e f = e
if_keeps F false e f = f

some_keeps : {P : State → Type 0} (F : IsFramed P) {A : Type 0} {t : State} (x : Option A) (f : A → State)
    → P t → ((a : A) → x ≡ Some a → P (f a)) → P (with_some x t f)
some_keeps F None f e h = e
some_keeps F (Some a) f e h = h a refl

pub each_keeps : {P : State → Type 0} (F : IsFramed P) {A : Type 0} {s : State} (f : State → A → State) (xs : List A)
    → ((t : State) (x : A) → P t → P (f t x)) → P s → P (each f xs s)
unfolding each
each_keeps F f [] h e = e
each_keeps F {s = s} f (x ∷ xs) h e = each_keeps F f xs h (h s x e)

pub send_keeps : {P : State → Type 0} (F : IsFramed P) {s : State} (turn : Turn) (conn : ℕ) (m : Message) → P s → P (send turn conn m s)
unfolding send
send_keeps F {s = s} turn conn m e = if_keeps F (is_open s conn) (F.frame s _ refl e) e

pub hold_keeps : {P : State → Type 0} (F : IsFramed P) {s : State} (ids : List ForeignId) → P s → P (hold_ids ids s)
unfolding hold_ids
hold_keeps F ids e = each_keeps F Holders.holder_comes ids (λ t x h. F.told t (client.On x lease_events.Held) refl h) e

pub drop_keeps : {P : State → Type 0} (F : IsFramed P) {s : State} (ids : List ForeignId) → P s → P (drop_ids ids s)
unfolding drop_ids
drop_keeps F ids e = each_keeps F Holders.holder_goes ids (λ t x h. F.told t (client.On x lease_events.Dropped) refl h) e

let_go_keeps : {P : State → Type 0} (F : IsFramed P) {s : State} (p : ParkedFrame) (parked : List ParkedFrame) → P s → P (ParkedFrames.let_go_parked p parked s)
let_go_keeps F p parked e = each_keeps F _ (filter (ParkedFrames.is_parked_at p.conn p.number) parked) (λ t q h. drop_keeps F q.references h) e

on_each_keeps : {P : State → Type 0} (F : IsFramed P) {s : State} (refs : List ForeignId) (event : lease_events.Event) → is_answer event ≡ false → P s → P (record s { leases = client.on_each refs event s.leases })
on_each_keeps F [] event none e = e
on_each_keeps F {s = s} (r ∷ rs) event none e = on_each_keeps F rs event none (F.told s (client.On r event) none e)

-- ---- requests

part_keeps : {P : State → Type 0} (F : IsFramed P) {s : State} (turn : Turn) (conn call : ℕ) (part : Group)
    → P s → P (Requests.part_goes_out turn conn call s part)
unfolding Requests.part_goes_out
part_keeps {P = P} F {s = s} turn conn call part e = send_keeps F turn conn _ (F.frame _ _ refl (sent part.kind))
  where
    sent : (kind : Due) → P (record s { leases = client.Numbered ∷ client.sent_as kind part call s.leases })
    sent due.Dirty = F.told _ client.Numbered refl (on_each_keeps F (client.references_at part.peer part.ids) (lease_events.DirtySent call) refl e)
    sent (due.Clean strong) = F.told s client.Numbered refl e

go_out_keeps : {P : State → Type 0} (F : IsFramed P) {s : State} (turn : Turn) (conn : ℕ) (q : Request) → P s → P (Requests.go_out turn conn q s)
unfolding Requests.go_out
go_out_keeps {P = P} F {s = s} turn conn q e = goes q.asked
  where
    goes : (a : Asked) → P (Requests.goes_out turn conn q.peer a s)
    goes (Calls number task lent kind m) = send_keeps F turn conn m (F.frame s _ refl e)
    goes (LooksUp number task name) = send_keeps F turn conn _ (F.frame s _ refl e)
    goes (Tells call group) = each_keeps F _ _ (λ t part h. part_keeps F turn conn call part h) e

dial_keeps : {P : State → Type 0} (F : IsFramed P) {s : State} (peer : Uuid) → P s → P (Requests.dial peer s)
unfolding Requests.dial
dial_keeps F {s = s} peer e = if_keeps F (is_some (connection_to s peer) || State.is_dialling s peer) e (F.frame s _ refl e)

ask_keeps : {P : State → Type 0} (F : IsFramed P) {s : State} (q : Request) → P s → P (Requests.ask s q)
unfolding Requests.ask
ask_keeps F {s = s} q e = some_keeps F (Requests.hello_came (connection_to s q.peer)) _ (dial_keeps F q.peer (F.frame s _ refl e)) (λ conn is. go_out_keeps F _ conn q e)

flush_keeps : {P : State → Type 0} (F : IsFramed P) {s : State} (peer : Uuid) (conn : ℕ) → P s → P (Requests.flush_waiting peer conn s)
unfolding Requests.flush_waiting
flush_keeps F {s = s} peer conn e = each_keeps F _ _ (λ t r h. go_out_keeps F _ conn r h) (F.frame s _ refl e)

make_group_keeps : {P : State → Type 0} (F : IsFramed P) {s : State} (b : Group) → P s → P (Requests.make_group s b)
unfolding Requests.make_group
make_group_keeps {P = P} F {s = s} b e = ask_keeps F _ (F.frame _ _ refl (made b.kind))
  where
    made : (kind : Due) → P (record s { leases = client.told b (client.making kind (s.groups_made + 1)) s.leases })
    made due.Dirty = on_each_keeps F (client.references_at b.peer b.ids) (lease_events.DirtyMade (s.groups_made + 1)) refl e
    made (due.Clean strong) = on_each_keeps F (client.references_at b.peer b.ids) (lease_events.CleanMade (s.groups_made + 1)) refl e

make_due_keeps : {P : State → Type 0} (F : IsFramed P) {s : State} → P s → P (Requests.make_due s)
unfolding Requests.make_due
make_due_keeps F e = each_keeps F _ _ (λ t b h. make_group_keeps F b h) e

ask_fresh_keeps : {P : State → Type 0} (F : IsFramed P) {s : State} → P s → P (Requests.ask_fresh s)
unfolding Requests.ask_fresh
ask_fresh_keeps F {s = s} e = each_keeps F _ _ (λ t q h. ask_keeps F q h) (F.frame s _ refl e)

pub settle_keeps : {P : State → Type 0} (F : IsFramed P) {s : State} → P s → P (Requests.settle s)
unfolding Requests.settle
settle_keeps F e = ask_fresh_keeps F (make_due_keeps F e)

-- ---- tasks

add_task_keeps : {g : Setting} {P : State → Type 0} (S : IsSteady g P) {s : State} (origin : Origin) (method : ℕ) (arguments : List Value) (fuel : ℕ)
    → P s → P (LivingTasks.add_task g origin method arguments fuel s)
unfolding LivingTasks.add_task
add_task_keeps {g} S {s = s} origin method arguments fuel e =
    S.framed.frame _ _ refl (hold_keeps S.framed (foreign_ids g.id (start g method arguments fuel).held) (S.framed.frame s _ refl e))

keep_keeps : {g : Setting} {P : State → Type 0} (S : IsSteady g P) {s : State} (until : Until) (value : Option Value) → P s → P (LivingTasks.keep g until value s)
keep_keeps S {s = s} until value e = hold_keeps S.framed _ (S.framed.frame s _ refl e)

keep_result_keeps : {g : Setting} {P : State → Type 0} (S : IsSteady g P) {s : State} (until : Until) (outcome : Outcome) → P s → P (LivingTasks.keep_result g until outcome s)
keep_result_keeps S until (Returned value) e = keep_keeps S until value e
keep_result_keeps S until (Threw class) e = e
keep_result_keeps S until Spent e = e

report_keeps : {g : Setting} {P : State → Type 0} (S : IsSteady g P) {s : State} (origin : Origin) (id fuel : ℕ) (outcome : Outcome) → P s → P (LivingTasks.report g origin id fuel outcome s)
report_keeps S OfRoot id fuel outcome e = keep_result_keeps S _ outcome e
report_keeps S {s = s} (OfCall conn number) id fuel outcome e = if_keeps S.framed (is_open s conn) (send_keeps S.framed _ conn _ (keep_result_keeps S _ outcome e)) e

end_with_keeps : {g : Setting} {P : State → Type 0} (S : IsSteady g P) {s : State} (id : ℕ) (t : Living) (outcome : Outcome) → P s → P (LivingTasks.end_with g id t outcome s)
end_with_keeps S {s = s} id t outcome e = drop_keeps S.framed _ (report_keeps S t.origin id t.task.fuel outcome (S.framed.frame s _ refl e))

reply_task_keeps : {g : Setting} {P : State → Type 0} (S : IsSteady g P) {s : State} (id : ℕ) (reply : Reply) → P s → P (LivingTasks.reply_task g id reply s)
unfolding LivingTasks.reply_task
reply_task_keeps S {s = s} id reply e = some_keeps S.framed (task_at s id) _ e (λ t is. S.framed.frame _ _ refl (hold_keeps S.framed _ (S.framed.frame s _ refl e)))

reply_to_keeps : {g : Setting} {P : State → Type 0} (S : IsSteady g P) {s : State} (asked : Asked) (reply : Reply) → P s → P (LivingTasks.reply_to g asked reply s)
unfolding LivingTasks.reply_to
reply_to_keeps S (Calls number task lent kind m) reply e = reply_task_keeps S task reply e
reply_to_keeps S {s = s} (LooksUp number task name) reply e = keep_result_keeps S (State.RootAcked task) (LivingTasks.outcome_of reply) (S.framed.frame s _ refl e)
reply_to_keeps S (Tells call group) reply e = e

after_op_keeps : {g : Setting} {P : State → Type 0} (S : IsSteady g P) {s : State} (op : Op) → P s → P (LivingTasks.after_op g op s)
unfolding LivingTasks.after_op
after_op_keeps S {s = s} (Create class) e = if_keeps S.framed (LivingTasks.is_full s) e (S.framed.frame s _ refl e)
after_op_keeps S (Get id slot) e = e
after_op_keeps S {s = s} (Put id slot value) e = drop_keeps S.framed _ (hold_keeps S.framed _ (S.framed.frame s _ refl e))
after_op_keeps S (Call target method arguments) e = e

commit_keeps : {g : Setting} {P : State → Type 0} (S : IsSteady g P) {s : State} (id k : ℕ) (op : Op) → P s → P (LivingTasks.commit g id k op s)
unfolding LivingTasks.commit
commit_keeps {g} S {s = s} id k op e = some_keeps S.framed (ready_at s id) _ e (λ t is. after_op_keeps S op (hold_keeps S.framed _ (S.framed.frame s _ refl e)))

park_keeps : {g : Setting} {P : State → Type 0} (S : IsSteady g P) {s : State} (id k : ℕ) → P s → P (LivingTasks.park_call g id k s)
unfolding LivingTasks.park_call
park_keeps {g} {P} S {s = s} id k e = some_keeps S.framed (ready_at s id) _ e (λ t is. at t is (stand (steps k t.task)))
  where
    parks : (t : Living) → ready_at s id ≡ Some t → (op : Op) → P (LivingTasks.park_op g id k t op s)
    parks t is (Create class) = e
    parks t is (Get o slot) = e
    parks t is (Put o slot value) = e
    parks t is (Call target method arguments) = S.framed.frame s _ refl e

    at : (t : Living) → ready_at s id ≡ Some t → (stands : Stand) → P (LivingTasks.park_at g id k t stands s)
    at t is Runs = e
    at t is (AsksFor op) = parks t is op
    at t is (HasEnded outcome) = e

give_back_keeps : {g : Setting} {P : State → Type 0} (S : IsSteady g P) {s : State} (id k : ℕ) → P s → P (LivingTasks.give_back id k s)
unfolding LivingTasks.give_back
give_back_keeps S {s = s} id k e = some_keeps S.framed (ready_at s id) _ e (λ t is. S.framed.frame s _ refl e)

finish_keeps : {g : Setting} {P : State → Type 0} (S : IsSteady g P) {s : State} (id k : ℕ) → P s → P (LivingTasks.finish_task g id k s)
unfolding LivingTasks.finish_task
finish_keeps {g} {P} S {s = s} id k e = some_keeps S.framed (ready_at s id) _ e (λ t is. at (LivingTasks.after_steps k t) (stand (steps k t.task)))
  where
    at : (t : Living) (stands : Stand) → P (LivingTasks.end_at g id t stands s)
    at t Runs = e
    at t (AsksFor op) = e
    at t (HasEnded outcome) = end_with_keeps S id t outcome e

-- ---- parked frames

answer_threw_keeps : {g : Setting} {P : State → Type 0} (S : IsSteady g P) {s : State} (conn number : ℕ) (class : ClassId) → P s → P (ParkedFrames.answer_threw conn number class s)
answer_threw_keeps S conn number class e = send_keeps S.framed _ conn _ e

start_call_keeps : {g : Setting} {P : State → Type 0} (S : IsSteady g P) {s : State} (p : ParkedFrame) (target : ObjId) (method fuel : ℕ) (arguments : List Value)
    → P s → P (ParkedFrames.start_call g p target method fuel arguments s)
unfolding ParkedFrames.start_call
start_call_keeps {g} {P} S {s = s} p target method fuel arguments e = some_keeps S.framed (object_at s target) _ e (λ o is. selected _ (g.classes.selected o.class method))
  where
    selected : (receiver : Ref) (found : Option ℕ) → P (ParkedFrames.start_selected g p.conn p.number receiver found fuel arguments s)
    selected receiver None = answer_threw_keeps S p.conn p.number _ e
    selected receiver (Some m) = add_task_keeps S _ m _ fuel e

answer_parked_keeps : {g : Setting} {P : State → Type 0} (S : IsSteady g P) {s : State} (p : ParkedFrame) (reply : Reply) → P s → P (ParkedFrames.answer_parked g p reply s)
unfolding ParkedFrames.answer_parked
answer_parked_keeps S {s = s} p reply e = some_keeps S.framed (find (ParkedFrames.is_call_on p.conn p.number) s.requests) _ e (λ r is.
    reply_to_keeps S r.asked reply (send_keeps S.framed _ p.conn _ (S.framed.frame s _ refl e)))

pub go_keeps : {g : Setting} {P : State → Type 0} (S : IsSteady g P) {s : State} (p : ParkedFrame) → P s → P (ParkedFrames.go g s p)
unfolding ParkedFrames.go
go_keeps {g} {P} S {s = s} p e = some_keeps S.framed (find (ParkedFrames.is_parked_at p.conn p.number) s.parked) _ e (λ q is. let_go_keeps S.framed p s.parked (frame q q.frame (S.framed.taken s (λ r. not (ParkedFrames.is_parked_at p.conn p.number r)) e)))
  where
    frame : (q : ParkedFrame) (f : Frame) {t : State} → P t → P (ParkedFrames.go_frame g q f t)
    frame q (CallFrame target method fuel arguments) h = start_call_keeps S q target method fuel arguments h
    frame q (ReturnedFrame value fuel) h = answer_parked_keeps S q _ h

go_all_keeps : {g : Setting} {P : State → Type 0} (S : IsStable g P) (s : State) → P (ParkedFrames.go_all g s)
go_all_keeps S s = S.goes s

park_frame_keeps : {g : Setting} {P : State → Type 0} (S : IsStable g P) {s : State} (conn number : ℕ) (f : Frame) (references : List ForeignId)
    → P s → P (ParkedFrames.park_frame g conn number f references s)
unfolding ParkedFrames.park_frame
park_frame_keeps S conn number f references e = S.goes _

fail_parked_keeps : {g : Setting} {P : State → Type 0} (S : IsStable g P) {s : State} (p : ParkedFrame) → P s → P (ParkedFrames.fail_parked g s p)
unfolding ParkedFrames.fail_parked
fail_parked_keeps {g} {P} S {s = s} p e = frame p.frame (let_go_keeps S.steady.framed p s.parked (S.steady.framed.taken s (λ r. not (ParkedFrames.is_parked_at p.conn p.number r)) e))
  where
    frame : (f : Frame) {t : State} → P t → P (ParkedFrames.fail_frame g p f t)
    frame (CallFrame target method fuel arguments) h = answer_threw_keeps S.steady p.conn p.number _ h
    frame (ReturnedFrame value fuel) h = answer_parked_keeps S.steady p _ h

-- ---- endings

fail_dirty_keeps : {g : Setting} {P : State → Type 0} (S : IsStable g P) {s : State} (call : ℕ) (id : ForeignId) → P s → P (Endings.fail_dirty g call s id)
unfolding Endings.fail_dirty
fail_dirty_keeps S {s = s} call id e = if_keeps S.steady.framed (Rattle.dgc_client.specs.Lease.is_made (Holders.lease_now s id).dirty call && is_none (Holders.lease_now s id).lease) (each_keeps S.steady.framed _ (filter (ParkedFrames.names id) s.parked) (λ t p h. fail_parked_keeps S p h) (S.steady.framed.told s (client.On id (lease_events.DirtyFailed call)) refl e)) (S.steady.framed.told s (client.On id (lease_events.DirtyFailed call)) refl e)

fail_group_keeps : {g : Setting} {P : State → Type 0} (S : IsStable g P) {s : State} (kind : Due) (b : Group) (call : ℕ) → P s → P (Endings.fail_group g kind b call s)
fail_group_keeps S due.Dirty b call e = each_keeps S.steady.framed _ _ (λ t x h. fail_dirty_keeps S call x h) e
fail_group_keeps S (due.Clean strong) b call e = each_keeps S.steady.framed _ _ (λ t x h. S.steady.framed.told t (client.On x (lease_events.CleanFailed call)) refl h) e

end_asked_keeps : {g : Setting} {P : State → Type 0} (S : IsStable g P) {s : State} (class : ClassId) (asked : Asked) → P s → P (Endings.end_asked g class asked s)
end_asked_keeps S class (Calls number task lent kind m) e = reply_to_keeps S.steady (Calls number task lent kind m) _ e
end_asked_keeps S class (LooksUp number task name) e = reply_to_keeps S.steady (LooksUp number task name) _ e
end_asked_keeps S class (Tells call group) e = fail_group_keeps S group.kind group call e

end_requests_keeps : {g : Setting} {P : State → Type 0} (S : IsStable g P) {s : State} (is : Request → Bool) (why : Asked → ClassId) → P s → P (Endings.end_requests g is why s)
unfolding Endings.end_requests
end_requests_keeps S {s = s} is why e =
    each_keeps S.steady.framed _ _ (λ t q h. end_asked_keeps S (why q.asked) q.asked h)
    (each_keeps S.steady.framed _ _ (λ t q h. end_asked_keeps S (why q.asked) q.asked h) (S.steady.framed.frame s _ refl e))

let_connection_go_keeps : {P : State → Type 0} (F : IsFramed P) {s : State} (conn : ℕ) → P s → P (Endings.let_connection_go conn s)
let_connection_go_keeps F {s = s} conn e = each_keeps F _ _ (λ t p h. let_go_keeps F p t.parked (F.taken t (λ r. not (ParkedFrames.is_parked_at p.conn p.number r)) h)) (F.frame s _ refl e)

redial_keeps : {P : State → Type 0} (F : IsFramed P) {s : State} (peer : Uuid) (conn : ℕ) → P s → P (Endings.redial peer conn s)
unfolding Endings.redial
redial_keeps F {s = s} peer conn e = dial_keeps F peer (F.frame _ _ refl (let_connection_go_keeps F conn (F.frame s _ refl e)))

end_connection_keeps : {g : Setting} {P : State → Type 0} (S : IsStable g P) {s : State} (why : Asked → ClassId) (conn : ℕ) → P s → P (Endings.end_connection g why conn s)
unfolding Endings.end_connection
end_connection_keeps S {s = s} why conn e = some_keeps S.steady.framed (connection_at s conn) _ e (λ c is. end_requests_keeps S _ why (let_connection_go_keeps S.steady.framed conn e))

pub close_keeps : {g : Setting} {P : State → Type 0} (S : IsStable g P) {s : State} (class : ClassId) (conn : ℕ) → P s → P (Endings.close g class conn s)
unfolding Endings.close
close_keeps S class conn e = S.steady.framed.frame _ _ refl (end_connection_keeps S (λ asked. class) conn e)

fail_write_keeps : {g : Setting} {P : State → Type 0} (S : IsStable g P) {s : State} (conn unsent : ℕ) → P s → P (Endings.fail_write g conn unsent s)
unfolding Endings.fail_write
fail_write_keeps S conn unsent e = end_connection_keeps S _ conn e

-- ---- frames

say_hello_keeps : {P : State → Type 0} (F : IsFramed P) {s : State} (g : Setting) (version conn : ℕ) → P s → P (Frames.say_hello g version conn s)
say_hello_keeps F g version conn e = F.frame _ _ refl (send_keeps F Rattle.sp_rules.specs.Events.Hellos conn (message.Hello version g.id g.digest) e)

pub first_frame_keeps : {g : Setting} {P : State → Type 0} (S : IsStable g P) {s : State} (c : Connection) (m : Message) → P s → P (Frames.first_frame g c m s)
unfolding Frames.first_frame
first_frame_keeps {g} {P} S {s = s} c (message.Hello version space digest) e = some_keeps S.steady.framed c.dialled _
    (if_keeps S.steady.framed _ (if_keeps S.steady.framed (nat_le 2 g.version) (say_hello_keeps S.steady.framed g _ c.number known) known) (close_keeps S _ c.number e))
    (λ peer is. if_keeps S.steady.framed _ (if_keeps S.steady.framed (version == c.version) (flush_keeps S.steady.framed peer c.number known)
    (if_keeps S.steady.framed (nat_le 2 c.version && version == 1) (redial_keeps S.steady.framed peer c.number e) (close_keeps S _ c.number e))) (close_keeps S _ c.number e))
  where
    known : P (Frames.greeted space c.number s)
    known = S.steady.framed.frame s _ refl e
first_frame_keeps S c _ e = close_keeps S _ c.number e

pub release_keeps : {g : Setting} {P : State → Type 0} (S : IsStable g P) {s : State} (is : State.KeptResult → Bool) → P s → P (Frames.release g is s)
unfolding Frames.release
release_keeps S {s = s} is e = each_keeps S.steady.framed _ _ (λ t r h. drop_keeps S.steady.framed _ h) (S.steady.framed.frame s _ refl e)

call_of_keeps : {g : Setting} {P : State → Type 0} (S : IsStable g P) {s : State} (conn number : ℕ) (o : State.Object) (method fuel : ℕ) (arguments : List Value)
    → P s → P (Frames.call_of g conn number o method fuel arguments s)
call_of_keeps {g} S {s = s} conn number o method fuel arguments e =
    if_keeps S.steady.framed (not (g.classes.may_call o.class method) || (not (Classes.fit_kinds (g.classes.parameters method) arguments)
    || list_any (Holders.is_refused g s) (references_of arguments)))
    (answer_threw_keeps S.steady conn number g.classes.unmarshal e)
    (if_keeps S.steady.framed (Frames.is_busy s) (answer_threw_keeps S.steady conn number g.classes.server_error e)
    (park_frame_keeps S conn number (CallFrame o.id method fuel arguments) _ e))

got_call_keeps : {g : Setting} {P : State → Type 0} (S : IsStable g P) {s : State} (c : Connection) (number : ℕ) (target : ObjId) (method fuel : ℕ) (arguments : List Value)
    → P s → P (Frames.got_call g c number target method fuel arguments s)
unfolding Frames.got_call
got_call_keeps {g} {P} S {s = s} c number target method fuel arguments e = if_keeps S.steady.framed (nat_le number c.last) (close_keeps S _ c.number e) (on (object_at s target))
  where
    on : (o : Option State.Object) → P (Frames.call_on g c.number number o method fuel arguments (Frames.counted c.number number s))
    on None = answer_threw_keeps S.steady c.number number _ (S.steady.framed.frame s (Frames.counted c.number number s) refl e)
    on (Some o) = call_of_keeps S c.number number o method fuel arguments (S.steady.framed.frame s (Frames.counted c.number number s) refl e)

got_lookup_keeps : {g : Setting} {P : State → Type 0} (S : IsStable g P) {s : State} (c : Connection) (number : ℕ) (name : List ℕ) → P s → P (Frames.got_lookup g c number name s)
unfolding Frames.got_lookup
got_lookup_keeps {g} {P} S {s = s} c number name e = if_keeps S.steady.framed (nat_le number c.last) (close_keeps S _ c.number e) (on (Frames.object_of s (registry.lookup s.owner.names name)))
  where
    on : (o : Option State.Object) → P (Frames.found g c.number number o (Frames.counted c.number number s))
    on None = answer_threw_keeps S.steady c.number number _ (S.steady.framed.frame s _ refl e)
    on (Some o) = send_keeps S.steady.framed Rattle.sp_rules.specs.Events.Replies c.number _ (keep_keeps S.steady (State.Acked c.number number) (Some (values.Ref (record { space = g.id; id = o.id; class = o.class }))) (S.steady.framed.frame s _ refl e))

got_ack_keeps : {g : Setting} {P : State → Type 0} (S : IsStable g P) {s : State} (c : Connection) (number : ℕ) → P s → P (Frames.got_ack g c number s)
unfolding Frames.got_ack
got_ack_keeps S {s = s} c number e = if_keeps S.steady.framed (list_any (Frames.is_acked_by c.number number) s.results) (release_keeps S _ e) (close_keeps S _ c.number e)

answered_by_keeps : {g : Setting} {P : State → Type 0} (S : IsStable g P) {s : State} (c : Connection) (number : ℕ) (next : Asked → State → State)
    → ((asked : Asked) → P (next asked s)) → P s → P (Frames.answered_by g c number next s)
unfolding Frames.answered_by
answered_by_keeps S {s = s} c number next h e = some_keeps S.steady.framed (find (ParkedFrames.is_asked_on c.number number) s.requests) _ (close_keeps S _ c.number e) (λ q is. h q.asked)

returned_keeps : {g : Setting} {P : State → Type 0} (S : IsStable g P) {s : State} (c : Connection) (number fuel : ℕ) (value : Option Value) (asked : Asked)
    → P s → P (Frames.returned_for g c number fuel value asked s)
returned_keeps S {s = s} c number fuel value asked e =
    if_keeps S.steady.framed _ (reply_to_keeps S.steady asked _ (send_keeps S.steady.framed _ c.number _ (S.steady.framed.frame s _ refl e))) (park_frame_keeps S c.number number _ _ (S.steady.framed.frame s _ refl e))

ends_as_keeps : {g : Setting} {P : State → Type 0} (S : IsStable g P) {s : State} (c : Connection) (number : ℕ) (reply : Asked → Reply) (asked : Asked)
    → P s → P (Frames.ends_as g c number reply asked s)
ends_as_keeps S {s = s} c number reply asked e = reply_to_keeps S.steady asked _ (S.steady.framed.frame s _ refl e)

told_by_keeps : {g : Setting} {P : State → Type 0} (S : IsStable g P) {s : State} (c : Connection) (dirty : Bool) (sequence : ℕ) (event : ℕ → lease_events.Event)
    → P s → P (Frames.told_by g c dirty sequence event s)
unfolding Frames.told_by
told_by_keeps S {s = s} c dirty sequence event e = some_keeps S.steady.framed (find (Frames.tells_on dirty c.number sequence) s.requests) _ (close_keeps S _ c.number e) (λ q is. S.goes _)

got_keeps : {g : Setting} {P : State → Type 0} (S : IsStable g P) {s : State} (c : Connection) (m : Message) → P s → P (Frames.got g c m s)
unfolding Frames.got Frames.got_dirty Frames.got_clean
got_keeps S c (message.Hello version space digest) e = close_keeps S _ c.number e
got_keeps S c (message.Call number object method fuel arguments) e = got_call_keeps S c number object method fuel arguments e
got_keeps S c (message.Returned number fuel value) e = answered_by_keeps S c number _ (λ asked. returned_keeps S c number fuel value asked e) e
got_keeps {g} S c (message.Threw number class) e = answered_by_keeps S c number _ (λ asked. ends_as_keeps S c number (λ a. Frames.thrown_reply g class) asked e) e
got_keeps {g} S c (message.Spent number) e = answered_by_keeps S c number _ (λ asked. ends_as_keeps S c number (Frames.spent_reply g) asked e) e
got_keeps S c (message.Ack number) e = got_ack_keeps S c number e
got_keeps S {s = s} c (message.Dirty sequence period objects) e = if_keeps S.steady.framed (Frames.fit_frame c objects) (send_keeps S.steady.framed _ c.number _ (S.steady.framed.frame s _ refl e)) (close_keeps S _ c.number e)
got_keeps S c (message.Lease sequence period) e = told_by_keeps S c true sequence _ e
got_keeps S {s = s} c (message.Clean sequence strong objects) e = if_keeps S.steady.framed (Frames.fit_frame c objects) (send_keeps S.steady.framed _ c.number _ (S.steady.framed.frame s _ refl e)) (close_keeps S _ c.number e)
got_keeps S c (message.Cleaned sequence) e = told_by_keeps S c false sequence _ e
got_keeps S c (message.Lookup number name) e = got_lookup_keeps S c number name e

pub receive_keeps : {g : Setting} {P : State → Type 0} (S : IsStable g P) {s : State} (c : Connection) (m : Message) → P s → P (Frames.receive g c m s)
unfolding Frames.receive
receive_keeps S c m e = if_keeps S.steady.framed (is_none c.peer) (first_frame_keeps S c m e) (if_keeps S.steady.framed _ (close_keeps S _ c.number e) (got_keeps S c m e))

received_keeps : {g : Setting} {P : State → Type 0} (S : IsStable g P) {s : State} (c : Option Connection) (m : Message)
    → P s → P (OwnEvents.received_on g c m s)
received_keeps S None m e = e
received_keeps S (Some c) m e = receive_keeps S c m e

-- ---- own events

moment_keeps : {g : Setting} {P : State → Type 0} (S : IsStable g P) {s : State} (moment : ℕ) → P s → P (OwnEvents.on_moment g moment s)
unfolding OwnEvents.on_moment
moment_keeps S {s = s} moment e = if_keeps S.steady.framed (nat_lt moment s.moment) e (release_keeps S _ (S.steady.framed.frame _ _ refl (S.steady.framed.told s (client.At moment) refl e)))

sweep_keeps : {g : Setting} {P : State → Type 0} (S : IsStable g P) {s : State} → P s → P (OwnEvents.on_sweep g s)
unfolding OwnEvents.on_sweep
sweep_keeps {g} {P} S {s = s} e = sweeps (OwnEvents.without_reason g s)
  where
    withdraws : (gone : List State.Object) → P (OwnEvents.withdraw g s gone)
    withdraws gone = S.steady.framed.frame _ _ refl (each_keeps S.steady.framed _ _ (λ t o h. drop_keeps S.steady.framed _ h) (each_keeps S.steady.framed _ _ (λ t id h. S.steady.framed.frame t _ refl h) (S.steady.framed.frame s _ refl e)))

    sweeps : (gone : List State.Object) → P (OwnEvents.sweep_of g s gone)
    sweeps [] = e
    sweeps (o ∷ os) = withdraws (o ∷ os)

names_keeps : {g : Setting} {P : State → Type 0} (S : IsStable g P) {s : State} (r : Result (List Binding) RegistryFault) → P s → P (OwnEvents.set_names r s)
unfolding OwnEvents.set_names
names_keeps S {s = s} (Ok names) e = S.steady.framed.frame s _ refl e
names_keeps S {s = s} (Err why) e = S.steady.framed.frame s _ refl e

lookup_keeps : {g : Setting} {P : State → Type 0} (S : IsStable g P) {s : State} (peer : Uuid) (name : List ℕ) → P s → P (OwnEvents.on_lookup g peer name s)
unfolding OwnEvents.on_lookup
lookup_keeps S {s = s} peer name e = if_keeps S.steady.framed (Rattle.sp_registry.specs.Names.is_name name) (S.steady.framed.frame s _ refl e) (S.steady.framed.frame s _ refl e)

opened_keeps : {g : Setting} {P : State → Type 0} (S : IsStable g P) {s : State} (conn : ℕ) (dialled : Option Uuid) → P s → P (OwnEvents.on_opened g conn dialled s)
unfolding OwnEvents.on_opened
opened_keeps {g} S {s = s} conn None e = if_keeps S.steady.framed (nat_le 2 g.version) (S.steady.framed.frame s _ refl e) (say_hello_keeps S.steady.framed g 1 conn (S.steady.framed.frame s _ refl e))
opened_keeps {g} S {s = s} conn (Some peer) e = say_hello_keeps S.steady.framed g _ conn (S.steady.framed.frame s _ refl e)

refused_keeps : {g : Setting} {P : State → Type 0} (S : IsStable g P) {s : State} (peer : Uuid) → P s → P (OwnEvents.on_refused g peer s)
unfolding OwnEvents.on_refused
refused_keeps S {s = s} peer e = end_requests_keeps S _ _ (S.steady.framed.frame s _ refl e)

-- ---- events

happen_keeps : {g : Setting} {P : State → Type 0} (S : IsStable g P) {s : State} (e : Event)
    → P s → P (Space.happen g e s)
unfolding Space.happen
happen_keeps S (Moment moment) h = moment_keeps S moment h
happen_keeps S Sweep h = sweep_keeps S h
happen_keeps S (Root method arguments fuel) h = add_task_keeps S.steady OfRoot method arguments fuel h
happen_keeps S (RootAck task) h = release_keeps S _ h
happen_keeps S (Bind name value) h = names_keeps S _ h
happen_keeps S (Rebind name value) h = names_keeps S _ h
happen_keeps S (Unbind name) h = names_keeps S _ h
happen_keeps S (Lookup peer name) h = lookup_keeps S peer name h
happen_keeps S (Opened conn dialled) h = opened_keeps S conn dialled h
happen_keeps S (Refused peer) h = refused_keeps S peer h
happen_keeps S {s = s} (Received conn m) h = received_keeps S (connection_at s conn) m h
happen_keeps S (Closed conn) h = end_connection_keeps S _ conn h
happen_keeps S (ReadFailed conn) h = end_connection_keeps S _ conn h
happen_keeps S (Bad conn) h = end_connection_keeps S _ conn h
happen_keeps S (WriteFailed conn unsent) h = fail_write_keeps S conn unsent h
happen_keeps S (Committed task k op) h = commit_keeps S.steady task k op h
happen_keeps S (Parked task k) h = park_keeps S.steady task k h
happen_keeps S (GivenBack task k) h = give_back_keeps S.steady task k h
happen_keeps S (Finished task k) h = finish_keeps S.steady task k h

record_sent_keeps : {P : State → Type 0} (F : IsFramed P) {s : State} (o : Output) → P s → P (Space.record_sent s o)
record_sent_keeps F (Started task) h = h
record_sent_keeps F (Ended task outcome) h = h
record_sent_keeps F (Withdrawn ids) h = h
record_sent_keeps F (Denied why) h = h
record_sent_keeps F {s = s} (Send conn m) h = F.frame s _ refl h
record_sent_keeps F (Dial peer) h = h
record_sent_keeps F (Close conn) h = h
record_sent_keeps F (Ready task) h = h

-- the end of an event
pub finish_event_keeps : {P : State → Type 0} (F : IsFramed P) {s : State} (answers : Bool) → P s → P (Space.finish_event answers s).0
finish_event_keeps F true h = each_keeps F _ _ (λ t o k. record_sent_keeps F o k) (F.frame _ _ refl (settle_keeps F h))
finish_event_keeps F false h = h

-- an event keeps a stable property, if all that the event may do besides keeps it
pub on_keeps : {g : Setting} {P : State → Type 0} (S : IsStable g P) (s : State) (e : Event)
    → P s → P (Space.on g e s).0
unfolding Space.on
on_keeps S s e h = finish_event_keeps S.steady.framed (Space.answers_outputs e) (happen_keeps S e h)
