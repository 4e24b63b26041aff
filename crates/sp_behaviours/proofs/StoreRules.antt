-- What is kept of the remote instances changes by Sweeps and by operations on them alone: each other rule leaves it as it was.
use mathlib.Core.Path.{sym, ap, ◌∙◌}
use Rattle.std.specs.Prelude.{◌≡◌, refl, ℕ, ◌+◌, not, ◌==◌, ◌||◌, ◌&&◌, nat_le, nat_lt, is_none, is_some, Bool, true, false, List, [], ◌∷◌, Option, None, Some, Result, Ok, Err, filter, find, length, map, ◌⊎◌, if◌then◌else◌}
use Rattle.std.specs.List.{list_any}
use Rattle.space_ids.specs.declared.ids.ClassId.{ClassId}
use Rattle.dgc_client.specs.History as lease_events
use Rattle.dgc_client.specs.declared.groups.Group.{Group}
use Rattle.dgc_client.specs.declared.lease.Due.{Due}
use Rattle.dgc_client.specs.declared.lease.Due.TheVariants as due
use Rattle.space_ids.specs.declared.ids.ForeignId.{ForeignId}
use Rattle.dgc_list.specs.History as owner
use Rattle.net_message.specs.declared.message.Message.{Message}
use Rattle.net_message.specs.declared.message.Message.TheVariants as message
use Rattle.sp_registry.specs.Bindings as registry
use Rattle.sp_registry.specs.declared.fault.RegistryFault.{RegistryFault}
use Rattle.sp_registry.specs.declared.registry.Binding.{Binding}
use Rattle.uuid.specs.declared.Uuid.{Uuid}
use Rattle.space_ids.specs.declared.ids.ObjId.{ObjId}
use Rattle.space_ids.specs.declared.ids.Ref.{Ref}
use Rattle.space_ids.specs.declared.value.Value.{Value}
use Rattle.space_ids.specs.declared.value.Value.TheVariants as values
use Rattle.sp_rules.specs.Behaviours.{Outcome, Returned, Threw, Spent, Op, Create, Get, Put, Call, Reply}
use Rattle.sp_rules.specs.Classes
use Rattle.sp_rules.specs.Classes.{Setting}
use Rattle.sp_rules.specs.Endings
use Rattle.sp_rules.specs.Events.{Event, Moment, Sweep, Root, RootAck, Bind, Rebind, Unbind, Lookup, Opened, Refused, Received, Closed, ReadFailed, Bad, WriteFailed, Committed, Parked, GivenBack, Finished, Output, Started, Ended, Withdrawn, Denied, Send, Dial, Close, Ready, Turn}
use Rattle.sp_rules.specs.Frames
use Rattle.sp_rules.specs.Holders
use Rattle.sp_rules.specs.Holders.{hold_ids, drop_ids}
use Rattle.sp_rules.specs.Lists.{each, with_some}
use Rattle.sp_rules.specs.LivingTasks
use Rattle.sp_rules.specs.OwnEvents
use Rattle.sp_rules.specs.ParkedFrames
use Rattle.sp_rules.specs.References
use Rattle.sp_rules.specs.References.{references_of, foreign_ids}
use Rattle.sp_rules.specs.Requests
use Rattle.sp_rules.specs.Space
use Rattle.sp_rules.specs.State
use Rattle.sp_rules.specs.State.{State, Living, Beginning, Origin, OfRoot, OfCall, Until, Request, Asked, Calls, LooksUp, Tells, Connection, Frame, CallFrame, ReturnedFrame, ParkedFrame, Owner, Stored, Made, Written, Gone, task_at, ready_at, set_task, set_connection, tell_owner, send, is_open, object_at, connection_at, connection_to}
use Rattle.sp_rules.specs.Tasks.{Stand, Runs, AsksFor, HasEnded, start, stand, steps, answer, gained}
use Rattle.sp_rules.proofs.SweepLemmas.{store_left}
use Rattle.std.proofs.Common.{inl, inr}
use Rattle.std.proofs.lemmas.Bool.{true≢false}
use Rattle.sp_rules.proofs.Stable.{Core, IsFramed, finish_event_keeps}

-- a property that looks at the store alone
record IsStored (g : Setting) (P : State → Type 0) : Type 0 where
  frame : (s t : State) → t.store ≡ s.store → P s → P t

-- ---- small steps

if_keeps : {g : Setting} {P : State → Type 0} (F : IsStored g P) {t u : State} (b : Bool) → P t → P u → P (if b then t else u)
if_keeps F true e f = e
if_keeps F false e f = f

some_keeps : {g : Setting} {P : State → Type 0} (F : IsStored g P) {A : Type 0} {t : State} (x : Option A) (f : A → State)
    → P t → ((a : A) → x ≡ Some a → P (f a)) → P (with_some x t f)
some_keeps F None f e h = e
some_keeps F (Some a) f e h = h a refl

each_keeps : {g : Setting} {P : State → Type 0} (F : IsStored g P) {A : Type 0} {s : State} (f : State → A → State) (xs : List A)
    → ((t : State) (x : A) → P t → P (f t x)) → P s → P (each f xs s)
unfolding each
each_keeps F f [] h e = e
each_keeps F {s = s} f (x ∷ xs) h e = each_keeps F f xs h (h s x e)

send_keeps : {g : Setting} {P : State → Type 0} (F : IsStored g P) {s : State} (turn : Turn) (conn : ℕ) (m : Message) → P s → P (send turn conn m s)
unfolding send
send_keeps F {s = s} turn conn m e = if_keeps F (is_open s conn) (F.frame s _ refl e) e

hold_keeps : {g : Setting} {P : State → Type 0} (F : IsStored g P) {s : State} (ids : List ForeignId) → P s → P (hold_ids ids s)
unfolding hold_ids
hold_keeps F ids e = each_keeps F Holders.holder_comes ids (λ t x h. F.frame t _ refl h) e

drop_keeps : {g : Setting} {P : State → Type 0} (F : IsStored g P) {s : State} (ids : List ForeignId) → P s → P (drop_ids ids s)
unfolding drop_ids
drop_keeps F ids e = each_keeps F Holders.holder_goes ids (λ t x h. F.frame t _ refl h) e

let_go_keeps : {g : Setting} {P : State → Type 0} (F : IsStored g P) {s : State} (p : ParkedFrame) (parked : List ParkedFrame) → P s → P (ParkedFrames.let_go_parked p parked s)
let_go_keeps F p parked e = each_keeps F _ (filter (ParkedFrames.is_parked_at p.conn p.number) parked) (λ t q h. drop_keeps F q.references h) e

-- ---- requests

part_keeps : {g : Setting} {P : State → Type 0} (F : IsStored g P) {s : State} (turn : Turn) (conn call : ℕ) (part : Group)
    → P s → P (Requests.part_goes_out turn conn call s part)
unfolding Requests.part_goes_out
part_keeps F {s = s} turn conn call part e = send_keeps F turn conn _ (F.frame s _ refl e)

go_out_keeps : {g : Setting} {P : State → Type 0} (F : IsStored g P) {s : State} (turn : Turn) (conn : ℕ) (q : Request) → P s → P (Requests.go_out turn conn q s)
unfolding Requests.go_out
go_out_keeps {P = P} F {s = s} turn conn q e = goes q.asked
  where
    goes : (a : Asked) → P (Requests.goes_out turn conn q.peer a s)
    goes (Calls number task lent kind m) = send_keeps F turn conn m (F.frame s _ refl e)
    goes (LooksUp number task name) = send_keeps F turn conn _ (F.frame s _ refl e)
    goes (Tells call group) = each_keeps F _ _ (λ t part h. part_keeps F turn conn call part h) e

flush_keeps : {g : Setting} {P : State → Type 0} (F : IsStored g P) {s : State} (peer : Uuid) (conn : ℕ) → P s → P (Requests.flush_waiting peer conn s)
unfolding Requests.flush_waiting
flush_keeps F {s = s} peer conn e = each_keeps F _ _ (λ t r h. go_out_keeps F _ conn r h) (F.frame s _ refl e)

-- ---- tasks

add_task_keeps : {g : Setting} {P : State → Type 0} (F : IsStored g P) {s : State} (origin : Origin) (method : ℕ) (arguments : List Value) (fuel : ℕ)
    → P s → P (LivingTasks.add_task g origin method arguments fuel s)
unfolding LivingTasks.add_task
add_task_keeps {g} F {s = s} origin method arguments fuel e =
    F.frame _ _ refl (hold_keeps F (foreign_ids g.id (start g method arguments fuel).held) (F.frame s _ refl e))

keep_keeps : {g : Setting} {P : State → Type 0} (F : IsStored g P) {s : State} (until : Until) (value : Option Value) → P s → P (LivingTasks.keep g until value s)
keep_keeps F {s = s} until value e = hold_keeps F _ (F.frame s _ refl e)

keep_result_keeps : {g : Setting} {P : State → Type 0} (F : IsStored g P) {s : State} (until : Until) (outcome : Outcome) → P s → P (LivingTasks.keep_result g until outcome s)
keep_result_keeps F until (Returned value) e = keep_keeps F until value e
keep_result_keeps F until (Threw class) e = e
keep_result_keeps F until Spent e = e

report_keeps : {g : Setting} {P : State → Type 0} (F : IsStored g P) {s : State} (origin : Origin) (id fuel : ℕ) (outcome : Outcome) → P s → P (LivingTasks.report g origin id fuel outcome s)
report_keeps F OfRoot id fuel outcome e = keep_result_keeps F _ outcome e
report_keeps F {s = s} (OfCall conn number) id fuel outcome e = if_keeps F (is_open s conn) (send_keeps F _ conn _ (keep_result_keeps F _ outcome e)) e

end_with_keeps : {g : Setting} {P : State → Type 0} (F : IsStored g P) {s : State} (id : ℕ) (t : Living) (outcome : Outcome) → P s → P (LivingTasks.end_with g id t outcome s)
end_with_keeps F {s = s} id t outcome e = drop_keeps F _ (report_keeps F t.origin id t.task.fuel outcome (F.frame s _ refl e))

reply_task_keeps : {g : Setting} {P : State → Type 0} (F : IsStored g P) {s : State} (id : ℕ) (reply : Reply) → P s → P (LivingTasks.reply_task g id reply s)
unfolding LivingTasks.reply_task
reply_task_keeps F {s = s} id reply e = some_keeps F (task_at s id) _ e (λ t is. F.frame _ _ refl (hold_keeps F _ (F.frame s _ refl e)))

reply_to_keeps : {g : Setting} {P : State → Type 0} (F : IsStored g P) {s : State} (asked : Asked) (reply : Reply) → P s → P (LivingTasks.reply_to g asked reply s)
unfolding LivingTasks.reply_to
reply_to_keeps F (Calls number task lent kind m) reply e = reply_task_keeps F task reply e
reply_to_keeps F {s = s} (LooksUp number task name) reply e = keep_result_keeps F (State.RootAcked task) (LivingTasks.outcome_of reply) (F.frame s _ refl e)
reply_to_keeps F (Tells call group) reply e = e

park_keeps : {g : Setting} {P : State → Type 0} (F : IsStored g P) {s : State} (id k : ℕ) → P s → P (LivingTasks.park_call g id k s)
unfolding LivingTasks.park_call
park_keeps {g} {P} F {s = s} id k e = some_keeps F (ready_at s id) _ e (λ t is. at t is (stand (steps k t.task)))
  where
    parks : (t : Living) → ready_at s id ≡ Some t → (op : Op) → P (LivingTasks.park_op g id k t op s)
    parks t is (Create class) = e
    parks t is (Get o slot) = e
    parks t is (Put o slot value) = e
    parks t is (Call target method arguments) = F.frame s _ refl e

    at : (t : Living) → ready_at s id ≡ Some t → (stands : Stand) → P (LivingTasks.park_at g id k t stands s)
    at t is Runs = e
    at t is (AsksFor op) = parks t is op
    at t is (HasEnded outcome) = e

give_back_keeps : {g : Setting} {P : State → Type 0} (F : IsStored g P) {s : State} (id k : ℕ) → P s → P (LivingTasks.give_back id k s)
unfolding LivingTasks.give_back
give_back_keeps F {s = s} id k e = some_keeps F (ready_at s id) _ e (λ t is. F.frame s _ refl e)

finish_keeps : {g : Setting} {P : State → Type 0} (F : IsStored g P) {s : State} (id k : ℕ) → P s → P (LivingTasks.finish_task g id k s)
unfolding LivingTasks.finish_task
finish_keeps {g} {P} F {s = s} id k e = some_keeps F (ready_at s id) _ e (λ t is. at (LivingTasks.after_steps k t) (stand (steps k t.task)))
  where
    at : (t : Living) (stands : Stand) → P (LivingTasks.end_at g id t stands s)
    at t Runs = e
    at t (AsksFor op) = e
    at t (HasEnded outcome) = end_with_keeps F id t outcome e

-- ---- parked frames

answer_threw_keeps : {g : Setting} {P : State → Type 0} (F : IsStored g P) {s : State} (conn number : ℕ) (class : ClassId) → P s → P (ParkedFrames.answer_threw conn number class s)
answer_threw_keeps F conn number class e = send_keeps F _ conn _ e

start_call_keeps : {g : Setting} {P : State → Type 0} (F : IsStored g P) {s : State} (p : ParkedFrame) (target : ObjId) (method fuel : ℕ) (arguments : List Value)
    → P s → P (ParkedFrames.start_call g p target method fuel arguments s)
unfolding ParkedFrames.start_call
start_call_keeps {g} {P} F {s = s} p target method fuel arguments e = some_keeps F (object_at s target) _ e (λ o is. selected _ (g.classes.selected o.class method))
  where
    selected : (receiver : Ref) (found : Option ℕ) → P (ParkedFrames.start_selected g p.conn p.number receiver found fuel arguments s)
    selected receiver None = answer_threw_keeps F p.conn p.number _ e
    selected receiver (Some m) = add_task_keeps F _ m _ fuel e

answer_parked_keeps : {g : Setting} {P : State → Type 0} (F : IsStored g P) {s : State} (p : ParkedFrame) (reply : Reply) → P s → P (ParkedFrames.answer_parked g p reply s)
unfolding ParkedFrames.answer_parked
answer_parked_keeps F {s = s} p reply e = some_keeps F (find (ParkedFrames.is_call_on p.conn p.number) s.requests) _ e (λ r is.
    reply_to_keeps F r.asked reply (send_keeps F _ p.conn _ (F.frame s _ refl e)))

go_keeps : {g : Setting} {P : State → Type 0} (F : IsStored g P) {s : State} (p : ParkedFrame) → P s → P (ParkedFrames.go g s p)
unfolding ParkedFrames.go
go_keeps {g} {P} F {s = s} p e = some_keeps F (find (ParkedFrames.is_parked_at p.conn p.number) s.parked) _ e (λ q is. let_go_keeps F p s.parked (frame q q.frame (F.frame s _ refl e)))
  where
    frame : (q : ParkedFrame) (f : Frame) {t : State} → P t → P (ParkedFrames.go_frame g q f t)
    frame q (CallFrame target method fuel arguments) h = start_call_keeps F q target method fuel arguments h
    frame q (ReturnedFrame value fuel) h = answer_parked_keeps F q _ h

go_all_keeps : {g : Setting} {P : State → Type 0} (F : IsStored g P) {s : State} → P s → P (ParkedFrames.go_all g s)
unfolding ParkedFrames.go_all
go_all_keeps F e = each_keeps F _ _ (λ t p h. go_keeps F p h) e

park_frame_keeps : {g : Setting} {P : State → Type 0} (F : IsStored g P) {s : State} (conn number : ℕ) (f : Frame) (references : List ForeignId)
    → P s → P (ParkedFrames.park_frame g conn number f references s)
unfolding ParkedFrames.park_frame
park_frame_keeps F {s = s} conn number f references e = go_all_keeps F (hold_keeps F references (F.frame s _ refl e))

fail_parked_keeps : {g : Setting} {P : State → Type 0} (F : IsStored g P) {s : State} (p : ParkedFrame) → P s → P (ParkedFrames.fail_parked g s p)
unfolding ParkedFrames.fail_parked
fail_parked_keeps {g} {P} F {s = s} p e = frame p.frame (let_go_keeps F p s.parked (F.frame s _ refl e))
  where
    frame : (f : Frame) {t : State} → P t → P (ParkedFrames.fail_frame g p f t)
    frame (CallFrame target method fuel arguments) h = answer_threw_keeps F p.conn p.number _ h
    frame (ReturnedFrame value fuel) h = answer_parked_keeps F p _ h

-- ---- endings

fail_dirty_keeps : {g : Setting} {P : State → Type 0} (F : IsStored g P) {s : State} (call : ℕ) (id : ForeignId) → P s → P (Endings.fail_dirty g call s id)
unfolding Endings.fail_dirty
fail_dirty_keeps F {s = s} call id e = if_keeps F (Rattle.dgc_client.specs.Lease.is_made (Holders.lease_now s id).dirty call && is_none (Holders.lease_now s id).lease) (each_keeps F _ (filter (ParkedFrames.names id) s.parked) (λ t p h. fail_parked_keeps F p h) (F.frame s _ refl e)) (F.frame s _ refl e)

fail_group_keeps : {g : Setting} {P : State → Type 0} (F : IsStored g P) {s : State} (kind : Due) (b : Group) (call : ℕ) → P s → P (Endings.fail_group g kind b call s)
fail_group_keeps F due.Dirty b call e = each_keeps F _ _ (λ t x h. fail_dirty_keeps F call x h) e
fail_group_keeps F (due.Clean strong) b call e = each_keeps F _ _ (λ t x h. F.frame t _ refl h) e

end_asked_keeps : {g : Setting} {P : State → Type 0} (F : IsStored g P) {s : State} (class : ClassId) (asked : Asked) → P s → P (Endings.end_asked g class asked s)
end_asked_keeps F class (Calls number task lent kind m) e = reply_to_keeps F (Calls number task lent kind m) _ e
end_asked_keeps F class (LooksUp number task name) e = reply_to_keeps F (LooksUp number task name) _ e
end_asked_keeps F class (Tells call group) e = fail_group_keeps F group.kind group call e

end_requests_keeps : {g : Setting} {P : State → Type 0} (F : IsStored g P) {s : State} (is : Request → Bool) (why : Asked → ClassId) → P s → P (Endings.end_requests g is why s)
unfolding Endings.end_requests
end_requests_keeps F {s = s} is why e =
    each_keeps F _ _ (λ t q h. end_asked_keeps F (why q.asked) q.asked h)
    (each_keeps F _ _ (λ t q h. end_asked_keeps F (why q.asked) q.asked h) (F.frame s _ refl e))

end_connection_keeps : {g : Setting} {P : State → Type 0} (F : IsStored g P) {s : State} (why : Asked → ClassId) (conn : ℕ) → P s → P (Endings.end_connection g why conn s)
unfolding Endings.end_connection
end_connection_keeps F {s = s} why conn e = some_keeps F (connection_at s conn) _ e (λ c is. end_requests_keeps F _ why
    (each_keeps F _ _ (λ t p h. let_go_keeps F p t.parked (F.frame t _ refl h)) (F.frame s _ refl e)))

close_keeps : {g : Setting} {P : State → Type 0} (F : IsStored g P) {s : State} (class : ClassId) (conn : ℕ) → P s → P (Endings.close g class conn s)
unfolding Endings.close
close_keeps F class conn e = F.frame _ _ refl (end_connection_keeps F (λ asked. class) conn e)

fail_write_keeps : {g : Setting} {P : State → Type 0} (F : IsStored g P) {s : State} (conn unsent : ℕ) → P s → P (Endings.fail_write g conn unsent s)
unfolding Endings.fail_write
fail_write_keeps F conn unsent e = end_connection_keeps F _ conn e

-- ---- frames

say_hello_keeps : {g : Setting} {P : State → Type 0} (F : IsStored g P) {s : State} (version conn : ℕ) → P s → P (Frames.say_hello g version conn s)
say_hello_keeps {g} F {s = s} version conn e = F.frame (State.send Rattle.sp_rules.specs.Events.Hellos conn (message.Hello version g.id g.digest) s) _ refl (send_keeps F _ conn _ e)

dial_again_keeps : {g : Setting} {P : State → Type 0} (F : IsStored g P) {s : State} (peer : Uuid) → P s → P (Requests.dial peer s)
unfolding Requests.dial
dial_again_keeps F {s = s} peer e = if_keeps F (is_some (State.connection_to s peer) || State.is_dialling s peer) e (F.frame s _ refl e)

redial_keeps : {g : Setting} {P : State → Type 0} (F : IsStored g P) {s : State} (peer : Uuid) (conn : ℕ) → P s → P (Endings.redial peer conn s)
unfolding Endings.redial
redial_keeps F {s = s} peer conn e = dial_again_keeps F peer (F.frame _ _ refl (each_keeps F _ _ (λ t p h. let_go_keeps F p t.parked (F.frame t _ refl h)) (F.frame s _ refl e)))

first_frame_keeps : {g : Setting} {P : State → Type 0} (F : IsStored g P) {s : State} (c : Connection) (m : Message) → P s → P (Frames.first_frame g c m s)
unfolding Frames.first_frame
first_frame_keeps {g} {P} F {s = s} c (message.Hello version space digest) e = some_keeps F c.dialled _ (if_keeps F _ (if_keeps F (nat_le 2 g.version) (say_hello_keeps F _ c.number known) known) (close_keeps F _ c.number e))
    (λ peer is. if_keeps F _ (if_keeps F (version == c.version) (flush_keeps F peer c.number known) (if_keeps F (nat_le 2 c.version && version == 1) (redial_keeps F peer c.number e) (close_keeps F _ c.number e))) (close_keeps F _ c.number e))
  where
    known : P (Frames.greeted space c.number s)
    known = F.frame s _ refl e
first_frame_keeps F c _ e = close_keeps F _ c.number e

release_keeps : {g : Setting} {P : State → Type 0} (F : IsStored g P) {s : State} (is : State.KeptResult → Bool) → P s → P (Frames.release g is s)
unfolding Frames.release
release_keeps F {s = s} is e = each_keeps F _ _ (λ t r h. drop_keeps F _ h) (F.frame s _ refl e)

call_of_keeps : {g : Setting} {P : State → Type 0} (F : IsStored g P) {s : State} (conn number : ℕ) (o : State.Object) (method fuel : ℕ) (arguments : List Value)
    → P s → P (Frames.call_of g conn number o method fuel arguments s)
call_of_keeps {g} F {s = s} conn number o method fuel arguments e =
    if_keeps F (not (g.classes.may_call o.class method) || (not (Classes.fit_kinds (g.classes.parameters method) arguments)
    || list_any (Holders.is_refused g s) (references_of arguments)))
    (answer_threw_keeps F conn number g.classes.unmarshal e)
    (if_keeps F (Frames.is_busy s) (answer_threw_keeps F conn number g.classes.server_error e)
    (park_frame_keeps F conn number (CallFrame o.id method fuel arguments) _ e))

got_call_keeps : {g : Setting} {P : State → Type 0} (F : IsStored g P) {s : State} (c : Connection) (number : ℕ) (target : ObjId) (method fuel : ℕ) (arguments : List Value)
    → P s → P (Frames.got_call g c number target method fuel arguments s)
unfolding Frames.got_call
got_call_keeps {g} {P} F {s = s} c number target method fuel arguments e = if_keeps F (nat_le number c.last) (close_keeps F _ c.number e) (on (object_at s target))
  where
    on : (o : Option State.Object) → P (Frames.call_on g c.number number o method fuel arguments (Frames.counted c.number number s))
    on None = answer_threw_keeps F c.number number _ (F.frame s _ refl e)
    on (Some o) = call_of_keeps F c.number number o method fuel arguments (F.frame s _ refl e)

got_lookup_keeps : {g : Setting} {P : State → Type 0} (F : IsStored g P) {s : State} (c : Connection) (number : ℕ) (name : List ℕ) → P s → P (Frames.got_lookup g c number name s)
unfolding Frames.got_lookup
got_lookup_keeps {g} {P} F {s = s} c number name e = if_keeps F (nat_le number c.last) (close_keeps F _ c.number e) (on (Frames.object_of s (registry.lookup s.owner.names name)))
  where
    on : (o : Option State.Object) → P (Frames.found g c.number number o (Frames.counted c.number number s))
    on None = answer_threw_keeps F c.number number _ (F.frame s _ refl e)
    on (Some o) = send_keeps F Rattle.sp_rules.specs.Events.Replies c.number _ (keep_keeps F (State.Acked c.number number) (Some (values.Ref (record { space = g.id; id = o.id; class = o.class }))) (F.frame s _ refl e))

got_ack_keeps : {g : Setting} {P : State → Type 0} (F : IsStored g P) {s : State} (c : Connection) (number : ℕ) → P s → P (Frames.got_ack g c number s)
unfolding Frames.got_ack
got_ack_keeps F {s = s} c number e = if_keeps F (list_any (Frames.is_acked_by c.number number) s.results) (release_keeps F _ e) (close_keeps F _ c.number e)

answered_by_keeps : {g : Setting} {P : State → Type 0} (F : IsStored g P) {s : State} (c : Connection) (number : ℕ) (next : Asked → State → State)
    → ((asked : Asked) → P (next asked s)) → P s → P (Frames.answered_by g c number next s)
unfolding Frames.answered_by
answered_by_keeps F {s = s} c number next h e = some_keeps F (find (ParkedFrames.is_asked_on c.number number) s.requests) _ (close_keeps F _ c.number e) (λ q is. h q.asked)

returned_keeps : {g : Setting} {P : State → Type 0} (F : IsStored g P) {s : State} (c : Connection) (number fuel : ℕ) (value : Option Value) (asked : Asked)
    → P s → P (Frames.returned_for g c number fuel value asked s)
returned_keeps F {s = s} c number fuel value asked e =
    if_keeps F _ (reply_to_keeps F asked _ (send_keeps F _ c.number _ (F.frame s _ refl e))) (park_frame_keeps F c.number number _ _ (F.frame s _ refl e))

ends_as_keeps : {g : Setting} {P : State → Type 0} (F : IsStored g P) {s : State} (c : Connection) (number : ℕ) (reply : Asked → Reply) (asked : Asked)
    → P s → P (Frames.ends_as g c number reply asked s)
ends_as_keeps F {s = s} c number reply asked e = reply_to_keeps F asked _ (F.frame s _ refl e)

told_by_keeps : {g : Setting} {P : State → Type 0} (F : IsStored g P) {s : State} (c : Connection) (dirty : Bool) (sequence : ℕ) (event : ℕ → lease_events.Event)
    → P s → P (Frames.told_by g c dirty sequence event s)
unfolding Frames.told_by
told_by_keeps {P = P} F {s = s} c dirty sequence event e = some_keeps F (find (Frames.tells_on dirty c.number sequence) s.requests) _ (close_keeps F _ c.number e)
    (λ q is. go_all_keeps F (tells q.asked (F.frame s _ refl e)))
  where
    tells : (asked : Asked) {t : State} → P t → P (Frames.group_told event asked t)
    tells (Calls n task lent kind m) h = h
    tells (LooksUp n task name) h = h
    tells (Tells call group) {t = t} h = F.frame t _ refl h

got_keeps : {g : Setting} {P : State → Type 0} (F : IsStored g P) {s : State} (c : Connection) (m : Message) → P s → P (Frames.got g c m s)
unfolding Frames.got Frames.got_dirty Frames.got_clean
got_keeps F c (message.Hello version space digest) e = close_keeps F _ c.number e
got_keeps F c (message.Call number object method fuel arguments) e = got_call_keeps F c number object method fuel arguments e
got_keeps F c (message.Returned number fuel value) e = answered_by_keeps F c number _ (λ asked. returned_keeps F c number fuel value asked e) e
got_keeps {g} F c (message.Threw number class) e = answered_by_keeps F c number _ (λ asked. ends_as_keeps F c number (λ a. Frames.thrown_reply g class) asked e) e
got_keeps {g} F c (message.Spent number) e = answered_by_keeps F c number _ (λ asked. ends_as_keeps F c number (Frames.spent_reply g) asked e) e
got_keeps F c (message.Ack number) e = got_ack_keeps F c number e
got_keeps F {s = s} c (message.Dirty sequence period objects) e = if_keeps F (Frames.fit_frame c objects) (send_keeps F _ c.number _ (F.frame s _ refl e)) (close_keeps F _ c.number e)
got_keeps F c (message.Lease sequence period) e = told_by_keeps F c true sequence _ e
got_keeps F {s = s} c (message.Clean sequence strong objects) e = if_keeps F (Frames.fit_frame c objects) (send_keeps F _ c.number _ (F.frame s _ refl e)) (close_keeps F _ c.number e)
got_keeps F c (message.Cleaned sequence) e = told_by_keeps F c false sequence _ e
got_keeps F c (message.Lookup number name) e = got_lookup_keeps F c number name e

receive_keeps : {g : Setting} {P : State → Type 0} (F : IsStored g P) {s : State} (c : Connection) (m : Message) → P s → P (Frames.receive g c m s)
unfolding Frames.receive
receive_keeps F c m e = if_keeps F (is_none c.peer) (first_frame_keeps F c m e) (if_keeps F _ (close_keeps F _ c.number e) (got_keeps F c m e))

received_keeps : {g : Setting} {P : State → Type 0} (F : IsStored g P) {s : State} (c : Option Connection) (m : Message) → P s → P (OwnEvents.received_on g c m s)
received_keeps F None m e = e
received_keeps F (Some c) m e = receive_keeps F c m e

-- ---- own events

moment_keeps : {g : Setting} {P : State → Type 0} (F : IsStored g P) {s : State} (moment : ℕ) → P s → P (OwnEvents.on_moment g moment s)
unfolding OwnEvents.on_moment
moment_keeps F {s = s} moment e = if_keeps F (nat_lt moment s.moment) e (release_keeps F _ (F.frame s _ refl e))

names_keeps : {g : Setting} {P : State → Type 0} (F : IsStored g P) {s : State} (r : Result (List Binding) RegistryFault) → P s → P (OwnEvents.set_names r s)
unfolding OwnEvents.set_names
names_keeps F {s = s} (Ok names) e = F.frame s _ refl e
names_keeps F {s = s} (Err why) e = F.frame s _ refl e

lookup_keeps : {g : Setting} {P : State → Type 0} (F : IsStored g P) {s : State} (peer : Uuid) (name : List ℕ) → P s → P (OwnEvents.on_lookup g peer name s)
unfolding OwnEvents.on_lookup
lookup_keeps F {s = s} peer name e = if_keeps F (Rattle.sp_registry.specs.Names.is_name name) (F.frame s _ refl e) (F.frame s _ refl e)

opened_keeps : {g : Setting} {P : State → Type 0} (F : IsStored g P) {s : State} (conn : ℕ) (dialled : Option Uuid) → P s → P (OwnEvents.on_opened g conn dialled s)
unfolding OwnEvents.on_opened
opened_keeps {g} F {s = s} conn None e = if_keeps F (nat_le 2 g.version) (F.frame s _ refl e) (say_hello_keeps F 1 conn (F.frame s (OwnEvents.add_connection conn None s) refl e))
opened_keeps F {s = s} conn (Some peer) e = say_hello_keeps F _ conn (F.frame s (OwnEvents.dialled_no_more (Some peer) (OwnEvents.add_connection conn (Some peer) s)) refl e)

refused_keeps : {g : Setting} {P : State → Type 0} (F : IsStored g P) {s : State} (peer : Uuid) → P s → P (OwnEvents.on_refused g peer s)
unfolding OwnEvents.on_refused
refused_keeps F {s = s} peer e = end_requests_keeps F _ _ (F.frame s _ refl e)

-- ---- events

-- every event but a Sweep and an operation that is done
abbrev pub leaves_store : Event → Bool
leaves_store Sweep = false
leaves_store (Committed task k op) = false
leaves_store _ = true

happen_keeps : {g : Setting} {P : State → Type 0} (F : IsStored g P) {s : State} (e : Event) → leaves_store e ≡ true → P s → P (Space.happen g e s)
unfolding Space.happen
happen_keeps F (Moment moment) t h = moment_keeps F moment h
happen_keeps F Sweep t h = absurd (true≢false (sym t))
happen_keeps F (Root method arguments fuel) t h = add_task_keeps F OfRoot method arguments fuel h
happen_keeps F (RootAck task) t h = release_keeps F _ h
happen_keeps F (Bind name value) t h = names_keeps F _ h
happen_keeps F (Rebind name value) t h = names_keeps F _ h
happen_keeps F (Unbind name) t h = names_keeps F _ h
happen_keeps F (Lookup peer name) t h = lookup_keeps F peer name h
happen_keeps F (Opened conn dialled) t h = opened_keeps F conn dialled h
happen_keeps F (Refused peer) t h = refused_keeps F peer h
happen_keeps F {s = s} (Received conn m) t h = received_keeps F (connection_at s conn) m h
happen_keeps F (Closed conn) t h = end_connection_keeps F _ conn h
happen_keeps F (ReadFailed conn) t h = end_connection_keeps F _ conn h
happen_keeps F (Bad conn) t h = end_connection_keeps F _ conn h
happen_keeps F (WriteFailed conn unsent) t h = fail_write_keeps F conn unsent h
happen_keeps F (Committed task k op) t h = absurd (true≢false (sym t))
happen_keeps F (Parked task k) t h = park_keeps F task k h
happen_keeps F (GivenBack task k) t h = give_back_keeps F task k h
happen_keeps F (Finished task k) t h = finish_keeps F task k h

abbrev Stores : List Stored → State → Type 0
Stores store t = t.store ≡ store

stored : (g : Setting) (store : List Stored) → IsStored g (Stores store)
stored g store = record { frame = λ s t e h. e ∙ h }

framed : (store : List Stored) → IsFramed (Stores store)
framed store = record { frame = λ s t e h. ap (λ (c : Core). c.store) e ∙ h }

pub finished : (answers : Bool) (t : State) → (Space.finish_event answers t).0.store ≡ t.store
finished answers t = finish_event_keeps (framed t.store) {s = t} answers refl

-- such an event leaves the store as it was
pub left : (g : Setting) (e : Event) (s : State) → leaves_store e ≡ true → (Space.on g e s).0.store ≡ s.store
unfolding Space.on
left g e s t = finished (Space.answers_outputs e) (Space.happen g e s) ∙ happen_keeps (stored g s.store) {s = s} e t refl

-- ---- a Sweep

withdrawn-store : (g : Setting) (s : State) (going : List State.Object) → (OwnEvents.withdraw g s going).store ≡ Gone (map (λ (o : State.Object). o.id) going) ∷ s.store
withdrawn-store g s going =
    let store : List Stored = Gone (map (λ (o : State.Object). o.id) going) ∷ s.store in
    let t : State = record s { store = Gone (map (λ (o : State.Object). o.id) going) ∷ s.store } in
    let start : Stores store t = refl in
    let told : Stores store (each (λ u id. tell_owner (owner.Forget id) u) (map (λ (o : State.Object). o.id) going) t) = each_keeps (stored g store) _ _ (λ u id h. h) start in
    each_keeps (stored g store) (λ u (o : State.Object). Holders.drop g (references_of (Holders.fields_of g s o)) u) going (λ u o h. drop_keeps (stored g store) _ h) told

-- a Sweep tells what is gone, if anything is
pub swept : (g : Setting) (s : State) → (Space.on g Sweep s).0.store ≡ store_left s (OwnEvents.without_reason g s)
unfolding Space.on Space.happen OwnEvents.on_sweep
swept g s = finished true (OwnEvents.sweep_of g s (OwnEvents.without_reason g s)) ∙ of (OwnEvents.without_reason g s)
  where
    of : (going : List State.Object) → (OwnEvents.sweep_of g s going).store ≡ store_left s going
    of [] = refl
    of (o ∷ os) = withdrawn-store g s (o ∷ os)

-- ---- an operation that is done

-- the store with a new object, unless there are too many
abbrev pub made_in : List Stored → ℕ → ClassId → List Stored
made_in store made class = if nat_le 65536 (length (State.standing store)) then store else Made (record { 0 = made + 1 }) class ∷ store

-- what an operation makes of a store
abbrev pub stored_by : Op → List Stored → ℕ → List Stored
stored_by (Create class) store made = made_in store made class
stored_by (Get id slot) store made = store
stored_by (Put id slot value) store made = Written id slot value ∷ store
stored_by (Call target method arguments) store made = store

held-store : (ids : List ForeignId) (s : State) → (hold_ids ids s).store ≡ s.store
unfolding hold_ids each
held-store [] s = refl
held-store (r ∷ ids) s = held-store ids (Holders.holder_comes s r)

dropped-store : (ids : List ForeignId) (s : State) → (drop_ids ids s).store ≡ s.store
unfolding drop_ids each
dropped-store [] s = refl
dropped-store (r ∷ ids) s = dropped-store ids (Holders.holder_goes s r)

held-made : (ids : List ForeignId) (s : State) → (hold_ids ids s).objects_made ≡ s.objects_made
unfolding hold_ids each
held-made [] s = refl
held-made (r ∷ ids) s = held-made ids (Holders.holder_comes s r)

after-op : (g : Setting) (op : Op) (s : State) → (LivingTasks.after_op g op s).store ≡ stored_by op s.store s.objects_made
unfolding LivingTasks.after_op
after-op g (Create class) s = pick (LivingTasks.is_full s)
  where
    pick : (full : Bool) → (if full then s else record s { objects_made = s.objects_made + 1; store = Made (LivingTasks.next_object s) class ∷ s.store }).store
        ≡ (if full then s.store else Made (record { 0 = s.objects_made + 1 }) class ∷ s.store)
    pick true = refl
    pick false = refl
after-op g (Get id slot) s = refl
after-op g (Put id slot value) s =
    let t : State = record s { store = Written id slot value ∷ s.store } in
    dropped-store (foreign_ids g.id (References.references_in (LivingTasks.value_at g s id slot (object_at s id)))) (Holders.hold g (References.reference_of value) t)
    ∙ held-store (foreign_ids g.id (References.reference_of value)) t
after-op g (Call target method arguments) s = refl

-- an operation that is done changes the store as it says; it is not done where no such task may go on
pub committed : (g : Setting) (task k : ℕ) (op : Op) (s : State) → ((Space.on g (Committed task k op) s).0.store ≡ s.store) ⊎ ((Space.on g (Committed task k op) s).0.store ≡ stored_by op s.store s.objects_made)
unfolding Space.on Space.happen LivingTasks.commit
committed g task k op s = by (ready_at s task)
  where
    reply : Reply
    reply = LivingTasks.op_reply g op s

    row : State
    row = set_task (λ (u : Living). LivingTasks.after_reply g reply (LivingTasks.after_steps k u)) task s

    ids : Living → List ForeignId
    ids t = foreign_ids g.id (gained t.task (answer g reply (steps k t.task)))

    by : (found : Option Living) → ((with_some found s (λ t. LivingTasks.after_op g op (hold_ids (ids t) row))).store ≡ s.store)
        ⊎ ((with_some found s (λ t. LivingTasks.after_op g op (hold_ids (ids t) row))).store ≡ stored_by op s.store s.objects_made)
    by None = inl refl
    by (Some t) = inr (after-op g op (hold_ids (ids t) row) ∙ (ap (λ store. stored_by op store (hold_ids (ids t) row).objects_made) (held-store (ids t) row) ∙ ap (stored_by op s.store) (held-made (ids t) row)))
