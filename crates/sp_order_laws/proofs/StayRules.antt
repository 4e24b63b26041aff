-- Requests that stay: each rule keeps what is sent and not answered among them, up to the frames that come.
use mathlib.Core.Path.{ap}
use Rattle.std.proofs.Common.{arith}
use Rattle.std.specs.Prelude.{◌≡◌, ◌≤◌, refl, ℕ, ◌+◌, ◌==◌, ◌&&◌, ◌||◌, nat_lt, nat_le, is_some, is_none, Bool, true, false, List, [], ◌∷◌, Option, None, Some, Result, Ok, Err, filter, find, if◌then◌else◌}
use Rattle.space_ids.specs.declared.ids.ClassId.{ClassId}
use Rattle.space_ids.specs.declared.ids.ForeignId.{ForeignId}
use Rattle.space_ids.specs.declared.ids.ObjId.{ObjId}
use Rattle.space_ids.specs.declared.ids.Ref.{Ref}
use Rattle.space_ids.specs.declared.value.Value.{Value}
use Rattle.uuid.specs.declared.Uuid.{Uuid}
use Rattle.dgc_client.specs.Lease as lease
use Rattle.dgc_client.specs.Table as client
use Rattle.dgc_client.specs.Table.{numbers_of}
use Rattle.dgc_client.specs.declared.groups.Group.{Group}
use Rattle.dgc_client.specs.declared.lease.Due.TheVariants as due
use Rattle.dgc_client.specs.declared.lease.Due.{Due}
use Rattle.net_message.specs.declared.message.Message.TheVariants as message
use Rattle.net_message.specs.declared.message.Message.{Message}
use Rattle.sp_registry.specs.declared.fault.RegistryFault.{RegistryFault}
use Rattle.sp_registry.specs.declared.registry.Binding.{Binding}
use Rattle.sp_rules.specs.Behaviours.{Outcome, Returned, Threw, Spent, Op, Create, Get, Put, Call, Reply, GivesBack, Throws}
use Rattle.sp_rules.specs.Classes.{Setting}
use Rattle.sp_rules.specs.Endings
use Rattle.sp_rules.specs.Events.{Ended, Dial, Close, Turn, Sends, Says, Hellos, Replies, Output}
use Rattle.sp_rules.specs.Frames
use Rattle.sp_rules.specs.Holders
use Rattle.sp_rules.specs.Holders.{hold_ids, drop_ids}
use Rattle.sp_rules.specs.Laws.{AllOf}
use Rattle.sp_rules.specs.Lists.{each, with_some}
use Rattle.sp_rules.specs.LivingTasks
use Rattle.sp_rules.specs.OwnEvents
use Rattle.sp_rules.specs.ParkedFrames
use Rattle.sp_rules.specs.Requests
use Rattle.sp_rules.specs.State as state
use Rattle.sp_rules.specs.State.{State, Object, Living, Origin, OfRoot, OfCall, Until, Request, Asked, Calls, LooksUp, Tells, Stage, Waits, Out, Connection, KeptResult, Frame, CallFrame, ReturnedFrame, ParkedFrame, task_at, ready_at, object_at, connection_at, connection_to, is_open, set_task, say, send}
use Rattle.sp_rules.specs.Tasks.{Stand, Runs, AsksFor, HasEnded, stand, steps}
use Rattle.sp_rules.proofs.AllLemmas.{all-weaken, all-found, all-filter}
use Rattle.sp_laws.specs.Waiting.{count}
use Rattle.sp_laws.specs.CallSent.{is_send}
use Rattle.sp_order_laws.proofs.RisingHistories.{keep_each}
use Rattle.sp_order_laws.proofs.RisingMoves.{IsSaid}
use Rattle.sp_order_laws.specs.Asked.{is_request, out_on}
use Rattle.sp_order_laws.proofs.StayMoves.{Aim, is_told, P, noted, Spares, SparesFrame, SparesParked, notes_s, quiet-note, more_s, out_s, fewer_s, call-none, waits-none, other-none, others_s, parks_s, takes_s, fresh_s, first_s}

-- ---- small steps

pub if_s : {A : Aim} {t u : State} (b : Bool) → P A t → P A u → P A (if b then t else u)
if_s true h k = h
if_s false h k = k

pub some_s : {A : Aim} {X : Type 0} {t : State} (x : Option X) (f : X → State) → P A t → ((a : X) → x ≡ Some a → P A (f a)) → P A (with_some x t f)
some_s None f h k = h
some_s (Some a) f h k = k a refl

-- each of a list of which something is known
pub each_all : {A : Aim} {X : Type 0} {s : State} (Is : X → Type 0) (f : State → X → State) (xs : List X) → AllOf Is xs → ((t : State) (x : X) → Is x → P A t → P A (f t x)) → P A s → P A (each f xs s)
unfolding each
each_all Is f [] a k h = h
each_all {s = s} Is f (x ∷ xs) a k h = each_all Is f xs a.1 k (k s x a.0 h)

pub each_s : {A : Aim} {X : Type 0} {s : State} (f : State → X → State) (xs : List X) → ((t : State) (x : X) → P A t → P A (f t x)) → P A s → P A (each f xs s)
each_s {A} f xs k h = keep_each (P A) f xs k h

pub says_s : {A : Aim} {s : State} (o : Output) → is_send o ≡ false → P A s → P A (say o s)
says_s o is h = record { stays = notes_s (Says o) refl is h.stays }

-- a frame that asks for nothing, of which something is known
pub send_may : {A : Aim} {s : State} (turn : Turn) (n : ℕ) (m : Message) → is_request m ≡ false → A.May n m → P A s → P A (send turn n m s)
unfolding send
send_may {A} {s} turn n m quiet may h = if_s (is_open s n) (record { stays = notes_s (Sends turn n m) (quiet-note A turn n m quiet) may h.stays }) h

pub send_s : {A : Aim} {s : State} (turn : Turn) (n : ℕ) (m : Message) → is_request m ≡ false → is_told m ≡ false → P A s → P A (send turn n m s)
send_s {A} turn n m quiet plain h = send_may turn n m quiet (A.plain n m plain) h

pub hold_s : {A : Aim} {s : State} (ids : List ForeignId) → P A s → P A (hold_ids ids s)
unfolding hold_ids
hold_s ids h = each_s Holders.holder_comes ids (λ t x k. record { stays = k.stays }) h

pub drop_s : {A : Aim} {s : State} (ids : List ForeignId) → P A s → P A (drop_ids ids s)
unfolding drop_ids
drop_s ids h = each_s Holders.holder_goes ids (λ t x k. record { stays = k.stays }) h

let_go_s : {A : Aim} {s : State} (p : ParkedFrame) (parked : List ParkedFrame) → P A s → P A (ParkedFrames.let_go_parked p parked s)
let_go_s {A} p parked h = each_s _ (filter (ParkedFrames.is_parked_at p.conn p.number) parked) (λ t q k. drop_s q.references k) h

-- ---- tasks

pub add_task_s : {A : Aim} {s : State} (g : Setting) (origin : Origin) (method : ℕ) (arguments : List Value) (fuel : ℕ) → P A s → P A (LivingTasks.add_task g origin method arguments fuel s)
unfolding LivingTasks.add_task
add_task_s g origin method arguments fuel h = says_s _ refl (hold_s _ (says_s _ refl (record { stays = h.stays })))

pub keep_s : {A : Aim} {s : State} (g : Setting) (until : Until) (value : Option Value) → P A s → P A (LivingTasks.keep g until value s)
keep_s g until value h = hold_s _ (record { stays = h.stays })

keep_result_s : {A : Aim} {s : State} (g : Setting) (until : Until) (outcome : Outcome) → P A s → P A (LivingTasks.keep_result g until outcome s)
keep_result_s g until (Returned value) h = keep_s g until value h
keep_result_s g until (Threw class) h = h
keep_result_s g until Spent h = h

report_s : {A : Aim} {s : State} (g : Setting) (origin : Origin) (id fuel : ℕ) (outcome : Outcome) → P A s → P A (LivingTasks.report g origin id fuel outcome s)
report_s g OfRoot id fuel outcome h = keep_result_s g (state.RootAcked id) outcome h
report_s {A} {s} g (OfCall conn number) id fuel outcome h = if_s (is_open s conn) (replies outcome) h
  where
    replies : (o : Outcome) → P A (send Replies conn (LivingTasks.reply_frame g number fuel o) (LivingTasks.keep_result g (state.Acked conn number) o s))
    replies (Returned value) = send_s Replies conn _ refl refl (keep_result_s g (state.Acked conn number) (Returned value) h)
    replies (Threw class) = send_s Replies conn _ refl refl h
    replies Spent = send_s Replies conn _ refl refl h

end_with_s : {A : Aim} {s : State} (g : Setting) (id : ℕ) (t : Living) (outcome : Outcome) → P A s → P A (LivingTasks.end_with g id t outcome s)
end_with_s g id t outcome h = drop_s _ (report_s g t.origin id t.task.fuel outcome (says_s (Ended id outcome) refl (record { stays = h.stays })))

pub reply_to_s : {A : Aim} {s : State} (g : Setting) (asked : Asked) (reply : Reply) → P A s → P A (LivingTasks.reply_to g asked reply s)
unfolding LivingTasks.reply_to LivingTasks.reply_task
reply_to_s {A} {s} g (Calls number task lent kind m) reply h = some_s (task_at s task) _ h (λ t is. says_s _ refl (hold_s _ (record { stays = h.stays })))
reply_to_s g (LooksUp number task name) reply h = keep_result_s g (state.RootAcked task) (LivingTasks.outcome_of reply) (says_s (Ended task (LivingTasks.outcome_of reply)) refl h)
reply_to_s g (Tells call group) reply h = h

after_op_s : {A : Aim} {s : State} (g : Setting) (op : Op) → P A s → P A (LivingTasks.after_op g op s)
unfolding LivingTasks.after_op
after_op_s {s = s} g (Create class) h = if_s (LivingTasks.is_full s) h (record { stays = h.stays })
after_op_s g (Get id slot) h = h
after_op_s g (Put id slot value) h = drop_s _ (hold_s _ (record { stays = h.stays }))
after_op_s g (Call target method arguments) h = h

pub commit_s : {A : Aim} {s : State} (g : Setting) (id k : ℕ) (op : Op) → P A s → P A (LivingTasks.commit g id k op s)
unfolding LivingTasks.commit
commit_s {A} {s} g id k op h = some_s (ready_at s id) _ h (λ t is. after_op_s g op (hold_s _ (record { stays = h.stays })))

pub give_back_s : {A : Aim} {s : State} (id k : ℕ) → P A s → P A (LivingTasks.give_back id k s)
unfolding LivingTasks.give_back
give_back_s {A} {s} id k h = some_s (ready_at s id) _ h (λ t is. record { stays = h.stays })

pub park_s : {A : Aim} {s : State} (g : Setting) (id k : ℕ) → P A s → P A (LivingTasks.park_call g id k s)
unfolding LivingTasks.park_call
park_s {A} {s} g id k h = some_s (ready_at s id) _ h (λ t is. at t (stand (steps k t.task)))
  where
    parks : (t : Living) (op : Op) → P A (LivingTasks.park_op g id k t op s)
    parks t (Create class) = h
    parks t (Get o slot) = h
    parks t (Put o slot value) = h
    parks t (Call target method arguments) = record { stays = fresh_s _ ((target.id, (method, (_, (arguments, refl)))), tt) h.stays }

    at : (t : Living) (stands : Stand) → P A (LivingTasks.park_at g id k t stands s)
    at t Runs = h
    at t (AsksFor op) = parks t op
    at t (HasEnded outcome) = h

pub finish_s : {A : Aim} {s : State} (g : Setting) (id k : ℕ) → P A s → P A (LivingTasks.finish_task g id k s)
unfolding LivingTasks.finish_task
finish_s {A} {s} g id k h = some_s (ready_at s id) _ h (λ t is. at t (stand (steps k t.task)))
  where
    at : (t : Living) (stands : Stand) → P A (LivingTasks.end_at g id (LivingTasks.after_steps k t) stands s)
    at t Runs = h
    at t (AsksFor op) = h
    at t (HasEnded outcome) = end_with_s g id (LivingTasks.after_steps k t) outcome h

-- ---- parked frames

start_call_s : {A : Aim} {s : State} (g : Setting) (p : ParkedFrame) (target : ObjId) (method fuel : ℕ) (arguments : List Value) → P A s → P A (ParkedFrames.start_call g p target method fuel arguments s)
unfolding ParkedFrames.start_call
start_call_s {A} {s} g p target method fuel arguments h = some_s (object_at s target) _ h (λ o is. selected (record { space = g.id; id = target; class = o.class }) (g.classes.selected o.class method))
  where
    selected : (receiver : Ref) (found : Option ℕ) → P A (ParkedFrames.start_selected g p.conn p.number receiver found fuel arguments s)
    selected receiver None = send_s _ p.conn _ refl refl h
    selected receiver (Some m) = add_task_s g (OfCall p.conn p.number) m _ fuel h

-- calls under a number that is spared go
pub calls_go_s : {A : Aim} {s : State} (c n : ℕ) → Spares A c n → P A s → P A (ParkedFrames.remove_requests (ParkedFrames.is_call_on c n) s)
calls_go_s {A} {s} c n spares h = record { stays = fewer_s (ParkedFrames.is_call_on c n) (all-weaken (λ (q : Request). IsSaid q.asked) _ s.requests (λ q said e. call-none A c n spares q said e) h.stays.said) h.stays }

answer_parked_s : {A : Aim} {s : State} (g : Setting) (p : ParkedFrame) (reply : Reply) → Spares A p.conn p.number → P A s → P A (ParkedFrames.answer_parked g p reply s)
unfolding ParkedFrames.answer_parked
answer_parked_s {A} {s} g p reply spares h = some_s (find (ParkedFrames.is_call_on p.conn p.number) s.requests) _ h (λ q is. reply_to_s g q.asked reply (send_s _ p.conn (message.Ack p.number) refl refl (calls_go_s p.conn p.number spares h)))

go_frame_s : {A : Aim} {s : State} (g : Setting) (p : ParkedFrame) (f : Frame) → SparesFrame A p.conn p.number f → P A s → P A (ParkedFrames.go_frame g p f s)
go_frame_s g p (CallFrame target method fuel arguments) spares h = start_call_s g p target method fuel arguments h
go_frame_s g p (ReturnedFrame value fuel) spares h = answer_parked_s g p (GivesBack value fuel) spares h

go_s : {A : Aim} {s : State} (g : Setting) (p : ParkedFrame) → P A s → P A (ParkedFrames.go g s p)
unfolding ParkedFrames.go
go_s {A} {s} g p h = some_s (find (ParkedFrames.is_parked_at p.conn p.number) s.parked) _ h (λ q is. let_go_s p s.parked (go_frame_s g q q.frame (all-found (SparesParked A) (ParkedFrames.is_parked_at p.conn p.number) s.parked q is h.stays.parked) (record { stays = takes_s _ h.stays })))

pub go_all_s : {A : Aim} {s : State} (g : Setting) → P A s → P A (ParkedFrames.go_all g s)
unfolding ParkedFrames.go_all
go_all_s g h = each_s _ _ (λ t p k. go_s g p k) h

pub park_frame_s : {A : Aim} {s : State} (g : Setting) (conn number : ℕ) (frame : Frame) (references : List ForeignId) → SparesFrame A conn number frame → A.Frame (record { conn = conn; number = number; frame = frame; references = references }) → P A s → P A (ParkedFrames.park_frame g conn number frame references s)
unfolding ParkedFrames.park_frame
park_frame_s g conn number frame references spares known h = go_all_s g (hold_s references (record { stays = parks_s (record { conn = conn; number = number; frame = frame; references = references }) spares known h.stays }))

fail_parked_s : {A : Aim} {s : State} (g : Setting) (p : ParkedFrame) → SparesParked A p → P A s → P A (ParkedFrames.fail_parked g s p)
unfolding ParkedFrames.fail_parked
fail_parked_s {A} {s} g p spares h = frame p.frame spares (let_go_s p s.parked (record { stays = takes_s _ h.stays }))
  where
    frame : (f : Frame) {t : State} → SparesFrame A p.conn p.number f → P A t → P A (ParkedFrames.fail_frame g p f t)
    frame (CallFrame target method fuel arguments) a k = send_s _ p.conn _ refl refl k
    frame (ReturnedFrame value fuel) a k = answer_parked_s g p (Throws g.classes.unmarshal) a k

-- ---- endings

fail_dirty_s : {A : Aim} {s : State} (g : Setting) (call : ℕ) (id : ForeignId) → P A s → P A (Endings.fail_dirty g call s id)
unfolding Endings.fail_dirty
fail_dirty_s {A} {s} g call id h = if_s (lease.is_made (Holders.lease_now s id).dirty call && is_none (Holders.lease_now s id).lease)
    (each_all (SparesParked A) (ParkedFrames.fail_parked g) (filter (ParkedFrames.names id) s.parked) (all-filter (SparesParked A) (ParkedFrames.names id) s.parked h.stays.parked) (λ t p spares k. fail_parked_s g p spares k) (record { stays = h.stays })) (record { stays = h.stays })

fail_group_s : {A : Aim} {s : State} (g : Setting) (kind : Due) (b : Group) (call : ℕ) → P A s → P A (Endings.fail_group g kind b call s)
fail_group_s g due.Dirty b call h = each_s _ _ (λ t x k. fail_dirty_s g call x k) h
fail_group_s g (due.Clean strong) b call h = each_s _ _ (λ t x k. record { stays = k.stays }) h

end_asked_s : {A : Aim} {s : State} (g : Setting) (class : ClassId) (asked : Asked) → P A s → P A (Endings.end_asked g class asked s)
end_asked_s g class (Calls number task lent kind m) h = reply_to_s g (Calls number task lent kind m) (Throws class) h
end_asked_s g class (LooksUp number task name) h = reply_to_s g (LooksUp number task name) (Throws class) h
end_asked_s g class (Tells call group) h = fail_group_s g group.kind group call h

pub end_requests_s : {A : Aim} {s : State} (g : Setting) (is : Request → Bool) (why : Asked → ClassId) → ((q : Request) → is q ≡ true → out_on A.conn A.is q ≡ 0) → P A s → P A (Endings.end_requests g is why s)
unfolding Endings.end_requests
end_requests_s {A} {s} g is why none h = each_s _ _ (λ t q k. end_asked_s g (why q.asked) q.asked k) (each_s _ _ (λ t q k. end_asked_s g (why q.asked) q.asked k)
    (record { stays = fewer_s is (all-weaken (λ (q : Request). IsSaid q.asked) _ s.requests (λ q said e. none q e) h.stays.said) h.stays }))

let_connection_go_s : {A : Aim} {s : State} (conn : ℕ) → (conn == A.conn) ≡ false → P A s → P A (Endings.let_connection_go conn s)
let_connection_go_s conn apart h = each_s _ _ (λ t p k. let_go_s p t.parked (record { stays = takes_s _ k.stays })) (record { stays = others_s conn apart h.stays })

pub end_connection_s : {A : Aim} {s : State} (g : Setting) (why : Asked → ClassId) (conn : ℕ) → (conn == A.conn) ≡ false → P A s → P A (Endings.end_connection g why conn s)
unfolding Endings.end_connection
end_connection_s {A} {s} g why conn apart h = some_s (connection_at s conn) _ h (λ c is. end_requests_s g _ why (λ q e. other-none A conn c.dialled apart q e) (let_connection_go_s conn apart h))

-- ---- requests

-- a frame that is noted as its request goes out
noted-out : (A : Aim) (turn : Turn) (n : ℕ) (m : Message) → noted A (Sends turn n m) ≤ count (n == A.conn && A.is m)
noted-out A turn n m = by (n == A.conn) (is_request m) (A.is m)
  where
    by : (a b c : Bool) → count (a && (b && c)) ≤ count (a && c)
    by true true c = self (count c)
      where
        self : (k : ℕ) → k ≤ k
        self k = omega arith
    by true false true = omega arith
    by true false false = omega arith
    by false b c = omega arith

goes_s : {A : Aim} {s : State} (turn : Turn) (n : ℕ) (m : Message) (q : Request) → IsSaid q.asked → noted A (Sends turn n m) ≤ out_on A.conn A.is q → is_told m ≡ false → P A s → P A (send turn n m (Requests.add_request q s))
unfolding send
goes_s {A} {s} turn n m q said le plain h = if_s (is_open s n) (record { stays = out_s q (Sends turn n m) said le (A.plain n m plain) h.stays }) (record { stays = more_s q said h.stays })

group-plain : (kind : Due) (sequence : ℕ) (ids : List ObjId) → is_told (Requests.group_frame kind sequence ids) ≡ false
group-plain due.Dirty sequence ids = refl
group-plain (due.Clean strong) sequence ids = refl

part_s : {A : Aim} {s : State} (turn : Turn) (n call : ℕ) (part : Group) → P A s → P A (Requests.part_goes_out turn n call s part)
unfolding Requests.part_goes_out
part_s {A} {s} turn n call part h = goes_s turn n _ (record { peer = part.peer; asked = Tells call part; stage = Out n (numbers_of s.leases + 1) }) tt (noted-out A turn n (Requests.group_frame part.kind (numbers_of s.leases + 1) part.ids)) (group-plain part.kind (numbers_of s.leases + 1) part.ids) (record { stays = h.stays })

go_out_s : {A : Aim} {s : State} (turn : Turn) (n : ℕ) (q : Request) → IsSaid q.asked → P A s → P A (Requests.go_out turn n q s)
unfolding Requests.go_out
go_out_s {A} {s} turn n q said h = goes q.asked said
  where
    goes : (asked : Asked) → IsSaid asked → P A (Requests.goes_out turn n q.peer asked s)
    goes (Calls number task lent kind m) k = goes_s turn n m (record { peer = q.peer; asked = Calls number task lent kind m; stage = Out n 0 }) k (noted-out A turn n m) (ap is_told k.1.1.1.1) h
    goes (LooksUp number task name) k = goes_s turn n (message.Lookup number name) (record { peer = q.peer; asked = LooksUp number task name; stage = Out n 0 }) tt (noted-out A turn n (message.Lookup number name)) refl h
    goes (Tells call group) k = each_s _ _ (λ t part j. part_s turn n call part j) h

dial_s : {A : Aim} {s : State} (peer : Uuid) → P A s → P A (Requests.dial peer s)
unfolding Requests.dial
dial_s {A} {s} peer h = if_s (is_some (connection_to s peer) || state.is_dialling s peer) h (says_s (Dial peer) refl (record { stays = h.stays }))

-- a peer of version 1 alone is dialled again
pub redial_s : {A : Aim} {s : State} (peer : Uuid) (conn : ℕ) → (conn == A.conn) ≡ false → P A s → P A (Endings.redial peer conn s)
unfolding Endings.redial
redial_s {A} {s} peer conn apart h = dial_s peer (says_s (Close conn) refl (let_connection_go_s {s = Endings.note_peer peer s} conn apart (record { stays = h.stays })))

ask_s : {A : Aim} {s : State} (q : Request) → IsSaid q.asked → P A s → P A (Requests.ask s q)
unfolding Requests.ask
ask_s {A} {s} q said h = some_s (Requests.hello_came (connection_to s q.peer)) _ (dial_s q.peer (record { stays = more_s q said h.stays })) (λ n is. go_out_s _ n q said h)

pub flush_s : {A : Aim} {s : State} (peer : Uuid) (n : ℕ) → P A s → P A (Requests.flush_waiting peer n s)
unfolding Requests.flush_waiting
flush_s {A} {s} peer n h = each_all (λ (q : Request). IsSaid q.asked) _ (filter (Requests.waits_for peer) s.requests) (all-filter (λ (q : Request). IsSaid q.asked) (Requests.waits_for peer) s.requests h.stays.said) (λ t q said k. go_out_s _ n q said k)
    (record { stays = fewer_s (Requests.waits_for peer) (all-weaken (λ (q : Request). IsSaid q.asked) _ s.requests (λ q said e. waits-none A peer q e) h.stays.said) h.stays })

group_s : {A : Aim} {s : State} (b : Group) → P A s → P A (Requests.make_group s b)
unfolding Requests.make_group
group_s {A} {s} b h = ask_s {s = record s { groups_made = s.groups_made + 1; leases = client.made b (s.groups_made + 1) s.leases }} (record { peer = b.peer; asked = Tells (s.groups_made + 1) b; stage = Waits }) tt (record { stays = h.stays })

pub settle_s : {A : Aim} {s : State} → P A s → P A (Requests.settle s)
unfolding Requests.settle Requests.make_due Requests.ask_fresh
settle_s {A} {s} h = asks (Requests.make_due s) (each_s _ _ (λ t b k. group_s b k) h)
  where
    asks : (t : State) → P A t → P A (each Requests.ask t.fresh (record t { fresh = [] }))
    asks t k = each_all (λ (q : Request). IsSaid q.asked) Requests.ask t.fresh k.stays.fresh (λ u q said j. ask_s q said j) (record { stays = fresh_s [] tt k.stays })

-- ---- own events

pub release_s : {A : Aim} {s : State} (g : Setting) (is : KeptResult → Bool) → P A s → P A (Frames.release g is s)
unfolding Frames.release
release_s {A} {s} g is h = each_s _ _ (λ t q k. drop_s _ k) (record { stays = h.stays })

pub moment_s : {A : Aim} {s : State} (g : Setting) (moment : ℕ) → P A s → P A (OwnEvents.on_moment g moment s)
unfolding OwnEvents.on_moment
moment_s {A} {s} g moment h = if_s (nat_lt moment s.moment) h (release_s g _ (record { stays = h.stays }))

pub sweep_s : {A : Aim} {s : State} (g : Setting) → P A s → P A (OwnEvents.on_sweep g s)
unfolding OwnEvents.on_sweep
sweep_s {A} {s} g h = sweeps (OwnEvents.without_reason g s)
  where
    sweeps : (gone : List Object) → P A (OwnEvents.sweep_of g s gone)
    sweeps [] = h
    sweeps (o ∷ os) = says_s _ refl (each_s _ (o ∷ os) (λ t p k. drop_s _ k) (each_s _ _ (λ t id k. record { stays = k.stays }) (record { stays = h.stays })))

pub names_s : {A : Aim} {s : State} (x : Result (List Binding) RegistryFault) → P A s → P A (OwnEvents.set_names x s)
unfolding OwnEvents.set_names
names_s (Ok names) h = record { stays = h.stays }
names_s (Err why) h = says_s _ refl h

pub lookup_s : {A : Aim} {s : State} (g : Setting) (peer : Uuid) (name : List ℕ) → P A s → P A (OwnEvents.on_lookup g peer name s)
unfolding OwnEvents.on_lookup
lookup_s {A} {s} g peer name h = if_s (Rattle.sp_registry.specs.Names.is_name name) (says_s _ refl (record { stays = fresh_s _ (tt, tt) h.stays })) (says_s _ refl h)

pub say_hello_s : {A : Aim} {s : State} (g : Setting) (version conn : ℕ) → P A s → P A (Frames.say_hello g version conn s)
say_hello_s {A} {s} g version conn h = of (send_s Hellos conn (message.Hello version g.id g.digest) refl refl h)
  where
    of : P A (send Hellos conn (message.Hello version g.id g.digest) s) → P A (Frames.say_hello g version conn s)
    of k = record { stays = first_s conn (λ (c : Connection). record c { version = version }) (λ c. refl) k.stays }

pub opened_s : {A : Aim} (s : State) (g : Setting) (conn : ℕ) (dialled : Option Uuid) → P A (OwnEvents.add_connection conn dialled s) → P A (OwnEvents.on_opened g conn dialled s)
unfolding OwnEvents.on_opened
opened_s s g conn None h = if_s (nat_le 2 g.version) h (say_hello_s g 1 conn h)
opened_s s g conn (Some peer) h = say_hello_s {s = OwnEvents.dialled_no_more (Some peer) (OwnEvents.add_connection conn (Some peer) s)} g _ conn (record { stays = h.stays })

pub refused_s : {A : Aim} {s : State} (g : Setting) (peer : Uuid) → P A s → P A (OwnEvents.on_refused g peer s)
unfolding OwnEvents.on_refused
refused_s {A} g peer h = end_requests_s g (Requests.waits_for peer) _ (λ q e. waits-none A peer q e) (record { stays = h.stays })
