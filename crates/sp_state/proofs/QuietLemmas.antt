-- What most rules leave alone: the owner's parts, and whether an event may end. If a property looks at the objects, the names, the entries, the call and the notes
-- of the event alone, and early notes keep it, each of these rules keeps it.
use mathlib.Core.Path.{ap, ◌∙◌, sym, subst}
use Rattle.std.proofs.Common.{inl, inr, lit≤}
use Rattle.std.specs.Prelude.{◌≡◌, ◌≤◌, ◌⊎◌, refl, ℕ, not, ◌||◌, ◌&&◌, nat_le, ◌==◌, is_none, is_some, Bool, true, false, List, [], ◌∷◌, ◌++◌, Option, None, Some, filter, find, if◌then◌else◌}
use Rattle.std.specs.List.{list_any}
use Rattle.space_ids.specs.declared.ids.ClassId.{ClassId}
use Rattle.dgc_client.specs.History as lease_events
use Rattle.dgc_client.specs.declared.groups.Group.{Group}
use Rattle.dgc_client.specs.declared.lease.Due.{Due}
use Rattle.dgc_client.specs.declared.lease.Due.TheVariants as due
use Rattle.space_ids.specs.declared.ids.ForeignId.{ForeignId}
use Rattle.net_message.specs.declared.message.Message.{Message}
use Rattle.net_message.specs.declared.message.Message.TheVariants as message
use Rattle.sp_registry.specs.Bindings as registry
use Rattle.uuid.specs.declared.Uuid.{Uuid}
use Rattle.space_ids.specs.declared.ids.ObjId.{ObjId}
use Rattle.space_ids.specs.declared.ids.Ref.{Ref}
use Rattle.space_ids.specs.declared.value.Value.{Value}
use Rattle.space_ids.specs.declared.value.Value.TheVariants as values
use Rattle.sp_rules.specs.Behaviours.{Outcome, Returned, Threw, Spent, Reply}
use Rattle.sp_rules.specs.Classes
use Rattle.sp_rules.specs.Classes.{Setting}
use Rattle.sp_rules.specs.Endings
use Rattle.sp_rules.specs.Events.{Output, Turn, Hellos, Replies, Waited, Cleans, Acks, Note, Says, Sends, turn_rank}
use Rattle.sp_rules.specs.Frames
use Rattle.sp_rules.specs.Holders
use Rattle.sp_rules.specs.Holders.{hold_ids, drop_ids}
use Rattle.sp_rules.specs.Laws.{AllOf}
use Rattle.sp_rules.specs.Lists.{each, with_some}
use Rattle.sp_rules.specs.LivingTasks
use Rattle.sp_rules.specs.OwnEvents
use Rattle.sp_rules.specs.ParkedFrames
use Rattle.sp_rules.specs.References.{references_of, foreign_ids}
use Rattle.sp_rules.specs.Requests
use Rattle.sp_rules.specs.State
use Rattle.sp_rules.specs.State.{State, Living, Beginning, Origin, OfRoot, OfCall, Until, Request, Asked, Calls, LooksUp, Tells, Connection, Frame, CallFrame, ReturnedFrame, ParkedFrame, Owner, Stored, Made, Written, Gone, task_at, ready_at, set_task, set_connection, tell_owner, send, is_open, object_at, connection_at, connection_to}
use Rattle.sp_rules.specs.Tasks.{Stand, Runs, AsksFor, HasEnded, start, stand, steps}
use Rattle.sp_rules.proofs.AllLemmas.{all-more}
use Rattle.sp_owner.specs.Owners.{OwnerParts, owner_parts}
use Rattle.sp_transport.specs.Said.{IsNotAfterButAcks, is_acks}

-- ---- the parts that a property may look at

pub record Beside : Type 0 where
  pub objects_made : ℕ
  pub store : List Stored
  pub owner : Owner
  pub fresh : List Request
  pub notes : List Note

abbrev pub beside_of : State → Beside
beside_of s = record { objects_made = s.objects_made; store = s.store; owner = s.owner; fresh = s.fresh; notes = s.notes }

-- A frame of this turn may be noted before clean calls are, which come as the event ends.
abbrev pub IsEarly : Turn → Type 0
IsEarly turn = (turn_rank turn ≤ turn_rank Cleans) ⊎ (is_acks turn ≡ true)

pub replies-early : IsEarly Replies
replies-early = inl (lit≤ tt)

hellos-early : IsEarly Hellos
hellos-early = inl (lit≤ tt)

waited-early : IsEarly Waited
waited-early = inl (lit≤ tt)

pub acks-early : IsEarly Acks
acks-early = inr refl

-- A property is quiet if it looks at those parts alone, and what is noted before an event ends keeps it.
pub record IsQuiet (g : Setting) (P : State → Type 0) : Type 0 where
  pub frame : (s t : State) → beside_of t ≡ beside_of s → P s → P t
  pub noted : (s : State) (n : Note) → IsNotAfterButAcks Cleans n → P s → P (record s { notes = s.notes ++ n ∷ [] })

-- ---- small steps

if_keeps : {g : Setting} {P : State → Type 0} (F : IsQuiet g P) {t u : State} (b : Bool) → P t → P u → P (if b then t else u)
if_keeps F true e f = e
if_keeps F false e f = f

some_keeps : {g : Setting} {P : State → Type 0} (F : IsQuiet g P) {A : Type 0} {t : State} (x : Option A) (f : A → State)
    → P t → ((a : A) → x ≡ Some a → P (f a)) → P (with_some x t f)
some_keeps F None f e h = e
some_keeps F (Some a) f e h = h a refl

pub each_keeps : {g : Setting} {P : State → Type 0} (F : IsQuiet g P) {A : Type 0} {s : State} (f : State → A → State) (xs : List A)
    → ((t : State) (x : A) → P t → P (f t x)) → P s → P (each f xs s)
unfolding each
each_keeps F f [] h e = e
each_keeps F {s = s} f (x ∷ xs) h e = each_keeps F f xs h (h s x e)

pub say_keeps : {g : Setting} {P : State → Type 0} (F : IsQuiet g P) {s : State} (o : Output) → P s → P (State.say o s)
say_keeps F {s = s} o e = F.noted s (Says o) tt e

pub send_keeps : {g : Setting} {P : State → Type 0} (F : IsQuiet g P) {s : State} (turn : Turn) (conn : ℕ) (m : Message) → IsEarly turn → P s → P (send turn conn m s)
unfolding send
send_keeps F {s = s} turn conn m early e = if_keeps F (is_open s conn) (F.noted s (Sends turn conn m) early e) e

pub hold_keeps : {g : Setting} {P : State → Type 0} (F : IsQuiet g P) {s : State} (ids : List ForeignId) → P s → P (hold_ids ids s)
unfolding hold_ids
hold_keeps F ids e = each_keeps F Holders.holder_comes ids (λ t x h. F.frame t _ refl h) e

pub drop_keeps : {g : Setting} {P : State → Type 0} (F : IsQuiet g P) {s : State} (ids : List ForeignId) → P s → P (drop_ids ids s)
unfolding drop_ids
drop_keeps F ids e = each_keeps F Holders.holder_goes ids (λ t x h. F.frame t _ refl h) e

pub let_go_keeps : {g : Setting} {P : State → Type 0} (F : IsQuiet g P) {s : State} (p : ParkedFrame) (parked : List ParkedFrame) → P s → P (ParkedFrames.let_go_parked p parked s)
let_go_keeps F p parked e = each_keeps F _ (filter (ParkedFrames.is_parked_at p.conn p.number) parked) (λ t q h. drop_keeps F q.references h) e

-- ---- requests

pub part_keeps : {g : Setting} {P : State → Type 0} (F : IsQuiet g P) {s : State} (turn : Turn) (conn call : ℕ) (part : Group)
    → IsEarly turn → P s → P (Requests.part_goes_out turn conn call s part)
unfolding Requests.part_goes_out
part_keeps F {s = s} turn conn call part early e = send_keeps F turn conn _ early (F.frame s _ refl e)

pub go_out_keeps : {g : Setting} {P : State → Type 0} (F : IsQuiet g P) {s : State} (turn : Turn) (conn : ℕ) (q : Request) → IsEarly turn → P s → P (Requests.go_out turn conn q s)
unfolding Requests.go_out
go_out_keeps {P = P} F {s = s} turn conn q early e = goes q.asked
  where
    goes : (a : Asked) → P (Requests.goes_out turn conn q.peer a s)
    goes (Calls number task lent kind m) = send_keeps F turn conn m early (F.frame s _ refl e)
    goes (LooksUp number task name) = send_keeps F turn conn _ early (F.frame s _ refl e)
    goes (Tells call group) = each_keeps F _ _ (λ t part h. part_keeps F turn conn call part early h) e

pub flush_keeps : {g : Setting} {P : State → Type 0} (F : IsQuiet g P) {s : State} (peer : Uuid) (conn : ℕ) → P s → P (Requests.flush_waiting peer conn s)
unfolding Requests.flush_waiting
flush_keeps F {s = s} peer conn e = each_keeps F _ _ (λ t r h. go_out_keeps F Waited conn r waited-early h) (F.frame s _ refl e)

-- ---- tasks

pub add_task_keeps : {g : Setting} {P : State → Type 0} (F : IsQuiet g P) {s : State} (origin : Origin) (method : ℕ) (arguments : List Value) (fuel : ℕ)
    → P s → P (LivingTasks.add_task g origin method arguments fuel s)
unfolding LivingTasks.add_task
add_task_keeps {g} F {s = s} origin method arguments fuel e =
    say_keeps F _ (hold_keeps F (foreign_ids g.id (start g method arguments fuel).held) (say_keeps F _ (F.frame s _ refl e)))

pub keep_keeps : {g : Setting} {P : State → Type 0} (F : IsQuiet g P) {s : State} (until : Until) (value : Option Value) → P s → P (LivingTasks.keep g until value s)
keep_keeps F {s = s} until value e = hold_keeps F _ (F.frame s _ refl e)

pub keep_result_keeps : {g : Setting} {P : State → Type 0} (F : IsQuiet g P) {s : State} (until : Until) (outcome : Outcome) → P s → P (LivingTasks.keep_result g until outcome s)
keep_result_keeps F until (Returned value) e = keep_keeps F until value e
keep_result_keeps F until (Threw class) e = e
keep_result_keeps F until Spent e = e

pub report_keeps : {g : Setting} {P : State → Type 0} (F : IsQuiet g P) {s : State} (origin : Origin) (id fuel : ℕ) (outcome : Outcome) → P s → P (LivingTasks.report g origin id fuel outcome s)
report_keeps F OfRoot id fuel outcome e = keep_result_keeps F _ outcome e
report_keeps F {s = s} (OfCall conn number) id fuel outcome e = if_keeps F (is_open s conn) (send_keeps F _ conn _ replies-early (keep_result_keeps F _ outcome e)) e

pub end_with_keeps : {g : Setting} {P : State → Type 0} (F : IsQuiet g P) {s : State} (id : ℕ) (t : Living) (outcome : Outcome) → P s → P (LivingTasks.end_with g id t outcome s)
end_with_keeps F {s = s} id t outcome e = drop_keeps F _ (report_keeps F t.origin id t.task.fuel outcome (say_keeps F _ (F.frame s _ refl e)))

pub reply_task_keeps : {g : Setting} {P : State → Type 0} (F : IsQuiet g P) {s : State} (id : ℕ) (reply : Reply) → P s → P (LivingTasks.reply_task g id reply s)
unfolding LivingTasks.reply_task
reply_task_keeps F {s = s} id reply e = some_keeps F (task_at s id) _ e (λ t is. say_keeps F _ (hold_keeps F _ (F.frame s _ refl e)))

pub reply_to_keeps : {g : Setting} {P : State → Type 0} (F : IsQuiet g P) {s : State} (asked : Asked) (reply : Reply) → P s → P (LivingTasks.reply_to g asked reply s)
unfolding LivingTasks.reply_to
reply_to_keeps F (Calls number task lent kind m) reply e = reply_task_keeps F task reply e
reply_to_keeps F {s = s} (LooksUp number task name) reply e = keep_result_keeps F (State.RootAcked task) (LivingTasks.outcome_of reply) (say_keeps F _ e)
reply_to_keeps F (Tells call group) reply e = e

pub give_back_keeps : {g : Setting} {P : State → Type 0} (F : IsQuiet g P) {s : State} (id k : ℕ) → P s → P (LivingTasks.give_back id k s)
unfolding LivingTasks.give_back
give_back_keeps F {s = s} id k e = some_keeps F (ready_at s id) _ e (λ t is. F.frame s _ refl e)

pub finish_keeps : {g : Setting} {P : State → Type 0} (F : IsQuiet g P) {s : State} (id k : ℕ) → P s → P (LivingTasks.finish_task g id k s)
unfolding LivingTasks.finish_task
finish_keeps {g} {P} F {s = s} id k e = some_keeps F (ready_at s id) _ e (λ t is. at (LivingTasks.after_steps k t) (stand (steps k t.task)))
  where
    at : (t : Living) (stands : Stand) → P (LivingTasks.end_at g id t stands s)
    at t Runs = e
    at t (AsksFor op) = e
    at t (HasEnded outcome) = end_with_keeps F id t outcome e

-- ---- parked frames

pub answer_threw_keeps : {g : Setting} {P : State → Type 0} (F : IsQuiet g P) {s : State} (conn number : ℕ) (class : ClassId) → P s → P (ParkedFrames.answer_threw conn number class s)
answer_threw_keeps F conn number class e = send_keeps F _ conn _ replies-early e

pub start_call_keeps : {g : Setting} {P : State → Type 0} (F : IsQuiet g P) {s : State} (p : ParkedFrame) (target : ObjId) (method fuel : ℕ) (arguments : List Value)
    → P s → P (ParkedFrames.start_call g p target method fuel arguments s)
unfolding ParkedFrames.start_call
start_call_keeps {g} {P} F {s = s} p target method fuel arguments e = some_keeps F (object_at s target) _ e (λ o is. selected _ (g.classes.selected o.class method))
  where
    selected : (receiver : Ref) (found : Option ℕ) → P (ParkedFrames.start_selected g p.conn p.number receiver found fuel arguments s)
    selected receiver None = answer_threw_keeps F p.conn p.number _ e
    selected receiver (Some m) = add_task_keeps F _ m _ fuel e

pub answer_parked_keeps : {g : Setting} {P : State → Type 0} (F : IsQuiet g P) {s : State} (p : ParkedFrame) (reply : Reply) → P s → P (ParkedFrames.answer_parked g p reply s)
unfolding ParkedFrames.answer_parked
answer_parked_keeps F {s = s} p reply e = some_keeps F (find (ParkedFrames.is_call_on p.conn p.number) s.requests) _ e (λ r is.
    reply_to_keeps F r.asked reply (send_keeps F _ p.conn _ acks-early (F.frame s _ refl e)))

pub go_keeps : {g : Setting} {P : State → Type 0} (F : IsQuiet g P) {s : State} (p : ParkedFrame) → P s → P (ParkedFrames.go g s p)
unfolding ParkedFrames.go
go_keeps {g} {P} F {s = s} p e = some_keeps F (find (ParkedFrames.is_parked_at p.conn p.number) s.parked) _ e (λ q is. let_go_keeps F p s.parked (frame q q.frame (F.frame s _ refl e)))
  where
    frame : (q : ParkedFrame) (f : Frame) {t : State} → P t → P (ParkedFrames.go_frame g q f t)
    frame q (CallFrame target method fuel arguments) h = start_call_keeps F q target method fuel arguments h
    frame q (ReturnedFrame value fuel) h = answer_parked_keeps F q _ h

pub go_all_keeps : {g : Setting} {P : State → Type 0} (F : IsQuiet g P) {s : State} → P s → P (ParkedFrames.go_all g s)
unfolding ParkedFrames.go_all
go_all_keeps F e = each_keeps F _ _ (λ t p h. go_keeps F p h) e

pub park_frame_keeps : {g : Setting} {P : State → Type 0} (F : IsQuiet g P) {s : State} (conn number : ℕ) (f : Frame) (references : List ForeignId)
    → P s → P (ParkedFrames.park_frame g conn number f references s)
unfolding ParkedFrames.park_frame
park_frame_keeps F {s = s} conn number f references e = go_all_keeps F (hold_keeps F references (F.frame s _ refl e))

pub fail_parked_keeps : {g : Setting} {P : State → Type 0} (F : IsQuiet g P) {s : State} (p : ParkedFrame) → P s → P (ParkedFrames.fail_parked g s p)
unfolding ParkedFrames.fail_parked
fail_parked_keeps {g} {P} F {s = s} p e = frame p.frame (let_go_keeps F p s.parked (F.frame s _ refl e))
  where
    frame : (f : Frame) {t : State} → P t → P (ParkedFrames.fail_frame g p f t)
    frame (CallFrame target method fuel arguments) h = answer_threw_keeps F p.conn p.number _ h
    frame (ReturnedFrame value fuel) h = answer_parked_keeps F p _ h

-- ---- endings

pub fail_dirty_keeps : {g : Setting} {P : State → Type 0} (F : IsQuiet g P) {s : State} (call : ℕ) (id : ForeignId) → P s → P (Endings.fail_dirty g call s id)
unfolding Endings.fail_dirty
fail_dirty_keeps F {s = s} call id e = if_keeps F (Rattle.dgc_client.specs.Lease.is_made (Holders.lease_now s id).dirty call && is_none (Holders.lease_now s id).lease) (each_keeps F _ (filter (ParkedFrames.names id) s.parked) (λ t p h. fail_parked_keeps F p h) (F.frame s _ refl e)) (F.frame s _ refl e)

pub fail_group_keeps : {g : Setting} {P : State → Type 0} (F : IsQuiet g P) {s : State} (kind : Due) (b : Group) (call : ℕ) → P s → P (Endings.fail_group g kind b call s)
fail_group_keeps F due.Dirty b call e = each_keeps F _ _ (λ t x h. fail_dirty_keeps F call x h) e
fail_group_keeps F (due.Clean strong) b call e = each_keeps F _ _ (λ t x h. F.frame t _ refl h) e

pub end_asked_keeps : {g : Setting} {P : State → Type 0} (F : IsQuiet g P) {s : State} (class : ClassId) (asked : Asked) → P s → P (Endings.end_asked g class asked s)
end_asked_keeps F class (Calls number task lent kind m) e = reply_to_keeps F (Calls number task lent kind m) _ e
end_asked_keeps F class (LooksUp number task name) e = reply_to_keeps F (LooksUp number task name) _ e
end_asked_keeps F class (Tells call group) e = fail_group_keeps F group.kind group call e

pub end_requests_keeps : {g : Setting} {P : State → Type 0} (F : IsQuiet g P) {s : State} (is : Request → Bool) (why : Asked → ClassId) → P s → P (Endings.end_requests g is why s)
unfolding Endings.end_requests
end_requests_keeps F {s = s} is why e =
    each_keeps F _ _ (λ t q h. end_asked_keeps F (why q.asked) q.asked h)
    (each_keeps F _ _ (λ t q h. end_asked_keeps F (why q.asked) q.asked h) (F.frame s _ refl e))

pub end_connection_keeps : {g : Setting} {P : State → Type 0} (F : IsQuiet g P) {s : State} (why : Asked → ClassId) (conn : ℕ) → P s → P (Endings.end_connection g why conn s)
unfolding Endings.end_connection
end_connection_keeps F {s = s} why conn e = some_keeps F (connection_at s conn) _ e (λ c is. end_requests_keeps F _ why
    (each_keeps F _ _ (λ t p h. let_go_keeps F p t.parked (F.frame t _ refl h)) (F.frame s _ refl e)))

pub close_keeps : {g : Setting} {P : State → Type 0} (F : IsQuiet g P) {s : State} (class : ClassId) (conn : ℕ) → P s → P (Endings.close g class conn s)
unfolding Endings.close
close_keeps F class conn e = say_keeps F _ (end_connection_keeps F (λ asked. class) conn e)

pub fail_write_keeps : {g : Setting} {P : State → Type 0} (F : IsQuiet g P) {s : State} (conn unsent : ℕ) → P s → P (Endings.fail_write g conn unsent s)
unfolding Endings.fail_write
fail_write_keeps F conn unsent e = end_connection_keeps F _ conn e

-- ---- frames

pub say_hello_keeps : {g : Setting} {P : State → Type 0} (F : IsQuiet g P) {s : State} (version conn : ℕ) → P s → P (Frames.say_hello g version conn s)
say_hello_keeps {g} F {s = s} version conn e = F.frame (send Hellos conn (message.Hello version g.id g.digest) s) _ refl (send_keeps F Hellos conn _ hellos-early e)

dial_keeps : {g : Setting} {P : State → Type 0} (F : IsQuiet g P) {s : State} (peer : Uuid) → P s → P (Requests.dial peer s)
unfolding Requests.dial
dial_keeps F {s = s} peer e = if_keeps F (is_some (State.connection_to s peer) || State.is_dialling s peer) e (say_keeps F _ (F.frame s _ refl e))

pub redial_keeps : {g : Setting} {P : State → Type 0} (F : IsQuiet g P) {s : State} (peer : Uuid) (conn : ℕ) → P s → P (Endings.redial peer conn s)
unfolding Endings.redial
redial_keeps F {s = s} peer conn e = dial_keeps F peer (say_keeps F _ (each_keeps F _ _ (λ t p h. let_go_keeps F p t.parked (F.frame t _ refl h)) (F.frame s _ refl e)))

pub first_frame_keeps : {g : Setting} {P : State → Type 0} (F : IsQuiet g P) {s : State} (c : Connection) (m : Message) → P s → P (Frames.first_frame g c m s)
unfolding Frames.first_frame
first_frame_keeps {g} {P} F {s = s} c (message.Hello version space digest) e = some_keeps F c.dialled _ (if_keeps F _ (if_keeps F (nat_le 2 g.version) (say_hello_keeps F _ c.number known) known) (close_keeps F _ c.number e))
    (λ peer is. if_keeps F _ (if_keeps F (version == c.version) (flush_keeps F peer c.number known) (if_keeps F (nat_le 2 c.version && version == 1) (redial_keeps F peer c.number e) (close_keeps F _ c.number e))) (close_keeps F _ c.number e))
  where
    known : P (Frames.greeted space c.number s)
    known = F.frame s _ refl e
first_frame_keeps F c _ e = close_keeps F _ c.number e

pub release_keeps : {g : Setting} {P : State → Type 0} (F : IsQuiet g P) {s : State} (is : State.KeptResult → Bool) → P s → P (Frames.release g is s)
unfolding Frames.release
release_keeps F {s = s} is e = each_keeps F _ _ (λ t r h. drop_keeps F _ h) (F.frame s _ refl e)

pub call_of_keeps : {g : Setting} {P : State → Type 0} (F : IsQuiet g P) {s : State} (conn number : ℕ) (o : State.Object) (method fuel : ℕ) (arguments : List Value)
    → P s → P (Frames.call_of g conn number o method fuel arguments s)
call_of_keeps {g} F {s = s} conn number o method fuel arguments e =
    if_keeps F (not (g.classes.may_call o.class method) || (not (Classes.fit_kinds (g.classes.parameters method) arguments)
    || list_any (Holders.is_refused g s) (references_of arguments)))
    (answer_threw_keeps F conn number g.classes.unmarshal e)
    (if_keeps F (Frames.is_busy s) (answer_threw_keeps F conn number g.classes.server_error e)
    (park_frame_keeps F conn number (CallFrame o.id method fuel arguments) _ e))

pub got_call_keeps : {g : Setting} {P : State → Type 0} (F : IsQuiet g P) {s : State} (c : Connection) (number : ℕ) (target : ObjId) (method fuel : ℕ) (arguments : List Value)
    → P s → P (Frames.got_call g c number target method fuel arguments s)
unfolding Frames.got_call
got_call_keeps {g} {P} F {s = s} c number target method fuel arguments e = if_keeps F (nat_le number c.last) (close_keeps F _ c.number e) (on (object_at s target))
  where
    on : (o : Option State.Object) → P (Frames.call_on g c.number number o method fuel arguments (Frames.counted c.number number s))
    on None = answer_threw_keeps F c.number number _ (F.frame s _ refl e)
    on (Some o) = call_of_keeps F c.number number o method fuel arguments (F.frame s _ refl e)

pub got_lookup_keeps : {g : Setting} {P : State → Type 0} (F : IsQuiet g P) {s : State} (c : Connection) (number : ℕ) (name : List ℕ) → P s → P (Frames.got_lookup g c number name s)
unfolding Frames.got_lookup
got_lookup_keeps {g} {P} F {s = s} c number name e = if_keeps F (nat_le number c.last) (close_keeps F _ c.number e) (on (Frames.object_of s (registry.lookup s.owner.names name)))
  where
    on : (o : Option State.Object) → P (Frames.found g c.number number o (Frames.counted c.number number s))
    on None = answer_threw_keeps F c.number number _ (F.frame s _ refl e)
    on (Some o) = send_keeps F Rattle.sp_rules.specs.Events.Replies c.number _ replies-early (keep_keeps F (State.Acked c.number number) (Some (values.Ref (record { space = g.id; id = o.id; class = o.class }))) (F.frame s _ refl e))

pub got_ack_keeps : {g : Setting} {P : State → Type 0} (F : IsQuiet g P) {s : State} (c : Connection) (number : ℕ) → P s → P (Frames.got_ack g c number s)
unfolding Frames.got_ack
got_ack_keeps F {s = s} c number e = if_keeps F (list_any (Frames.is_acked_by c.number number) s.results) (release_keeps F _ e) (close_keeps F _ c.number e)

pub answered_by_keeps : {g : Setting} {P : State → Type 0} (F : IsQuiet g P) {s : State} (c : Connection) (number : ℕ) (next : Asked → State → State)
    → ((asked : Asked) → P (next asked s)) → P s → P (Frames.answered_by g c number next s)
unfolding Frames.answered_by
answered_by_keeps F {s = s} c number next h e = some_keeps F (find (ParkedFrames.is_asked_on c.number number) s.requests) _ (close_keeps F _ c.number e) (λ q is. h q.asked)

pub returned_keeps : {g : Setting} {P : State → Type 0} (F : IsQuiet g P) {s : State} (c : Connection) (number fuel : ℕ) (value : Option Value) (asked : Asked)
    → P s → P (Frames.returned_for g c number fuel value asked s)
returned_keeps F {s = s} c number fuel value asked e =
    if_keeps F _ (reply_to_keeps F asked _ (send_keeps F _ c.number _ acks-early (F.frame s _ refl e))) (park_frame_keeps F c.number number _ _ (F.frame s _ refl e))

pub ends_as_keeps : {g : Setting} {P : State → Type 0} (F : IsQuiet g P) {s : State} (c : Connection) (number : ℕ) (reply : Asked → Reply) (asked : Asked)
    → P s → P (Frames.ends_as g c number reply asked s)
ends_as_keeps F {s = s} c number reply asked e = reply_to_keeps F asked _ (F.frame s _ refl e)

pub told_by_keeps : {g : Setting} {P : State → Type 0} (F : IsQuiet g P) {s : State} (c : Connection) (dirty : Bool) (sequence : ℕ) (event : ℕ → lease_events.Event)
    → P s → P (Frames.told_by g c dirty sequence event s)
unfolding Frames.told_by
told_by_keeps {P = P} F {s = s} c dirty sequence event e = some_keeps F (find (Frames.tells_on dirty c.number sequence) s.requests) _ (close_keeps F _ c.number e)
    (λ q is. go_all_keeps F (tells q.asked (F.frame s _ refl e)))
  where
    tells : (asked : Asked) {t : State} → P t → P (Frames.group_told event asked t)
    tells (Calls n task lent kind m) h = h
    tells (LooksUp n task name) h = h
    tells (Tells call group) {t = t} h = F.frame t _ refl h

-- ---- own events

pub opened_keeps : {g : Setting} {P : State → Type 0} (F : IsQuiet g P) {s : State} (conn : ℕ) (dialled : Option Uuid) → P s → P (OwnEvents.on_opened g conn dialled s)
unfolding OwnEvents.on_opened
opened_keeps {g} F {s = s} conn None e = if_keeps F (nat_le 2 g.version) (F.frame s _ refl e) (say_hello_keeps F 1 conn (F.frame s (OwnEvents.add_connection conn None s) refl e))
opened_keeps {g} F {s = s} conn (Some peer) e = say_hello_keeps F _ conn (F.frame s (OwnEvents.dialled_no_more (Some peer) (OwnEvents.add_connection conn (Some peer) s)) refl e)

pub refused_keeps : {g : Setting} {P : State → Type 0} (F : IsQuiet g P) {s : State} (peer : Uuid) → P s → P (OwnEvents.on_refused g peer s)
unfolding OwnEvents.on_refused
refused_keeps F {s = s} peer e = end_requests_keeps F _ _ (F.frame s _ refl e)

-- ---- the owner's parts

abbrev pub HasParts : OwnerParts → State → Type 0
HasParts p s = owner_parts s ≡ p

abbrev parts_of : Beside → OwnerParts
parts_of b = record { store = b.store; objects_made = b.objects_made; names = b.owner.names; entries = b.owner.entries }

-- They are among the parts that a property may look at, and notes leave them.
pub parts-quiet : (g : Setting) (p : OwnerParts) → IsQuiet g (HasParts p)
parts-quiet g p = record {
  frame = λ s t same h. ap parts_of same ∙ h;
  noted = λ s n early h. h;
}

-- ---- ends of events

-- The event may end: all that it noted may stand before clean calls, and it made no call.
abbrev pub MayEnd : State → Type 0
MayEnd s = AllOf (IsNotAfterButAcks Cleans) s.notes × (s.fresh ≡ [])

abbrev MayEndWith : Beside → Type 0
MayEndWith b = AllOf (IsNotAfterButAcks Cleans) b.notes × (b.fresh ≡ [])

pub may-end-quiet : (g : Setting) → IsQuiet g MayEnd
may-end-quiet g = record {
  frame = λ s t same h. subst MayEndWith (sym same) h;
  noted = λ s n early h. (all-more (IsNotAfterButAcks Cleans) s.notes n h.0 early, h.1);
}
