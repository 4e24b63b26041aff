-- No rule of connections and frames makes fuel, nor does any event.
use Rattle.std.specs.Prelude.{◌≡◌, refl, cond, zero, suc, ℕ, ◌+◌, ◌-◌, ◌≤◌, ◌==◌, min, Bool, true, false, List, [], ◌∷◌, ◌++◌, Option, None, Some, Result, Ok, Err, filter, find, map, not, ◌||◌, ◌&&◌, is_none, is_some, nat_le, nat_lt, if◌then◌else◌}
use Rattle.std.proofs.Common.{arith}
use Rattle.std.specs.List.{list_all, list_any}
use Rattle.space_ids.specs.declared.ids.ClassId.{ClassId}
use Rattle.dgc_client.specs.History as lease_events
use Rattle.dgc_client.specs.declared.groups.Group.{Group}
use Rattle.dgc_client.specs.declared.lease.Due.{Due}
use Rattle.dgc_client.specs.declared.lease.Due.TheVariants as due
use Rattle.space_ids.specs.declared.ids.ForeignId.{ForeignId}
use Rattle.net_message.specs.declared.message.Message.{Message}
use Rattle.net_message.specs.declared.message.Message.TheVariants as message
use Rattle.sp_registry.specs.Bindings as registry
use Rattle.sp_registry.specs.declared.fault.RegistryFault.{RegistryFault}
use Rattle.sp_registry.specs.declared.registry.Binding.{Binding}
use Rattle.uuid.specs.declared.Uuid.{Uuid}
use Rattle.space_ids.specs.declared.ids.ObjId.{ObjId}
use Rattle.space_ids.specs.declared.ids.Ref.{Ref}
use Rattle.space_ids.specs.declared.value.Value.{Value}
use Rattle.space_ids.specs.declared.value.Value.TheVariants as values
use Rattle.sp_rules.specs.Behaviours.{Reply, GivesBack, Throws}
use Rattle.sp_rules.specs.Classes
use Rattle.sp_rules.specs.Classes.{Setting}
use Rattle.sp_rules.specs.Endings
use Rattle.sp_rules.specs.Events.{Event, Moment, Sweep, Root, RootAck, Bind, Rebind, Unbind, Lookup, Opened, Refused, Received, Closed, ReadFailed, Bad, WriteFailed, Committed, Parked, GivenBack, Finished, Started, Denied, Close, Hellos, Replies, Acks}
use Rattle.sp_rules.specs.Frames
use Rattle.sp_rules.specs.Fuel.{units, task_units, message_units, request_units, frame_units, parked_units, note_units, event_units}
use Rattle.sp_rules.specs.Holders
use Rattle.sp_rules.specs.Holders.{hold_ids, drop_ids}
use Rattle.sp_rules.specs.Lists.{each, total}
use Rattle.sp_rules.specs.LivingTasks
use Rattle.sp_rules.specs.OwnEvents
use Rattle.sp_rules.specs.ParkedFrames
use Rattle.sp_rules.specs.References.{references_in, references_of, foreign_ids}
use Rattle.sp_rules.specs.Requests.{flush_waiting}
use Rattle.sp_rules.specs.Space
use Rattle.sp_rules.specs.State
use Rattle.sp_rules.specs.State.{State, Request, Asked, Calls, LooksUp, Tells, Stage, Waits, Out, Answered, Origin, OfRoot, OfCall, Living, Until, Connection, Frame, CallFrame, ReturnedFrame, ParkedFrame, task_at, ready_at, set_task, send, is_open, object_at, connection_at, connection_to}
use Rattle.sp_rules.proofs.FuelSums.{total-snoc, total-filter, total-find, total-map, value_in, found-value}
use Rattle.sp_rules.proofs.FuelOfTasks.{Within, if_within, more, some_within, each_same, say_within, send_within, hold_within, drop_within, plus-zero, dial_within, flush_within, add_task_within, back, reply_to_within, give_back_within, commit_within, park_call_within, finish_within}

-- ---- connections

pub zero-units : {n k : ℕ} {s : State} → k ≡ 0 → Within (n + k) s → Within n s
zero-units {n} {k} {s} z e = let b : units s ≤ n + k = e.bound in record { bound = omega arith }

pub start_call_within : {n : ℕ} {s : State} (g : Setting) (p : ParkedFrame) (target : ObjId) (method fuel : ℕ) (arguments : List Value)
    → Within n s → Within (n + fuel) (ParkedFrames.start_call g p target method fuel arguments s)
unfolding ParkedFrames.start_call
start_call_within {n} {s} g p target method fuel arguments e = some_within (object_at s target) _ (more fuel e) (λ o is. selected _ _)
  where
    selected : (receiver : Ref) (found : Option ℕ) → Within (n + fuel) (ParkedFrames.start_selected g p.conn p.number receiver found fuel arguments s)
    selected receiver None = more fuel (plus-zero (send_within Replies p.conn (message.Threw p.number g.classes.server_error) e))
    selected receiver (Some m) = add_task_within g (OfCall p.conn p.number) m _ fuel e

-- requests go
pub remove_within : {n : ℕ} {s : State} (is : Request → Bool) → Within n s → Within n (ParkedFrames.remove_requests is s)
remove_within {n} {s} is e =
    let b : units s ≤ n = e.bound in
    let k : total request_units (filter (λ q. not (is q)) s.requests) ≤ total request_units s.requests = total-filter request_units (λ q. not (is q)) s.requests in
    record { bound = omega arith }

pub answer_parked_within : {n : ℕ} {s : State} (g : Setting) (p : ParkedFrame) (reply : Reply) → Within n s → Within (n + back reply) (ParkedFrames.answer_parked g p reply s)
unfolding ParkedFrames.answer_parked
answer_parked_within {n} {s} g p reply e = some_within (find (ParkedFrames.is_call_on p.conn p.number) s.requests) _ (more (back reply) e) (λ q is.
    reply_to_within g q.asked reply (plus-zero (send_within Acks p.conn (message.Ack p.number) (remove_within (ParkedFrames.is_call_on p.conn p.number) e))))

-- parked frames go
pub take_within : {n : ℕ} {s : State} (p : ParkedFrame) → Within n s → Within n (ParkedFrames.take_parked p s)
take_within {n} {s} p e =
    let b : units s ≤ n = e.bound in
    let k : total parked_units (filter (λ q. not (ParkedFrames.is_parked_at p.conn p.number q)) s.parked) ≤ total parked_units s.parked = total-filter parked_units (λ q. not (ParkedFrames.is_parked_at p.conn p.number q)) s.parked in
    record { bound = omega arith }

let_go_within : {n : ℕ} {s : State} (p : ParkedFrame) (parked : List ParkedFrame) → Within n s → Within n (ParkedFrames.let_go_parked p parked s)
let_go_within p parked e = each_same _ (filter (ParkedFrames.is_parked_at p.conn p.number) parked) (λ t q h. drop_within q.references h) e

pub go_frame_within : {n : ℕ} {s : State} (g : Setting) (q : ParkedFrame) (f : Frame) → Within n s → Within (n + frame_units f) (ParkedFrames.go_frame g q f s)
unfolding back
go_frame_within g q (CallFrame target method fuel arguments) e = start_call_within g q target method fuel arguments e
go_frame_within g q (ReturnedFrame value fuel) e = answer_parked_within g q (GivesBack value fuel) e

pub go_within : {n : ℕ} {s : State} (g : Setting) (p : ParkedFrame) → Within n s → Within n (ParkedFrames.go g s p)
unfolding ParkedFrames.go value_in
go_within {n} {s} g p e = some_within (find (ParkedFrames.is_parked_at p.conn p.number) s.parked) _ e (λ q is.
    let b : units s ≤ n = e.bound in
    let was : value_in parked_units (find (ParkedFrames.is_parked_at p.conn p.number) s.parked) ≡ parked_units q = found-value parked_units (find (ParkedFrames.is_parked_at p.conn p.number) s.parked) q is in
    let k : value_in parked_units (find (ParkedFrames.is_parked_at p.conn p.number) s.parked) + total parked_units (filter (λ r. not (ParkedFrames.is_parked_at p.conn p.number r)) s.parked) ≤ total parked_units s.parked
    = total-find parked_units (ParkedFrames.is_parked_at p.conn p.number) s.parked in
    let rows : List ParkedFrame = filter (λ r. not (ParkedFrames.is_parked_at p.conn p.number r)) s.parked in
    let m : ℕ = units (record s { parked = rows }) in
    let self : m ≤ m = omega arith in
    let out : Within (m + parked_units q) (ParkedFrames.let_go_parked p s.parked (ParkedFrames.go_frame g q q.frame (ParkedFrames.take_parked p s))) = let_go_within p s.parked (go_frame_within {n = m} g q q.frame (record { bound = self })) in
    let bound : units (ParkedFrames.let_go_parked p s.parked (ParkedFrames.go_frame g q q.frame (ParkedFrames.take_parked p s))) ≤ m + parked_units q = out.bound in
    record { bound = omega arith })

pub go_all_within : {n : ℕ} {s : State} (g : Setting) → Within n s → Within n (ParkedFrames.go_all g s)
unfolding ParkedFrames.go_all
go_all_within g e = each_same _ _ (λ t p h. go_within g p h) e

pub parked_within : {n : ℕ} {s : State} (p : ParkedFrame) → Within n s → Within (n + parked_units p) (record s { parked = s.parked ++ p ∷ [] })
parked_within {n} {s} p e =
    let b : units s ≤ n = e.bound in
    let k : total parked_units (s.parked ++ p ∷ []) ≡ total parked_units s.parked + parked_units p = total-snoc parked_units s.parked p in
    record { bound = omega arith }

pub park_frame_within : {n : ℕ} {s : State} (g : Setting) (conn number : ℕ) (f : Frame) (refs : List ForeignId) → Within n s → Within (n + frame_units f) (ParkedFrames.park_frame g conn number f refs s)
unfolding ParkedFrames.park_frame
park_frame_within g conn number f refs e = go_all_within g (hold_within refs (parked_within _ e))

pub fail_frame_within : {n : ℕ} {s : State} (g : Setting) (p : ParkedFrame) (f : Frame) → Within n s → Within n (ParkedFrames.fail_frame g p f s)
unfolding back
fail_frame_within g p (CallFrame target method fuel arguments) e = plus-zero (send_within Replies p.conn (message.Threw p.number g.classes.unmarshal) e)
fail_frame_within g p (ReturnedFrame value fuel) e = plus-zero (answer_parked_within g p (Throws g.classes.unmarshal) e)

pub fail_parked_within : {n : ℕ} {s : State} (g : Setting) (p : ParkedFrame) → Within n s → Within n (ParkedFrames.fail_parked g s p)
unfolding ParkedFrames.fail_parked
fail_parked_within g p e = fail_frame_within g p p.frame (let_go_within p _ (take_within p e))

pub fail_dirty_within : {n : ℕ} {s : State} (g : Setting) (call : ℕ) (id : ForeignId) → Within n s → Within n (Endings.fail_dirty g call s id)
unfolding Endings.fail_dirty
fail_dirty_within {n} {s} g call id e = pick _
  where
    t : State
    t = record s { leases = Rattle.dgc_client.specs.Table.On id (lease_events.DirtyFailed call) ∷ s.leases }

    h : Within n t
    h = record { bound = e.bound }

    pick : (b : Bool) → Within n (if b then each (ParkedFrames.fail_parked g) (filter (ParkedFrames.names id) s.parked) t else t)
    pick true = each_same _ _ (λ u p k. fail_parked_within g p k) h
    pick false = h

pub fail_group_within : {n : ℕ} {s : State} (g : Setting) (kind : Due) (b : Group) (call : ℕ) → Within n s → Within n (Endings.fail_group g kind b call s)
fail_group_within g due.Dirty b call e = each_same _ _ (λ t x h. fail_dirty_within g call x h) e
fail_group_within g (due.Clean strong) b call e = each_same _ _ (λ t x h. record { bound = h.bound }) e

pub end_asked_within : {n : ℕ} {s : State} (g : Setting) (class : ClassId) (asked : Asked) → Within n s → Within n (Endings.end_asked g class asked s)
unfolding back
end_asked_within g class (Calls number task lent kind m) e = plus-zero (reply_to_within g (Calls number task lent kind m) (Throws class) e)
end_asked_within g class (LooksUp number task name) e = plus-zero (reply_to_within g (LooksUp number task name) (Throws class) e)
end_asked_within g class (Tells call group) e = fail_group_within g group.kind group call e

pub end_requests_within : {n : ℕ} {s : State} (g : Setting) (is : Request → Bool) (why : Asked → ClassId) → Within n s → Within n (Endings.end_requests g is why s)
unfolding Endings.end_requests
end_requests_within g is why e =
    each_same _ _ (λ t q h. end_asked_within g (why q.asked) q.asked h)
    (each_same _ _ (λ t q h. end_asked_within g (why q.asked) q.asked h) (remove_within is e))

let_connection_go_within : {n : ℕ} {s : State} (conn : ℕ) → Within n s → Within n (Endings.let_connection_go conn s)
let_connection_go_within conn e = each_same _ _ (λ t p h. let_go_within p t.parked (take_within p h)) (record { bound = e.bound })

pub end_connection_within : {n : ℕ} {s : State} (g : Setting) (why : Asked → ClassId) (conn : ℕ) → Within n s → Within n (Endings.end_connection g why conn s)
unfolding Endings.end_connection
end_connection_within {n} {s} g why conn e = some_within (connection_at s conn) _ e (λ c is. end_requests_within g _ why (let_connection_go_within conn e))

pub close_within : {n : ℕ} {s : State} (g : Setting) (class : ClassId) (conn : ℕ) → Within n s → Within n (Endings.close g class conn s)
unfolding Endings.close
close_within g class conn e = plus-zero (say_within (Close conn) (end_connection_within g (λ asked. class) conn e))

redial_within : {n : ℕ} {s : State} (peer : Uuid) (conn : ℕ) → Within n s → Within n (Endings.redial peer conn s)
unfolding Endings.redial
redial_within {n} {s} peer conn e = dial_within peer (plus-zero (say_within (Close conn) (let_connection_go_within {n = n} {s = Endings.note_peer peer s} conn (record { bound = e.bound }))))

-- ---- frames

say_hello_within : {n : ℕ} {s : State} (g : Setting) (version conn : ℕ) → Within n s → Within n (Frames.say_hello g version conn s)
say_hello_within {n} {s} g version conn e =
    let said : Within n (send Hellos conn (message.Hello version g.id g.digest) s) = plus-zero (send_within {n = n} Hellos conn (message.Hello version g.id g.digest) e) in
    record { bound = said.bound }

pub first_frame_within : {n : ℕ} {s : State} (g : Setting) (c : Connection) (m : Message) → Within n s → Within n (Frames.first_frame g c m s)
unfolding Frames.first_frame
first_frame_within {n} {s} g c (message.Hello version space digest) e = some_within c.dialled _ (accepts _) (λ peer is. dials peer _)
  where
    known : Within n (Frames.greeted space c.number s)
    known = record { bound = e.bound }

    accepts : (b : Bool) → Within n (if b then Frames.answer_hello g version c.number (Frames.greeted space c.number s) else Endings.close g g.classes.unmarshal c.number s)
    accepts true = if_within (nat_le 2 g.version) (say_hello_within g _ c.number known) known
    accepts false = close_within g _ c.number e

    dials : (peer : Uuid) (b : Bool) → Within n (if b then Frames.answered_hello g c peer version space s else Endings.close g g.classes.connect c.number s)
    dials peer true = if_within (version == c.version) (flush_within peer c.number known)
        (if_within (nat_le 2 c.version && version == 1) (redial_within peer c.number e) (close_within g _ c.number e))
    dials peer false = close_within g _ c.number e
first_frame_within g c _ e = close_within g _ c.number e

pub release_within : {n : ℕ} {s : State} (g : Setting) (is : State.KeptResult → Bool) → Within n s → Within n (Frames.release g is s)
unfolding Frames.release
release_within g is e = each_same _ _ (λ t r h. drop_within _ h) (record { bound = e.bound })

pub threw_within : {n : ℕ} {s : State} (g : Setting) (conn number : ℕ) (class : ClassId) → Within n s → Within n (ParkedFrames.answer_threw conn number class s)
threw_within g conn number class e = plus-zero (send_within Replies conn (message.Threw number class) e)

pub call_of_within : {n : ℕ} {s : State} (g : Setting) (conn number : ℕ) (o : State.Object) (method fuel : ℕ) (arguments : List Value)
    → Within n s → Within (n + fuel) (Frames.call_of g conn number o method fuel arguments s)
call_of_within {n} {s} g conn number o method fuel arguments e =
    if_within (not (g.classes.may_call o.class method) || (not (Classes.fit_kinds (g.classes.parameters method) arguments)
    || list_any (Holders.is_refused g s) (references_of arguments)))
    (more fuel (threw_within g conn number g.classes.unmarshal e))
    (if_within (Frames.is_busy s) (more fuel (threw_within g conn number g.classes.server_error e))
    (park_frame_within g conn number (CallFrame o.id method fuel arguments) _ e))

pub got_call_within : {n : ℕ} {s : State} (g : Setting) (c : Connection) (number : ℕ) (target : ObjId) (method fuel : ℕ) (arguments : List Value)
    → Within n s → Within (n + fuel) (Frames.got_call g c number target method fuel arguments s)
unfolding Frames.got_call
got_call_within {n} {s} g c number target method fuel arguments e =
    if_within (nat_le number c.last) (more fuel (close_within g _ c.number e)) (on (object_at s target))
  where
    counted : Within n (Frames.counted c.number number s)
    counted = record { bound = e.bound }

    on : (o : Option State.Object) → Within (n + fuel) (Frames.call_on g c.number number o method fuel arguments (Frames.counted c.number number s))
    on None = more fuel (threw_within g c.number number g.classes.no_such_object counted)
    on (Some o) = call_of_within {s = Frames.counted c.number number s} g c.number number o method fuel arguments counted

pub got_lookup_within : {n : ℕ} {s : State} (g : Setting) (c : Connection) (number : ℕ) (name : List ℕ) → Within n s → Within n (Frames.got_lookup g c number name s)
unfolding Frames.got_lookup
got_lookup_within {n} {s} g c number name e = if_within (nat_le number c.last) (close_within g _ c.number e) (on (Frames.object_of s (registry.lookup s.owner.names name)))
  where
    counted : Within n (Frames.counted c.number number s)
    counted = record { bound = e.bound }

    on : (o : Option State.Object) → Within n (Frames.found g c.number number o (Frames.counted c.number number s))
    on None = threw_within g c.number number g.classes.not_bound counted
    on (Some o) = plus-zero (send_within Replies c.number (message.Returned number 0 (Some (values.Ref (record { space = g.id; id = o.id; class = o.class }))))
        (hold_within {n = n} _ (record { bound = e.bound })))

pub got_ack_within : {n : ℕ} {s : State} (g : Setting) (c : Connection) (number : ℕ) → Within n s → Within n (Frames.got_ack g c number s)
unfolding Frames.got_ack
got_ack_within {s = s} g c number e = if_within (list_any (Frames.is_acked_by c.number number) s.results) (release_within g _ e) (close_within g _ c.number e)

pub answered_by_within : {n : ℕ} {s : State} (k : ℕ) (g : Setting) (c : Connection) (number : ℕ) (next : Asked → State → State)
    → ((asked : Asked) → Within (n + k) (next asked s)) → Within n s → Within (n + k) (Frames.answered_by g c number next s)
unfolding Frames.answered_by
answered_by_within {s = s} k g c number next h e = some_within (find (ParkedFrames.is_asked_on c.number number) s.requests) _ (more k (close_within g _ c.number e)) (λ q is. h q.asked)

pub returned_within : {n : ℕ} {s : State} (g : Setting) (c : Connection) (number fuel : ℕ) (value : Option Value) (asked : Asked)
    → Within n s → Within (n + fuel) (Frames.returned_for g c number fuel value asked s)
unfolding back
returned_within {n} {s} g c number fuel value asked e = pick _
  where
    waiting : State
    waiting = record s { requests = map (λ r. if ParkedFrames.is_call_on c.number number r then record r { stage = Answered c.number } else r) s.requests }

    nothing : (q : Request) → request_units (record q { stage = Answered c.number }) ≤ request_units q
    nothing q = omega arith

    le : total request_units waiting.requests ≤ total request_units s.requests
    le = total-map request_units (ParkedFrames.is_call_on c.number number) (λ r. record r { stage = Answered c.number }) s.requests nothing

    b : units s ≤ n
    b = e.bound

    kept : Within n waiting
    kept = record { bound = omega (arith, le, b) }

    pick : (wrong : Bool) → Within (n + fuel) (if wrong
        then LivingTasks.reply_to g asked (Throws g.classes.unmarshal) (send Acks c.number (message.Ack number) (ParkedFrames.remove_requests (ParkedFrames.is_call_on c.number number) s))
        else ParkedFrames.park_frame g c.number number (ReturnedFrame value fuel) (foreign_ids g.id (references_in value)) waiting)
    pick true = more fuel (plus-zero (reply_to_within g asked (Throws g.classes.unmarshal) (plus-zero (send_within Acks c.number (message.Ack number) (remove_within (ParkedFrames.is_call_on c.number number) e)))))
    pick false = park_frame_within g c.number number (ReturnedFrame value fuel) _ kept

pub told_by_within : {n : ℕ} {s : State} (g : Setting) (c : Connection) (dirty : Bool) (sequence : ℕ) (event : ℕ → lease_events.Event)
    → Within n s → Within n (Frames.told_by g c dirty sequence event s)
unfolding Frames.told_by
told_by_within {n} {s} g c dirty sequence event e = some_within (find (Frames.tells_on dirty c.number sequence) s.requests) _ (close_within g _ c.number e)
    (λ q is. go_all_within g (tells q.asked (remove_within (Frames.tells_on dirty c.number sequence) e)))
  where
    tells : (asked : Asked) {t : State} → Within n t → Within n (Frames.group_told event asked t)
    tells (Calls m task lent kind f) h = h
    tells (LooksUp m task name) h = h
    tells (Tells call group) h = record { bound = h.bound }

pub spent-back : (g : Setting) (asked : Asked) → back (Frames.spent_reply g asked) ≡ 0
unfolding back
spent-back g (Calls n task lent kind m) = refl
spent-back g (LooksUp n task name) = refl
spent-back g (Tells call group) = refl

pub ends_as_within : {n : ℕ} {s : State} (g : Setting) (c : Connection) (number : ℕ) (reply : Asked → Reply) (asked : Asked) → back (reply asked) ≡ 0
    → Within n s → Within (n + 0) (Frames.ends_as g c number reply asked s)
ends_as_within g c number reply asked z e = more 0 (zero-units z (reply_to_within g asked (reply asked) (remove_within (ParkedFrames.is_call_on c.number number) e)))

pub got_within : {n : ℕ} {s : State} (g : Setting) (c : Connection) (m : Message) → Within n s → Within (n + message_units m) (Frames.got g c m s)
unfolding Frames.got Frames.got_dirty Frames.got_clean back
got_within g c (message.Hello version space digest) e = more 0 (close_within g _ c.number e)
got_within g c (message.Call number object method fuel arguments) e = got_call_within g c number object method fuel arguments e
got_within g c (message.Returned number fuel value) e = answered_by_within fuel g c number _ (λ asked. returned_within g c number fuel value asked e) e
got_within g c (message.Threw number class) e = answered_by_within 0 g c number _ (λ asked. ends_as_within g c number (λ a. Frames.thrown_reply g class) asked refl e) e
got_within g c (message.Spent number) e = answered_by_within 0 g c number _ (λ asked. ends_as_within g c number (Frames.spent_reply g) asked (spent-back g asked) e) e
got_within g c (message.Ack number) e = more 0 (got_ack_within g c number e)
got_within {n} g c (message.Dirty sequence period objects) e = more 0 (if_within (Frames.fit_frame c objects) (plus-zero (send_within {n = n} Replies c.number (message.Lease sequence (min period 600000)) (record { bound = e.bound }))) (close_within g _ c.number e))
got_within g c (message.Lease sequence period) e = more 0 (told_by_within g c true sequence _ e)
got_within {n} g c (message.Clean sequence strong objects) e = more 0 (if_within (Frames.fit_frame c objects) (plus-zero (send_within {n = n} Replies c.number (message.Cleaned sequence) (record { bound = e.bound }))) (close_within g _ c.number e))
got_within g c (message.Cleaned sequence) e = more 0 (told_by_within g c false sequence _ e)
got_within g c (message.Lookup number name) e = more 0 (got_lookup_within g c number name e)

pub receive_within : {n : ℕ} {s : State} (g : Setting) (c : Connection) (m : Message) → Within n s → Within (n + message_units m) (Frames.receive g c m s)
unfolding Frames.receive
receive_within {n} {s} g c m e = cases (is_none c.peer) _
  where
    cases : (fresh wrong : Bool) → Within (n + message_units m) (if fresh then Frames.first_frame g c m s else (if wrong then Endings.close g g.classes.unmarshal c.number s else Frames.got g c m s))
    cases true wrong = more (message_units m) (first_frame_within g c m e)
    cases false true = more (message_units m) (close_within g _ c.number e)
    cases false false = got_within g c m e

-- ---- events

pub opened_within : {n : ℕ} {s : State} (g : Setting) (conn : ℕ) (dialled : Option Uuid) → Within n s → Within n (OwnEvents.on_opened g conn dialled s)
unfolding OwnEvents.on_opened
opened_within {n} {s} g conn None e =
    let row : Within n (OwnEvents.add_connection conn None s) = record { bound = e.bound } in
    if_within (nat_le 2 g.version) row (say_hello_within g 1 conn row)
opened_within {n} {s} g conn (Some peer) e =
    let row : Within n (OwnEvents.dialled_no_more (Some peer) (OwnEvents.add_connection conn (Some peer) s)) = record { bound = e.bound } in
    say_hello_within g _ conn row

pub refused_within : {n : ℕ} {s : State} (g : Setting) (peer : Uuid) → Within n s → Within n (OwnEvents.on_refused g peer s)
unfolding OwnEvents.on_refused
refused_within {n} g peer e = end_requests_within {n = n} g _ _ (record { bound = e.bound })

pub received_within : {n : ℕ} {s : State} (g : Setting) (c : Option Connection) (m : Message) → Within n s → Within (n + message_units m) (OwnEvents.received_on g c m s)
received_within g None m e = more (message_units m) e
received_within g (Some c) m e = receive_within g c m e

pub write_failed_within : {n : ℕ} {s : State} (g : Setting) (conn unsent : ℕ) → Within n s → Within n (Endings.fail_write g conn unsent s)
unfolding Endings.fail_write
write_failed_within g conn unsent e = end_connection_within g _ conn e

pub moment_within : {n : ℕ} {s : State} (g : Setting) (moment : ℕ) → Within n s → Within n (OwnEvents.on_moment g moment s)
unfolding OwnEvents.on_moment
moment_within {n} {s} g moment e = if_within (Rattle.std.specs.Prelude.nat_lt moment s.moment) e (release_within {n = n} g _ (record { bound = e.bound }))

pub withdraw_within : {n : ℕ} {s : State} (g : Setting) (gone : List State.Object) → Within n s → Within n (OwnEvents.withdraw g s gone)
withdraw_within {n} g gone e = plus-zero (say_within _ (each_same _ _ (λ t o h. drop_within _ h)
    (each_same _ _ (λ t id h. record { bound = h.bound }) (record { bound = e.bound }))))

pub sweep_within : {n : ℕ} {s : State} (g : Setting) → Within n s → Within n (OwnEvents.on_sweep g s)
unfolding OwnEvents.on_sweep
sweep_within {n} {s} g e = sweeps (OwnEvents.without_reason g s)
  where
    sweeps : (gone : List State.Object) → Within n (OwnEvents.sweep_of g s gone)
    sweeps [] = e
    sweeps (o ∷ os) = withdraw_within g (o ∷ os) e

pub names_within : {n : ℕ} {s : State} (r : Result (List Rattle.sp_registry.specs.declared.registry.Binding.Binding) Rattle.sp_registry.specs.declared.fault.RegistryFault.RegistryFault) → Within n s → Within n (OwnEvents.set_names r s)
unfolding OwnEvents.set_names
names_within (Ok names) e = record { bound = e.bound }
names_within (Err why) e = plus-zero (say_within (Denied why) e)

pub lookup_within : {n : ℕ} {s : State} (g : Setting) (peer : Uuid) (name : List ℕ) → Within n s → Within n (OwnEvents.on_lookup g peer name s)
unfolding OwnEvents.on_lookup
lookup_within {n} {s} g peer name e = if_within (Rattle.sp_registry.specs.Names.is_name name) (plus-zero (say_within {n = n} (Started (s.tasks_made + 1)) (record { bound = less }))) (plus-zero (say_within _ e))
  where
    b : units s ≤ n
    b = e.bound

    less : s.retired + (total task_units s.tasks + (total request_units s.requests + (total parked_units s.parked + (0 + total note_units s.notes)))) ≤ n
    less = omega (arith, b)

pub happen_within : {n : ℕ} {s : State} (g : Setting) (e : Event) → Within n s → Within (n + event_units e) (Space.happen g e s)
unfolding Space.happen
happen_within g (Moment moment) k = more 0 (moment_within g moment k)
happen_within g Sweep k = more 0 (sweep_within g k)
happen_within g (Root method arguments fuel) k = add_task_within g OfRoot method arguments fuel k
happen_within g (RootAck task) k = more 0 (release_within g _ k)
happen_within g (Bind name value) k = more 0 (names_within _ k)
happen_within g (Rebind name value) k = more 0 (names_within _ k)
happen_within g (Unbind name) k = more 0 (names_within _ k)
happen_within g (Lookup peer name) k = more 0 (lookup_within g peer name k)
happen_within g (Opened conn dialled) k = more 0 (opened_within g conn dialled k)
happen_within g (Refused peer) k = more 0 (refused_within g peer k)
happen_within {s = s} g (Received conn m) k = received_within g (connection_at s conn) m k
happen_within g (Closed conn) k = more 0 (end_connection_within g _ conn k)
happen_within g (ReadFailed conn) k = more 0 (end_connection_within g _ conn k)
happen_within g (Bad conn) k = more 0 (end_connection_within g _ conn k)
happen_within g (WriteFailed conn unsent) k = more 0 (write_failed_within g conn unsent k)
happen_within g (Committed task j op) k = more 0 (commit_within g task j op k)
happen_within g (Parked task j) k = more 0 (park_call_within g task j k)
happen_within g (GivenBack task j) k = more 0 (give_back_within task j k)
happen_within g (Finished task j) k = more 0 (finish_within g task j k)
