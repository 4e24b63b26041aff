-- No rule of connections and frames makes fuel of a tree, nor does any event.
use mathlib.Core.Path.{sym, ap, subst, ◌∙◌}
use Rattle.std.specs.Prelude.{◌≡◌, refl, cond, zero, suc, ℕ, ◌+◌, ◌-◌, ◌≤◌, ◌==◌, min, Bool, true, false, List, [], ◌∷◌, ◌++◌, Option, None, Some, Result, Ok, Err, filter, find, map, not, ◌||◌, ◌&&◌, is_none, is_some, nat_le, nat_lt, if◌then◌else◌}
use Rattle.std.proofs.Common.{arith}
use Rattle.std.proofs.lemmas.Bool.{true≢false, eqb-true}
use Rattle.std.specs.List.{list_all, list_any}
use Rattle.space_ids.specs.declared.ids.ClassId.{ClassId}
use Rattle.dgc_client.specs.History as lease_events
use Rattle.dgc_client.specs.declared.groups.Group.{Group}
use Rattle.dgc_client.specs.declared.lease.Due.{Due}
use Rattle.dgc_client.specs.declared.lease.Due.TheVariants as due
use Rattle.space_ids.specs.declared.ids.ForeignId.{ForeignId}
use Rattle.net_message.specs.declared.message.Message.{Message}
use Rattle.net_message.specs.declared.message.Message.TheVariants as message
use Rattle.sp_registry.specs.Bindings as registry
use Rattle.sp_registry.specs.declared.fault.RegistryFault.{RegistryFault}
use Rattle.sp_registry.specs.declared.registry.Binding.{Binding}
use Rattle.uuid.specs.declared.Uuid.{Uuid}
use Rattle.space_ids.specs.declared.ids.ObjId.{ObjId}
use Rattle.space_ids.specs.declared.ids.Ref.{Ref}
use Rattle.space_ids.specs.declared.value.Value.{Value}
use Rattle.space_ids.specs.declared.value.Value.TheVariants as values
use Rattle.sp_rules.specs.Behaviours.{Reply, GivesBack, Throws}
use Rattle.sp_rules.specs.Classes
use Rattle.sp_rules.specs.Classes.{Setting}
use Rattle.sp_rules.specs.Endings
use Rattle.sp_rules.specs.Events.{Event, Moment, Sweep, Root, RootAck, Bind, Rebind, Unbind, Lookup, Opened, Refused, Received, Closed, ReadFailed, Bad, WriteFailed, Committed, Parked, GivenBack, Finished, Started, Denied, Close, Hellos, Replies, Acks}
use Rattle.sp_rules.specs.Frames
use Rattle.sp_rules.specs.Fuel.{frame_units}
use Rattle.sp_rules.specs.Holders
use Rattle.sp_rules.specs.Holders.{hold_ids, drop_ids}
use Rattle.sp_rules.specs.Lists.{each, total}
use Rattle.sp_rules.specs.LivingTasks
use Rattle.sp_rules.specs.OwnEvents
use Rattle.sp_rules.specs.ParkedFrames
use Rattle.sp_rules.specs.References.{references_in, references_of, foreign_ids}
use Rattle.sp_rules.specs.Space
use Rattle.sp_rules.specs.State
use Rattle.sp_rules.specs.State.{State, Request, Asked, Calls, LooksUp, Tells, Stage, Waits, Out, Answered, Origin, OfRoot, OfCall, Living, Until, Connection, Frame, CallFrame, ReturnedFrame, ParkedFrame, task_at, ready_at, set_task, send, is_open, object_at, connection_at, connection_to}
use Rattle.sp_rules.proofs.AllLemmas.{all-weaken, all-filter, all-first, all-more, all-map, all-found, found-is}
use Rattle.sp_rules.proofs.FuelOfTasks.{back}
use Rattle.sp_rules.proofs.FuelSums.{total-snoc, total-filter, total-find, total-map, value_in, found-value}
use Rattle.sp_rules.proofs.OwnLemmas.{and-left, and-right}
use Rattle.sp_laws.specs.Trees.{Part, has_task, counted, carried, request_part, parked_part, left_in, root_part, ended_part, DialsOwn, FitsTree}
use Rattle.sp_laws.proofs.RowLemmas.{counted-most, first-found}
use Rattle.sp_laws.proofs.TreeOfTasks.{HasOwn, StandsOwn, IsTagged, IsDialler, Tags, TagParts, tag_parts, Within, if_within, more, some_within, each_same, say_within, send_within, hold_within, drop_within, plus-zero, dial_within, weaken, push, pop, flush_within, add_task_within, Gains, reply_to_within, reply_none_within, give_back_within, commit_within, park_call_within, finish_within}

-- ---- connections

-- a request that is found on a connection went there
stage-own : (v : Part) (conn : ℕ) (stage : Stage) → ParkedFrames.is_out_on conn stage ≡ true → StandsOwn v stage → HasOwn v conn
stage-own v conn Waits e own = absurd (true≢false (sym e))
stage-own v conn (Out c sequence) e own = subst (HasOwn v) (eqb-true c conn e) own
stage-own v conn (Answered c) e own = subst (HasOwn v) (eqb-true c conn e) own

-- The reply to a call is of the tree exactly if the task is that waits for it.
gains-of : (v : Part) (s : State) (conn number : ℕ) (reply : Reply) (q : Request) → ParkedFrames.is_call_on conn number q ≡ true → IsTagged v s.tasks_made s.tasks q → Gains v (counted (v.frames conn number) (back reply)) s reply q.asked
unfolding Gains
gains-of v s conn number reply q is tag = of q.asked (and-right (ParkedFrames.is_out_on conn q.stage) _ is) tag.0
  where
    own : HasOwn v conn
    own = stage-own v conn q.stage (and-left (ParkedFrames.is_out_on conn q.stage) _ is) tag.1

    of : (a : Asked) → ParkedFrames.has_number number a ≡ true → Rattle.sp_laws.proofs.TreeOfTasks.Fits v s.tasks_made s.tasks a → Gains v (counted (v.frames conn number) (back reply)) s reply a
    of (Calls n task lent kind m) e fits = λ t there.
        let call : has_task v t ≡ v.calls n = first-found (λ u. has_task v u ≡ v.calls n) task s.tasks t fits.1 there in
        let same : has_task v t ≡ v.frames conn number = call ∙ ap v.calls (eqb-true n number e) ∙ sym (own number) in
        let k : counted (has_task v t) (back reply) ≡ counted (v.frames conn number) (back reply) = ap (λ b. counted b (back reply)) same in omega arith
    of (LooksUp n task name) e fits = tt
    of (Tells call group) e fits = tt

pub start_call_within : {low : ℕ} {v : Part} {qs : List Request} {n : ℕ} {s : State} (g : Setting) (p : ParkedFrame) (target : ObjId) (method fuel : ℕ) (arguments : List Value)
    → Within low v qs n s → Within low v qs (n + counted (v.frames p.conn p.number) fuel) (ParkedFrames.start_call g p target method fuel arguments s)
unfolding ParkedFrames.start_call
start_call_within {low} {v} {qs} {n} {s} g p target method fuel arguments e = some_within (object_at s target) _ (more (counted (v.frames p.conn p.number) fuel) e) (λ o is. selected _ _)
  where
    selected : (receiver : Ref) (found : Option ℕ) → Within low v qs (n + counted (v.frames p.conn p.number) fuel) (ParkedFrames.start_selected g p.conn p.number receiver found fuel arguments s)
    selected receiver None = more (counted (v.frames p.conn p.number) fuel) (plus-zero (send_within Replies p.conn (message.Threw p.number g.classes.server_error) e))
    selected receiver (Some m) = add_task_within g (OfCall p.conn p.number) m _ fuel e

-- requests go
pub remove_within : {low : ℕ} {v : Part} {qs : List Request} {n : ℕ} {s : State} (is : Request → Bool) → Within low v qs n s → Within low v qs n (ParkedFrames.remove_requests is s)
remove_within {low} {v} {qs} {n} {s} is e =
    let b : left_in v s ≤ n = e.bound in
    let k : total (request_part v) (filter (λ q. not (is q)) s.requests) ≤ total (request_part v) s.requests = total-filter (request_part v) (λ q. not (is q)) s.requests in
    record { bound = omega arith; tags = record { calls = e.tags.calls; ids = e.tags.ids; requests = all-filter (IsTagged v s.tasks_made s.tasks) (λ q. not (is q)) s.requests e.tags.requests; fresh = e.tags.fresh; also = e.tags.also; connections = e.tags.connections } }

pub answer_parked_within : {low : ℕ} {v : Part} {qs : List Request} {n : ℕ} {s : State} (g : Setting) (p : ParkedFrame) (reply : Reply) → Within low v qs n s → Within low v qs (n + counted (v.frames p.conn p.number) (back reply)) (ParkedFrames.answer_parked g p reply s)
unfolding ParkedFrames.answer_parked
answer_parked_within {low} {v} {qs} {n} {s} g p reply e = some_within (find (ParkedFrames.is_call_on p.conn p.number) s.requests) _ (more (counted (v.frames p.conn p.number) (back reply)) e) (λ q is.
    let sent : Within low v (q ∷ qs) n (send Acks p.conn (message.Ack p.number) (ParkedFrames.remove_requests (ParkedFrames.is_call_on p.conn p.number) s)) =
    plus-zero (send_within Acks p.conn (message.Ack p.number) (push q (all-found (IsTagged v s.tasks_made s.tasks) (ParkedFrames.is_call_on p.conn p.number) s.requests q is e.tags.requests) (remove_within (ParkedFrames.is_call_on p.conn p.number) e))) in
    reply_to_within g q.asked reply (counted (v.frames p.conn p.number) (back reply)) (gains-of v _ p.conn p.number reply q (found-is (ParkedFrames.is_call_on p.conn p.number) s.requests q is) sent.tags.also.0) (pop q sent))

-- a reply that gives nothing back
pub answer_none_within : {low : ℕ} {v : Part} {qs : List Request} {n : ℕ} {s : State} (g : Setting) (p : ParkedFrame) (reply : Reply) → back reply ≡ 0 → Within low v qs n s → Within low v qs n (ParkedFrames.answer_parked g p reply s)
answer_none_within {low} {v} {n = n} g p reply z e =
    let most : counted (v.frames p.conn p.number) (back reply) ≤ back reply = counted-most (v.frames p.conn p.number) (back reply) in
    plus-zero (weaken n (counted (v.frames p.conn p.number) (back reply)) 0 (omega arith) (answer_parked_within g p reply e))

-- parked frames go
pub take_within : {low : ℕ} {v : Part} {qs : List Request} {n : ℕ} {s : State} (p : ParkedFrame) → Within low v qs n s → Within low v qs n (ParkedFrames.take_parked p s)
take_within {low} {v} {qs} {n} {s} p e =
    let b : left_in v s ≤ n = e.bound in
    let k : total (parked_part v) (filter (λ q. not (ParkedFrames.is_parked_at p.conn p.number q)) s.parked) ≤ total (parked_part v) s.parked = total-filter (parked_part v) (λ q. not (ParkedFrames.is_parked_at p.conn p.number q)) s.parked in
    record { bound = omega arith; tags = e.tags }

let_go_within : {low : ℕ} {v : Part} {qs : List Request} {n : ℕ} {s : State} (p : ParkedFrame) (parked : List ParkedFrame) → Within low v qs n s → Within low v qs n (ParkedFrames.let_go_parked p parked s)
let_go_within p parked e = each_same _ (filter (ParkedFrames.is_parked_at p.conn p.number) parked) (λ t q h. drop_within q.references h) e

pub go_frame_within : {low : ℕ} {v : Part} {qs : List Request} {n : ℕ} {s : State} (g : Setting) (q : ParkedFrame) (f : Frame) → Within low v qs n s → Within low v qs (n + counted (v.frames q.conn q.number) (frame_units f)) (ParkedFrames.go_frame g q f s)
unfolding back
go_frame_within g q (CallFrame target method fuel arguments) e = start_call_within g q target method fuel arguments e
go_frame_within g q (ReturnedFrame value fuel) e = answer_parked_within g q (GivesBack value fuel) e

pub go_within : {low : ℕ} {v : Part} {qs : List Request} {n : ℕ} {s : State} (g : Setting) (p : ParkedFrame) → Within low v qs n s → Within low v qs n (ParkedFrames.go g s p)
unfolding ParkedFrames.go value_in
go_within {low} {v} {qs} {n} {s} g p e = some_within (find (ParkedFrames.is_parked_at p.conn p.number) s.parked) _ e (λ q is.
    let b : left_in v s ≤ n = e.bound in
    let was : value_in (parked_part v) (find (ParkedFrames.is_parked_at p.conn p.number) s.parked) ≡ parked_part v q = found-value (parked_part v) (find (ParkedFrames.is_parked_at p.conn p.number) s.parked) q is in
    let k : value_in (parked_part v) (find (ParkedFrames.is_parked_at p.conn p.number) s.parked) + total (parked_part v) (filter (λ r. not (ParkedFrames.is_parked_at p.conn p.number r)) s.parked) ≤ total (parked_part v) s.parked
    = total-find (parked_part v) (ParkedFrames.is_parked_at p.conn p.number) s.parked in
    let rows : List ParkedFrame = filter (λ r. not (ParkedFrames.is_parked_at p.conn p.number r)) s.parked in
    let m : ℕ = left_in v (record s { parked = rows }) in
    let self : m ≤ m = omega arith in
    let out : Within low v qs (m + parked_part v q) (ParkedFrames.let_go_parked p s.parked (ParkedFrames.go_frame g q q.frame (ParkedFrames.take_parked p s))) = let_go_within p s.parked (go_frame_within {n = m} g q q.frame (record { bound = self; tags = e.tags })) in
    let bound : left_in v (ParkedFrames.let_go_parked p s.parked (ParkedFrames.go_frame g q q.frame (ParkedFrames.take_parked p s))) ≤ m + parked_part v q = out.bound in
    record { bound = omega arith; tags = out.tags })

pub go_all_within : {low : ℕ} {v : Part} {qs : List Request} {n : ℕ} {s : State} (g : Setting) → Within low v qs n s → Within low v qs n (ParkedFrames.go_all g s)
unfolding ParkedFrames.go_all
go_all_within g e = each_same _ _ (λ t p h. go_within g p h) e

pub parked_within : {low : ℕ} {v : Part} {qs : List Request} {n : ℕ} {s : State} (p : ParkedFrame) → Within low v qs n s → Within low v qs (n + parked_part v p) (record s { parked = s.parked ++ p ∷ [] })
parked_within {low} {v} {qs} {n} {s} p e =
    let b : left_in v s ≤ n = e.bound in
    let k : total (parked_part v) (s.parked ++ p ∷ []) ≡ total (parked_part v) s.parked + parked_part v p = total-snoc (parked_part v) s.parked p in
    record { bound = omega arith; tags = e.tags }

pub park_frame_within : {low : ℕ} {v : Part} {qs : List Request} {n : ℕ} {s : State} (g : Setting) (conn number : ℕ) (f : Frame) (refs : List ForeignId) → Within low v qs n s → Within low v qs (n + counted (v.frames conn number) (frame_units f)) (ParkedFrames.park_frame g conn number f refs s)
unfolding ParkedFrames.park_frame
park_frame_within g conn number f refs e = go_all_within g (hold_within refs (parked_within _ e))

pub fail_frame_within : {low : ℕ} {v : Part} {qs : List Request} {n : ℕ} {s : State} (g : Setting) (p : ParkedFrame) (f : Frame) → Within low v qs n s → Within low v qs n (ParkedFrames.fail_frame g p f s)
unfolding back
fail_frame_within g p (CallFrame target method fuel arguments) e = plus-zero (send_within Replies p.conn (message.Threw p.number g.classes.unmarshal) e)
fail_frame_within g p (ReturnedFrame value fuel) e = answer_none_within g p (Throws g.classes.unmarshal) refl e

pub fail_parked_within : {low : ℕ} {v : Part} {qs : List Request} {n : ℕ} {s : State} (g : Setting) (p : ParkedFrame) → Within low v qs n s → Within low v qs n (ParkedFrames.fail_parked g s p)
unfolding ParkedFrames.fail_parked
fail_parked_within g p e = fail_frame_within g p p.frame (let_go_within p _ (take_within p e))

pub fail_dirty_within : {low : ℕ} {v : Part} {qs : List Request} {n : ℕ} {s : State} (g : Setting) (call : ℕ) (id : ForeignId) → Within low v qs n s → Within low v qs n (Endings.fail_dirty g call s id)
unfolding Endings.fail_dirty
fail_dirty_within {low} {v} {qs} {n} {s} g call id e = pick _
  where
    t : State
    t = record s { leases = Rattle.dgc_client.specs.Table.On id (lease_events.DirtyFailed call) ∷ s.leases }

    h : Within low v qs n t
    h = record { bound = e.bound; tags = e.tags }

    pick : (b : Bool) → Within low v qs n (if b then each (ParkedFrames.fail_parked g) (filter (ParkedFrames.names id) s.parked) t else t)
    pick true = each_same _ _ (λ u p k. fail_parked_within g p k) h
    pick false = h

pub fail_group_within : {low : ℕ} {v : Part} {qs : List Request} {n : ℕ} {s : State} (g : Setting) (kind : Due) (b : Group) (call : ℕ) → Within low v qs n s → Within low v qs n (Endings.fail_group g kind b call s)
fail_group_within g due.Dirty b call e = each_same _ _ (λ t x h. fail_dirty_within g call x h) e
fail_group_within g (due.Clean strong) b call e = each_same _ _ (λ t x h. record { bound = h.bound; tags = h.tags }) e

pub end_asked_within : {low : ℕ} {v : Part} {qs : List Request} {n : ℕ} {s : State} (g : Setting) (class : ClassId) (asked : Asked) → Within low v qs n s → Within low v qs n (Endings.end_asked g class asked s)
unfolding back
end_asked_within g class (Calls number task lent kind m) e = reply_none_within g (Calls number task lent kind m) (Throws class) refl e
end_asked_within g class (LooksUp number task name) e = reply_none_within g (LooksUp number task name) (Throws class) refl e
end_asked_within g class (Tells call group) e = fail_group_within g group.kind group call e

pub end_requests_within : {low : ℕ} {v : Part} {qs : List Request} {n : ℕ} {s : State} (g : Setting) (is : Request → Bool) (why : Asked → ClassId) → Within low v qs n s → Within low v qs n (Endings.end_requests g is why s)
unfolding Endings.end_requests
end_requests_within g is why e =
    each_same _ _ (λ t q h. end_asked_within g (why q.asked) q.asked h)
    (each_same _ _ (λ t q h. end_asked_within g (why q.asked) q.asked h) (remove_within is e))

let_connection_go_within : {low : ℕ} {v : Part} {qs : List Request} {n : ℕ} {s : State} (conn : ℕ) → Within low v qs n s → Within low v qs n (Endings.let_connection_go conn s)
let_connection_go_within {low} {v} {qs} {n} {s} conn e = each_same _ _ (λ t p h. let_go_within p t.parked (take_within p h)) (record {
  bound = e.bound;
  tags = record {
    calls = e.tags.calls;
    ids = e.tags.ids;
    requests = e.tags.requests;
    fresh = e.tags.fresh;
    also = e.tags.also;
    connections = all-filter (IsDialler v) (λ (d : Connection). not (d.number == conn)) s.connections e.tags.connections;
  };
})

pub end_connection_within : {low : ℕ} {v : Part} {qs : List Request} {n : ℕ} {s : State} (g : Setting) (why : Asked → ClassId) (conn : ℕ) → Within low v qs n s → Within low v qs n (Endings.end_connection g why conn s)
unfolding Endings.end_connection
end_connection_within {low} {v} {qs} {n} {s} g why conn e = some_within (connection_at s conn) _ e (λ c is. end_requests_within g _ why (let_connection_go_within conn e))

redial_within : {low : ℕ} {v : Part} {qs : List Request} {n : ℕ} {s : State} (peer : Uuid) (conn : ℕ) → Within low v qs n s → Within low v qs n (Endings.redial peer conn s)
unfolding Endings.redial
redial_within {low} {v} {qs} {n} {s} peer conn e = dial_within peer (plus-zero (say_within (Close conn) (let_connection_go_within {n = n} {s = Endings.note_peer peer s} conn (record { bound = e.bound; tags = e.tags }))))

pub close_within : {low : ℕ} {v : Part} {qs : List Request} {n : ℕ} {s : State} (g : Setting) (class : ClassId) (conn : ℕ) → Within low v qs n s → Within low v qs n (Endings.close g class conn s)
unfolding Endings.close
close_within g class conn e = plus-zero (say_within (Close conn) (end_connection_within g (λ asked. class) conn e))

-- ---- frames

-- a connection that changes keeps its number and whom this space dialled
pub row-tags : {low : ℕ} {v : Part} {qs : List Request} (s : State) (conn : ℕ) (f : Connection → Connection) → ((c : Connection) → IsDialler v c → IsDialler v (f c)) → Tags low v qs (tag_parts s) → Tags low v qs (tag_parts (State.set_connection f conn s))
row-tags {low} {v} s conn f keeps e = record {
  calls = e.calls;
  ids = e.ids;
  requests = e.requests;
  fresh = e.fresh;
  also = e.also;
  connections = all-first (IsDialler v) (λ (c : Connection). c.number == conn) f s.connections keeps e.connections;
}

say_hello_within : {low : ℕ} {v : Part} {qs : List Request} {n : ℕ} {s : State} (g : Setting) (version conn : ℕ) → Within low v qs n s → Within low v qs n (Frames.say_hello g version conn s)
say_hello_within {low} {v} {qs} {n} {s} g version conn e =
    let said : Within low v qs n (send Hellos conn (message.Hello version g.id g.digest) s) = plus-zero (send_within {n = n} Hellos conn (message.Hello version g.id g.digest) e) in
    record { bound = said.bound; tags = row-tags (send Hellos conn (message.Hello version g.id g.digest) s) conn (λ (d : Connection). record d { version = version }) (λ d h. h) said.tags }

pub first_frame_within : {low : ℕ} {v : Part} {qs : List Request} {n : ℕ} {s : State} (g : Setting) (c : Connection) (m : Message) → IsDialler v c → Within low v qs n s → Within low v qs n (Frames.first_frame g c m s)
unfolding Frames.first_frame
first_frame_within {low} {v} {qs} {n} {s} g c (message.Hello version space digest) own e = some_within c.dialled _ (accepts _) (λ peer is. dials peer is _)
  where
    known : Within low v qs n (Frames.greeted space c.number s)
    known = record { bound = e.bound; tags = row-tags s c.number (λ (d : Connection). record d { peer = Some space }) (λ d h. h) e.tags }

    accepts : (b : Bool) → Within low v qs n (if b then Frames.answer_hello g version c.number (Frames.greeted space c.number s) else Endings.close g g.classes.unmarshal c.number s)
    accepts true = if_within (nat_le 2 g.version) (say_hello_within g _ c.number known) known
    accepts false = close_within g _ c.number e

    dials : (peer : Uuid) → c.dialled ≡ Some peer → (b : Bool) → Within low v qs n (if b then Frames.answered_hello g c peer version space s else Endings.close g g.classes.connect c.number s)
    dials peer is true = if_within (version == c.version) (flush_within peer c.number (own (ap is_some is)) known)
        (if_within (nat_le 2 c.version && version == 1) (redial_within peer c.number e) (close_within g _ c.number e))
    dials peer is false = close_within g _ c.number e
first_frame_within g c _ own e = close_within g _ c.number e

pub release_within : {low : ℕ} {v : Part} {qs : List Request} {n : ℕ} {s : State} (g : Setting) (is : State.KeptResult → Bool) → Within low v qs n s → Within low v qs n (Frames.release g is s)
unfolding Frames.release
release_within g is e = each_same _ _ (λ t r h. drop_within _ h) (record { bound = e.bound; tags = e.tags })

pub threw_within : {low : ℕ} {v : Part} {qs : List Request} {n : ℕ} {s : State} (g : Setting) (conn number : ℕ) (class : ClassId) → Within low v qs n s → Within low v qs n (ParkedFrames.answer_threw conn number class s)
threw_within g conn number class e = plus-zero (send_within Replies conn (message.Threw number class) e)

pub call_of_within : {low : ℕ} {v : Part} {qs : List Request} {n : ℕ} {s : State} (g : Setting) (conn number : ℕ) (o : State.Object) (method fuel : ℕ) (arguments : List Value)
    → Within low v qs n s → Within low v qs (n + counted (v.frames conn number) fuel) (Frames.call_of g conn number o method fuel arguments s)
call_of_within {low} {v} {qs} {n} {s} g conn number o method fuel arguments e =
    if_within (not (g.classes.may_call o.class method) || (not (Classes.fit_kinds (g.classes.parameters method) arguments)
    || list_any (Holders.is_refused g s) (references_of arguments)))
    (more (counted (v.frames conn number) fuel) (threw_within g conn number g.classes.unmarshal e))
    (if_within (Frames.is_busy s) (more (counted (v.frames conn number) fuel) (threw_within g conn number g.classes.server_error e))
    (park_frame_within g conn number (CallFrame o.id method fuel arguments) _ e))

pub got_call_within : {low : ℕ} {v : Part} {qs : List Request} {n : ℕ} {s : State} (g : Setting) (c : Connection) (number : ℕ) (target : ObjId) (method fuel : ℕ) (arguments : List Value)
    → Within low v qs n s → Within low v qs (n + counted (v.frames c.number number) fuel) (Frames.got_call g c number target method fuel arguments s)
unfolding Frames.got_call
got_call_within {low} {v} {qs} {n} {s} g c number target method fuel arguments e =
    if_within (nat_le number c.last) (more (counted (v.frames c.number number) fuel) (close_within g _ c.number e)) (on (object_at s target))
  where
    reached : Within low v qs n (Frames.counted c.number number s)
    reached = record { bound = e.bound; tags = row-tags s c.number (λ (d : Connection). record d { last = number }) (λ d h. h) e.tags }

    on : (o : Option State.Object) → Within low v qs (n + counted (v.frames c.number number) fuel) (Frames.call_on g c.number number o method fuel arguments (Frames.counted c.number number s))
    on None = more (counted (v.frames c.number number) fuel) (threw_within g c.number number g.classes.no_such_object reached)
    on (Some o) = call_of_within {s = Frames.counted c.number number s} g c.number number o method fuel arguments reached

pub got_lookup_within : {low : ℕ} {v : Part} {qs : List Request} {n : ℕ} {s : State} (g : Setting) (c : Connection) (number : ℕ) (name : List ℕ) → Within low v qs n s → Within low v qs n (Frames.got_lookup g c number name s)
unfolding Frames.got_lookup
got_lookup_within {low} {v} {qs} {n} {s} g c number name e = if_within (nat_le number c.last) (close_within g _ c.number e) (on (Frames.object_of s (registry.lookup s.owner.names name)))
  where
    reached : Within low v qs n (Frames.counted c.number number s)
    reached = record { bound = e.bound; tags = row-tags s c.number (λ (d : Connection). record d { last = number }) (λ d h. h) e.tags }

    on : (o : Option State.Object) → Within low v qs n (Frames.found g c.number number o (Frames.counted c.number number s))
    on None = threw_within g c.number number g.classes.not_bound reached
    on (Some o) = plus-zero (weaken n (counted (v.frames c.number number) 0) 0 (counted-most (v.frames c.number number) 0) (send_within Replies c.number (message.Returned number 0 (Some (values.Ref (record { space = g.id; id = o.id; class = o.class }))))
        (hold_within {n = n} _ (record { bound = e.bound; tags = reached.tags }))))

pub got_ack_within : {low : ℕ} {v : Part} {qs : List Request} {n : ℕ} {s : State} (g : Setting) (c : Connection) (number : ℕ) → Within low v qs n s → Within low v qs n (Frames.got_ack g c number s)
unfolding Frames.got_ack
got_ack_within {s = s} g c number e = if_within (list_any (Frames.is_acked_by c.number number) s.results) (release_within g _ e) (close_within g _ c.number e)

pub answered_by_within : {low : ℕ} {v : Part} {qs : List Request} {n : ℕ} {s : State} (k : ℕ) (g : Setting) (c : Connection) (number : ℕ) (next : Asked → State → State)
    → ((asked : Asked) → Within low v qs (n + k) (next asked s)) → Within low v qs n s → Within low v qs (n + k) (Frames.answered_by g c number next s)
unfolding Frames.answered_by
answered_by_within {s = s} k g c number next h e = some_within (find (ParkedFrames.is_asked_on c.number number) s.requests) _ (more k (close_within g _ c.number e)) (λ q is. h q.asked)

pub returned_within : {low : ℕ} {v : Part} {qs : List Request} {n : ℕ} {s : State} (g : Setting) (c : Connection) (number fuel : ℕ) (value : Option Value) (asked : Asked)
    → Within low v qs n s → Within low v qs (n + counted (v.frames c.number number) fuel) (Frames.returned_for g c number fuel value asked s)
unfolding back
returned_within {low} {v} {qs} {n} {s} g c number fuel value asked e = pick _
  where
    waiting : State
    waiting = record s { requests = map (λ r. if ParkedFrames.is_call_on c.number number r then record r { stage = Answered c.number } else r) s.requests }

    nothing : (q : Request) → request_part v (record q { stage = Answered c.number }) ≤ request_part v q
    nothing q = omega arith

    le : total (request_part v) waiting.requests ≤ total (request_part v) s.requests
    le = total-map (request_part v) (ParkedFrames.is_call_on c.number number) (λ r. record r { stage = Answered c.number }) s.requests nothing

    b : left_in v s ≤ n
    b = e.bound

    tagged : (q : Request) → IsTagged v s.tasks_made s.tasks q → IsTagged v s.tasks_made s.tasks (if ParkedFrames.is_call_on c.number number q then record q { stage = Answered c.number } else q)
    tagged q tag = one (ParkedFrames.is_call_on c.number number q) refl
      where
        one : (x : Bool) → ParkedFrames.is_call_on c.number number q ≡ x → IsTagged v s.tasks_made s.tasks (if x then record q { stage = Answered c.number } else q)
        one true is = (tag.0, stage-own v c.number q.stage (and-left (ParkedFrames.is_out_on c.number q.stage) _ is) tag.1)
        one false is = tag

    kept : Within low v qs n waiting
    kept = record {
      bound = omega (arith, le, b);
      tags = record {
        calls = e.tags.calls;
        ids = e.tags.ids;
        requests = all-map (IsTagged v s.tasks_made s.tasks) (IsTagged v s.tasks_made s.tasks) (λ r. if ParkedFrames.is_call_on c.number number r then record r { stage = Answered c.number } else r) s.requests tagged e.tags.requests;
        fresh = e.tags.fresh;
        also = e.tags.also;
        connections = e.tags.connections;
      };
    }

    pick : (wrong : Bool) → Within low v qs (n + counted (v.frames c.number number) fuel) (if wrong
        then LivingTasks.reply_to g asked (Throws g.classes.unmarshal) (send Acks c.number (message.Ack number) (ParkedFrames.remove_requests (ParkedFrames.is_call_on c.number number) s))
        else ParkedFrames.park_frame g c.number number (ReturnedFrame value fuel) (foreign_ids g.id (references_in value)) waiting)
    pick true = more (counted (v.frames c.number number) fuel) (reply_none_within g asked (Throws g.classes.unmarshal) refl (plus-zero (send_within Acks c.number (message.Ack number) (remove_within (ParkedFrames.is_call_on c.number number) e))))
    pick false = park_frame_within g c.number number (ReturnedFrame value fuel) _ kept

pub told_by_within : {low : ℕ} {v : Part} {qs : List Request} {n : ℕ} {s : State} (g : Setting) (c : Connection) (dirty : Bool) (sequence : ℕ) (event : ℕ → lease_events.Event)
    → Within low v qs n s → Within low v qs n (Frames.told_by g c dirty sequence event s)
unfolding Frames.told_by
told_by_within {low} {v} {qs} {n} {s} g c dirty sequence event e = some_within (find (Frames.tells_on dirty c.number sequence) s.requests) _ (close_within g _ c.number e)
    (λ q is. go_all_within g (tells q.asked (remove_within (Frames.tells_on dirty c.number sequence) e)))
  where
    tells : (asked : Asked) {t : State} → Within low v qs n t → Within low v qs n (Frames.group_told event asked t)
    tells (Calls m task lent kind f) h = h
    tells (LooksUp m task name) h = h
    tells (Tells call group) h = record { bound = h.bound; tags = h.tags }

pub spent-back : (g : Setting) (asked : Asked) → back (Frames.spent_reply g asked) ≡ 0
unfolding back
spent-back g (Calls n task lent kind m) = refl
spent-back g (LooksUp n task name) = refl
spent-back g (Tells call group) = refl

pub ends_as_within : {low : ℕ} {v : Part} {qs : List Request} {n : ℕ} {s : State} (g : Setting) (c : Connection) (number : ℕ) (reply : Asked → Reply) (asked : Asked) → back (reply asked) ≡ 0
    → Within low v qs n s → Within low v qs (n + 0) (Frames.ends_as g c number reply asked s)
ends_as_within g c number reply asked z e = more 0 (reply_none_within g asked (reply asked) z (remove_within (ParkedFrames.is_call_on c.number number) e))

pub got_within : {low : ℕ} {v : Part} {qs : List Request} {n : ℕ} {s : State} (g : Setting) (c : Connection) (m : Message) → Within low v qs n s → Within low v qs (n + carried (v.frames c.number) m) (Frames.got g c m s)
unfolding Frames.got Frames.got_dirty Frames.got_clean back
got_within g c (message.Hello version space digest) e = more 0 (close_within g _ c.number e)
got_within g c (message.Call number object method fuel arguments) e = got_call_within g c number object method fuel arguments e
got_within {low} {v} g c (message.Returned number fuel value) e = answered_by_within (counted (v.frames c.number number) fuel) g c number _ (λ asked. returned_within g c number fuel value asked e) e
got_within g c (message.Threw number class) e = answered_by_within 0 g c number _ (λ asked. ends_as_within g c number (λ a. Frames.thrown_reply g class) asked refl e) e
got_within g c (message.Spent number) e = answered_by_within 0 g c number _ (λ asked. ends_as_within g c number (Frames.spent_reply g) asked (spent-back g asked) e) e
got_within g c (message.Ack number) e = more 0 (got_ack_within g c number e)
got_within {low} {v} {qs} {n} g c (message.Dirty sequence period objects) e = more 0 (if_within (Frames.fit_frame c objects) (plus-zero (send_within {n = n} Replies c.number (message.Lease sequence (min period 600000)) (record { bound = e.bound; tags = e.tags }))) (close_within g _ c.number e))
got_within g c (message.Lease sequence period) e = more 0 (told_by_within g c true sequence _ e)
got_within {low} {v} {qs} {n} g c (message.Clean sequence strong objects) e = more 0 (if_within (Frames.fit_frame c objects) (plus-zero (send_within {n = n} Replies c.number (message.Cleaned sequence) (record { bound = e.bound; tags = e.tags }))) (close_within g _ c.number e))
got_within g c (message.Cleaned sequence) e = more 0 (told_by_within g c false sequence _ e)
got_within g c (message.Lookup number name) e = more 0 (got_lookup_within g c number name e)

pub receive_within : {low : ℕ} {v : Part} {qs : List Request} {n : ℕ} {s : State} (g : Setting) (c : Connection) (m : Message) → IsDialler v c → Within low v qs n s → Within low v qs (n + carried (v.frames c.number) m) (Frames.receive g c m s)
unfolding Frames.receive
receive_within {low} {v} {qs} {n} {s} g c m own e = cases (is_none c.peer) _
  where
    cases : (fresh wrong : Bool) → Within low v qs (n + carried (v.frames c.number) m) (if fresh then Frames.first_frame g c m s else (if wrong then Endings.close g g.classes.unmarshal c.number s else Frames.got g c m s))
    cases true wrong = more (carried (v.frames c.number) m) (first_frame_within g c m own e)
    cases false true = more (carried (v.frames c.number) m) (close_within g _ c.number e)
    cases false false = got_within g c m e

-- ---- events

pub opened_within : {low : ℕ} {v : Part} {qs : List Request} {n : ℕ} {s : State} (g : Setting) (conn : ℕ) (dialled : Option Uuid) → DialsOwn v conn dialled → Within low v qs n s → Within low v qs n (OwnEvents.on_opened g conn dialled s)
unfolding OwnEvents.on_opened
opened_within {low} {v} {qs} {n} {s} g conn dialled own e = says dialled own
  where
    added : (d : Option Uuid) → IsDialler v (record { number = conn; dialled = d; peer = None; version = 1; last = 0; sent = [] }) → Within low v qs n (OwnEvents.add_connection conn d s)
    added d is = record {
      bound = e.bound;
      tags = record {
        calls = e.tags.calls;
        ids = e.tags.ids;
        requests = e.tags.requests;
        fresh = e.tags.fresh;
        also = e.tags.also;
        connections = all-more (IsDialler v) s.connections (record { number = conn; dialled = d; peer = None; version = 1; last = 0; sent = [] }) e.tags.connections is;
      };
    }

    says : (d : Option Uuid) → DialsOwn v conn d → Within low v qs n (OwnEvents.first_hello g conn d (OwnEvents.dialled_no_more d (OwnEvents.add_connection conn d s)))
    says None known =
        let k : Within low v qs n (OwnEvents.add_connection conn None s) = added None (λ z. absurd (true≢false (sym z))) in
        if_within (nat_le 2 g.version) k (say_hello_within g 1 conn k)
    says (Some peer) known =
        let k : Within low v qs n (OwnEvents.add_connection conn (Some peer) s) = added (Some peer) (λ z. known) in
        let now : Within low v qs n (OwnEvents.dialled_no_more (Some peer) (OwnEvents.add_connection conn (Some peer) s)) = record { bound = k.bound; tags = k.tags } in
        say_hello_within g _ conn now

pub refused_within : {low : ℕ} {v : Part} {qs : List Request} {n : ℕ} {s : State} (g : Setting) (peer : Uuid) → Within low v qs n s → Within low v qs n (OwnEvents.on_refused g peer s)
unfolding OwnEvents.on_refused
refused_within {low} {v} {qs} {n} g peer e = end_requests_within {n = n} g _ _ (record { bound = e.bound; tags = e.tags })

pub received_within : {low : ℕ} {v : Part} {qs : List Request} {n : ℕ} {s : State} (g : Setting) (conn : ℕ) (m : Message) → Within low v qs n s → Within low v qs (n + carried (v.frames conn) m) (OwnEvents.received_on g (connection_at s conn) m s)
received_within {low} {v} {qs} {n} {s} g conn m e = on (connection_at s conn) refl
  where
    on : (c : Option Connection) → connection_at s conn ≡ c → Within low v qs (n + carried (v.frames conn) m) (OwnEvents.received_on g c m s)
    on None is = more (carried (v.frames conn) m) e
    on (Some c) is =
        let same : carried (v.frames c.number) m ≡ carried (v.frames conn) m = ap (λ k. carried (v.frames k) m) (eqb-true c.number conn (found-is (λ (d : Connection). d.number == conn) s.connections c is)) in
        weaken n (carried (v.frames c.number) m) (carried (v.frames conn) m) (omega arith) (receive_within g c m (all-found (IsDialler v) (λ (d : Connection). d.number == conn) s.connections c is e.tags.connections) e)

pub write_failed_within : {low : ℕ} {v : Part} {qs : List Request} {n : ℕ} {s : State} (g : Setting) (conn unsent : ℕ) → Within low v qs n s → Within low v qs n (Endings.fail_write g conn unsent s)
unfolding Endings.fail_write
write_failed_within g conn unsent e = end_connection_within g _ conn e

pub moment_within : {low : ℕ} {v : Part} {qs : List Request} {n : ℕ} {s : State} (g : Setting) (moment : ℕ) → Within low v qs n s → Within low v qs n (OwnEvents.on_moment g moment s)
unfolding OwnEvents.on_moment
moment_within {low} {v} {qs} {n} {s} g moment e = if_within (Rattle.std.specs.Prelude.nat_lt moment s.moment) e (release_within {n = n} g _ (record { bound = e.bound; tags = e.tags }))

pub withdraw_within : {low : ℕ} {v : Part} {qs : List Request} {n : ℕ} {s : State} (g : Setting) (gone : List State.Object) → Within low v qs n s → Within low v qs n (OwnEvents.withdraw g s gone)
withdraw_within {low} {v} {qs} {n} g gone e = plus-zero (say_within _ (each_same _ _ (λ t o h. drop_within _ h)
    (each_same _ _ (λ t id h. record { bound = h.bound; tags = h.tags }) (record { bound = e.bound; tags = e.tags }))))

pub sweep_within : {low : ℕ} {v : Part} {qs : List Request} {n : ℕ} {s : State} (g : Setting) → Within low v qs n s → Within low v qs n (OwnEvents.on_sweep g s)
unfolding OwnEvents.on_sweep
sweep_within {low} {v} {qs} {n} {s} g e = sweeps (OwnEvents.without_reason g s)
  where
    sweeps : (gone : List State.Object) → Within low v qs n (OwnEvents.sweep_of g s gone)
    sweeps [] = e
    sweeps (o ∷ os) = withdraw_within g (o ∷ os) e

pub names_within : {low : ℕ} {v : Part} {qs : List Request} {n : ℕ} {s : State} (r : Result (List Rattle.sp_registry.specs.declared.registry.Binding.Binding) Rattle.sp_registry.specs.declared.fault.RegistryFault.RegistryFault) → Within low v qs n s → Within low v qs n (OwnEvents.set_names r s)
unfolding OwnEvents.set_names
names_within (Ok names) e = record { bound = e.bound; tags = e.tags }
names_within (Err why) e = plus-zero (say_within (Denied why) e)

pub lookup_within : {low : ℕ} {v : Part} {qs : List Request} {n : ℕ} {s : State} (g : Setting) (peer : Uuid) (name : List ℕ) → Within low v qs n s → Within low v qs n (OwnEvents.on_lookup g peer name s)
unfolding OwnEvents.on_lookup
lookup_within {low} {v} {qs} {n} {s} g peer name e = if_within (Rattle.sp_registry.specs.Names.is_name name) (plus-zero (say_within {n = n} (Started (s.tasks_made + 1)) looking)) (plus-zero (say_within _ e))
  where
    later : (q : Request) → IsTagged v s.tasks_made s.tasks q → IsTagged v (s.tasks_made + 1) s.tasks q
    later q tag = (of q.asked tag.0, tag.1)
      where
        of : (a : Asked) → Rattle.sp_laws.proofs.TreeOfTasks.Fits v s.tasks_made s.tasks a → Rattle.sp_laws.proofs.TreeOfTasks.Fits v (s.tasks_made + 1) s.tasks a
        of (Calls number task lent kind m) f = let le : task ≤ s.tasks_made = f.0 in (omega arith, f.1)
        of (LooksUp number task word) f = tt
        of (Tells call group) f = tt

    b : left_in v s ≤ n
    b = e.bound

    given : low ≤ s.calls_made
    given = e.tags.calls

    less : left_in v (record s { tasks_made = s.tasks_made + 1; calls_made = s.calls_made + 1; fresh = record { peer = peer; asked = LooksUp (s.calls_made + 1) (s.tasks_made + 1) name; stage = Waits } ∷ [] }) ≤ n
    less = omega (arith, b)

    looking : Within low v qs n (record s { tasks_made = s.tasks_made + 1; calls_made = s.calls_made + 1; fresh = record { peer = peer; asked = LooksUp (s.calls_made + 1) (s.tasks_made + 1) name; stage = Waits } ∷ [] })
    looking = record {
      bound = less;
      tags = record {
        calls = omega (arith, given);
        ids = all-weaken (λ (t : Living). t.id ≤ s.tasks_made) (λ (t : Living). t.id ≤ s.tasks_made + 1) s.tasks (λ t le. omega (arith, le)) e.tags.ids;
        requests = all-weaken (IsTagged v s.tasks_made s.tasks) (IsTagged v (s.tasks_made + 1) s.tasks) s.requests later e.tags.requests;
        fresh = ((tt, tt), tt);
        also = all-weaken (IsTagged v s.tasks_made s.tasks) (IsTagged v (s.tasks_made + 1) s.tasks) qs later e.tags.also;
        connections = e.tags.connections;
      };
    }

-- the fuel of a tree that comes into a space with an event
unfoldable pub brought : Part → State → Event → ℕ
brought v s (Received conn m) = carried (v.frames conn) m
brought v s e = root_part v s e

-- An event brings into a space no more than it leaves there, with the instructions of a task that it ends.
pub happen_within : {low : ℕ} {v : Part} {qs : List Request} (n : ℕ) {s : State} (g : Setting) (e : Event) → FitsTree v s e → Within low v qs (n + ended_part v s e) s → Within low v qs (n + brought v s e) (Space.happen g e s)
unfolding Space.happen brought
happen_within n g (Moment moment) f k = more 0 (moment_within g moment (plus-zero k))
happen_within n g Sweep f k = more 0 (sweep_within g (plus-zero k))
happen_within n g (Root method arguments fuel) f k = add_task_within g OfRoot method arguments fuel (plus-zero k)
happen_within n g (RootAck task) f k = more 0 (release_within g _ (plus-zero k))
happen_within n g (Bind name value) f k = more 0 (names_within _ (plus-zero k))
happen_within n g (Rebind name value) f k = more 0 (names_within _ (plus-zero k))
happen_within n g (Unbind name) f k = more 0 (names_within _ (plus-zero k))
happen_within n g (Lookup peer name) f k = more 0 (lookup_within g peer name (plus-zero k))
happen_within n g (Opened conn dialled) f k = more 0 (opened_within g conn dialled f (plus-zero k))
happen_within n g (Refused peer) f k = more 0 (refused_within g peer (plus-zero k))
happen_within n g (Received conn m) f k = received_within g conn m (plus-zero k)
happen_within n g (Closed conn) f k = more 0 (end_connection_within g _ conn (plus-zero k))
happen_within n g (ReadFailed conn) f k = more 0 (end_connection_within g _ conn (plus-zero k))
happen_within n g (Bad conn) f k = more 0 (end_connection_within g _ conn (plus-zero k))
happen_within n g (WriteFailed conn unsent) f k = more 0 (write_failed_within g conn unsent (plus-zero k))
happen_within n g (Committed task j op) f k = more 0 (commit_within g task j op (plus-zero k))
happen_within n g (Parked task j) f k = more 0 (park_call_within g task j f (plus-zero k))
happen_within n g (GivenBack task j) f k = more 0 (give_back_within task j (plus-zero k))
happen_within n g (Finished task j) f k = more 0 (finish_within g task j k)
