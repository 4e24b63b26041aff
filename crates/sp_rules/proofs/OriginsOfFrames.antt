-- The rules of frames, endings and own events keep the references in a space to those that were there, those that the event brings, and
-- those of standing objects.
use mathlib.Core.Path.{sym, ap, subst, ◌∙◌}
use Rattle.std.specs.Prelude.{◌≡◌, refl, ℕ, ◌+◌, ◌≤◌, ◌==◌, ◌&&◌, ◌||◌, not, nat_le, nat_lt, is_none, Bool, true, false, List, [], ◌∷◌, ◌++◌, Option, None, Some, Result, Ok, Err, filter, find, map, fold, if◌then◌else◌}
use Rattle.std.specs.List.{list_any, list_all}
use Rattle.std.specs.Str.{bytes_eq}
use Rattle.std.proofs.lemmas.Bool.{true≢false, eq-eqb}
use Rattle.space_ids.specs.declared.ids.ClassId.{ClassId}
use Rattle.dgc_client.specs.History as lease_events
use Rattle.dgc_client.specs.Lease as lease
use Rattle.dgc_client.specs.Table as client
use Rattle.dgc_client.specs.declared.groups.Group.{Group}
use Rattle.dgc_client.specs.declared.lease.Due.{Due}
use Rattle.dgc_client.specs.declared.lease.Due.TheVariants as due
use Rattle.space_ids.specs.declared.ids.ForeignId.{ForeignId}
use Rattle.net_message.specs.declared.message.Message.{Message}
use Rattle.net_message.specs.declared.message.Message.TheVariants as message
use Rattle.sp_registry.specs.Bindings as registry
use Rattle.sp_registry.specs.Names.{is_name}
use Rattle.sp_registry.specs.declared.fault.RegistryFault.{RegistryFault}
use Rattle.sp_registry.specs.declared.registry.Binding.{Binding}
use Rattle.uuid.specs.declared.Uuid.{Uuid}
use Rattle.space_ids.specs.declared.ids.ObjId.{ObjId}
use Rattle.space_ids.specs.declared.ids.Ref.{Ref}
use Rattle.space_ids.specs.declared.value.Value.{Value}
use Rattle.space_ids.specs.declared.value.Value.TheVariants as values
use Rattle.sp_rules.specs.Behaviours.{Reply, Throws}
use Rattle.sp_rules.specs.Classes.{Setting, fit_kinds}
use Rattle.sp_rules.specs.Endings
use Rattle.sp_rules.specs.Events.{Event, Moment, Sweep, Root, RootAck, Bind, Rebind, Unbind, Lookup, Opened, Refused, Received, Closed, ReadFailed, Bad, WriteFailed, Committed, Parked, GivenBack, Finished, Output, Started, Ended, Withdrawn, Denied, Send, Dial, Close, Ready, Note, Says, Sends, Turn, output_of, in_order, ranks}
use Rattle.sp_rules.specs.Frames
use Rattle.sp_rules.specs.Holders
use Rattle.sp_rules.specs.Holders.{hold_ids, drop_ids}
use Rattle.sp_rules.specs.Laws.{AllOf}
use Rattle.sp_rules.specs.Lists.{each, with_some}
use Rattle.sp_rules.specs.LivingTasks
use Rattle.sp_rules.specs.Origins.{references_of_message, references_of_output, own_reference}
use Rattle.sp_rules.specs.OwnEvents
use Rattle.sp_rules.specs.ParkedFrames
use Rattle.sp_rules.specs.References.{references_of, references_in, foreign_ids, is_id, is_id_in}
use Rattle.sp_rules.specs.Requests
use Rattle.sp_rules.specs.Space
use Rattle.sp_rules.specs.State.{State, Object, Stored, Made, Written, Gone, Living, Origin, OfRoot, OfCall, Until, Request, Asked, Calls, LooksUp, Tells, Stage, Connection, KeptResult, Frame, CallFrame, ReturnedFrame, ParkedFrame, standing, last_written, task_at, ready_at, object_at, connection_at, connection_to, is_open, set_task, set_connection, say, send, tell_owner}
use Rattle.sp_rules.specs.State as state
use Rattle.sp_rules.specs.Tasks.{stand, steps}
use Rattle.sp_rules.proofs.AllLemmas.{all-weaken, all-more, all-filter, all-map, all-found, found-is, none-found, all-both-filter, all-with, each-there, ranks-all}
use Rattle.sp_rules.proofs.SweepLemmas.{one-id}
use Rattle.sp_rules.proofs.OriginLemmas.{FrameIs, AskedIs, FieldsAre, Only, quiet, now_results, now_requests, now_fresh, now_notes, now_parked, if_only, some_only, each_only, note_only, send_only, hold_only, drop_only, dial_only, flush_only, settle_only, ReplyIs, add_task_only, keep_only, reply_to_only, OpBrings, commit_only, CallIs, EndIs, park_only, give_back_only, finish_only}

-- ---- parked frames

threw_only : {g : Setting} {Is Out : Ref → Type 0} {Kept : ParkedFrame → Type 0} {s : State} (conn number : ℕ) (class : ClassId) → Only g Is Out Kept s → Only g Is Out Kept (ParkedFrames.answer_threw conn number class s)
threw_only conn number class h = send_only _ conn _ tt h

start_call_only : {g : Setting} {Is Out : Ref → Type 0} {Kept : ParkedFrame → Type 0} {s : State} (p : ParkedFrame) (target : ObjId) (method fuel : ℕ) (arguments : List Value) → AllOf Is (references_of arguments)
    → Only g Is Out Kept s → Only g Is Out Kept (ParkedFrames.start_call g p target method fuel arguments s)
unfolding ParkedFrames.start_call
start_call_only {g} {Is} {Out} {Kept} {s = s} p target method fuel arguments a h = some_only (object_at s target) _ h (λ o is. selected (record { space = g.id; id = target; class = o.class }) (own o is) (g.classes.selected o.class method))
  where
    own : (o : Object) → object_at s target ≡ Some o → Is (record { space = g.id; id = target; class = o.class })
    own o is = subst (λ i. Is (record { space = g.id; id = i; class = o.class })) (one-id o.id target (found-is (λ (q : Object). is_id q.id target) (standing s.store) o is))
        (all-found (λ (q : Object). Is (own_reference g q)) (λ (q : Object). is_id q.id target) (standing s.store) o is h.parts.objects)

    selected : (receiver : Ref) → Is receiver → (found : Option ℕ) → Only g Is Out Kept (ParkedFrames.start_selected g p.conn p.number receiver found fuel arguments s)
    selected receiver r None = threw_only p.conn p.number _ h
    selected receiver r (Some m) = add_task_only _ m _ fuel (r, a) h

ack_only : {g : Setting} {Is Out : Ref → Type 0} {Kept : ParkedFrame → Type 0} {s : State} (conn number : ℕ) (is : Request → Bool) → Only g Is Out Kept s → Only g Is Out Kept (send Rattle.sp_rules.specs.Events.Acks conn (message.Ack number) (ParkedFrames.remove_requests is s))
ack_only {Out = Out} {s = s} conn number is h = send_only _ conn _ tt (now_requests _ (all-filter (AskedIs Out) (λ r. not (is r)) s.requests h.parts.requests) h)

answer_parked_only : {g : Setting} {Is Out : Ref → Type 0} {Kept : ParkedFrame → Type 0} {s : State} (p : ParkedFrame) (reply : Reply) → ReplyIs Is reply → Only g Is Out Kept s → Only g Is Out Kept (ParkedFrames.answer_parked g p reply s)
unfolding ParkedFrames.answer_parked
answer_parked_only {s = s} p reply a h = some_only (find (ParkedFrames.is_call_on p.conn p.number) s.requests) _ h (λ r is. reply_to_only r.asked reply a (ack_only p.conn p.number _ h))

abbrev pub is_none_of : List ForeignId → Bool
is_none_of [] = true
is_none_of (r ∷ rs) = false

none-lack : (has : ForeignId → Bool) (refs : List ForeignId) → is_none_of refs ≡ true → list_all has refs ≡ true
none-lack has [] e = refl
none-lack has (r ∷ rs) e = absurd (true≢false (sym e))

held-parked : (ids : List ForeignId) (s : State) → (hold_ids ids s).parked ≡ s.parked
unfolding hold_ids each
held-parked [] s = refl
held-parked (r ∷ ids) s = held-parked ids (Holders.holder_comes s r)

at-itself : (p : ParkedFrame) → ParkedFrames.is_parked_at p.conn p.number p ≡ true
at-itself p = both (p.conn == p.conn) (p.number == p.number) (eq-eqb p.conn p.conn refl) (eq-eqb p.number p.number refl)
  where
    both : (a b : Bool) → a ≡ true → b ≡ true → a && b ≡ true
    both true b e f = f
    both false b e f = absurd (true≢false (sym e))

abbrev IsAt : ParkedFrame → ParkedFrame → Bool
IsAt p q = ParkedFrames.is_parked_at p.conn p.number q

not-true : (b : Bool) → not b ≡ true → b ≡ false
not-true true e = absurd (true≢false (sym e))
not-true false e = refl

take_only : {g : Setting} {Is Out : Ref → Type 0} {Kept : ParkedFrame → Type 0} {s : State} (p : ParkedFrame) → Only g Is Out Kept s → Only g Is Out (λ q. Kept q × (IsAt p q ≡ false)) (ParkedFrames.take_parked p s)
take_only {g} {Is} {Out} {Kept} {s = s} p h = now_parked _ (all-filter (λ (q : ParkedFrame). FrameIs g Is q.frame) (λ q. not (IsAt p q)) s.parked h.parts.parked)
    (all-weaken (λ q. Kept q × (not (IsAt p q) ≡ true)) (λ q. Kept q × (IsAt p q ≡ false)) _ (λ q k. (k.0, not-true (IsAt p q) k.1)) (all-both-filter Kept (λ q. not (IsAt p q)) s.parked h.parts.kept)) h

-- a weaker kind of parked frames
parked_weaken : {g : Setting} {Is Out : Ref → Type 0} {Kept Kept' : ParkedFrame → Type 0} {s : State} → ((p : ParkedFrame) → Kept p → Kept' p) → Only g Is Out Kept s → Only g Is Out Kept' s
parked_weaken {Kept = Kept} {Kept' = Kept'} {s = s} f h = now_parked s.parked h.parts.parked (all-weaken Kept Kept' s.parked f h.parts.kept) h

let_go_only : {g : Setting} {Is Out : Ref → Type 0} {Kept : ParkedFrame → Type 0} {s : State} (p : ParkedFrame) (parked : List ParkedFrame) → Only g Is Out Kept s → Only g Is Out Kept (ParkedFrames.let_go_parked p parked s)
let_go_only p parked h = each_only _ (filter (ParkedFrames.is_parked_at p.conn p.number) parked) (λ t q k. drop_only q.references k) h

-- a frame that goes is parked no more
go_step : {g : Setting} {Is Out : Ref → Type 0} {Kept : ParkedFrame → Type 0} {s : State} (p : ParkedFrame) → Only g Is Out Kept s → Only g Is Out (λ q. Kept q × (IsAt p q ≡ false)) (ParkedFrames.go g s p)
unfolding ParkedFrames.go
go_step {g} {Is} {Out} {Kept} {s = s} p h = pick (find (IsAt p) s.parked) refl
  where
    frame : (q : ParkedFrame) (f : Frame) → FrameIs g Is f → {t : State} → Only g Is Out (λ q. Kept q × (IsAt p q ≡ false)) t → Only g Is Out (λ q. Kept q × (IsAt p q ≡ false)) (ParkedFrames.go_frame g q f t)
    frame q (CallFrame target method fuel arguments) a k = start_call_only q target method fuel arguments a.1 k
    frame q (ReturnedFrame value fuel) a k = answer_parked_only q _ a k

    pick : (found : Option ParkedFrame) → find (IsAt p) s.parked ≡ found
        → Only g Is Out (λ q. Kept q × (IsAt p q ≡ false)) (with_some found s (λ q. ParkedFrames.let_go_parked p s.parked (ParkedFrames.go_frame g q q.frame (ParkedFrames.take_parked p s))))
    pick None e = now_parked s.parked h.parts.parked (all-with Kept (λ q. IsAt p q ≡ false) (λ q. Kept q × (IsAt p q ≡ false)) s.parked (λ q a b. (a, b)) h.parts.kept (none-found (IsAt p) s.parked e)) h
    pick (Some q) e = let_go_only p s.parked (frame q q.frame (all-found (λ (x : ParkedFrame). FrameIs g Is x.frame) (IsAt p) s.parked q e h.parts.parked) (take_only p h))

go_only : {g : Setting} {Is Out : Ref → Type 0} {Kept : ParkedFrame → Type 0} {s : State} (p : ParkedFrame) → Only g Is Out Kept s → Only g Is Out Kept (ParkedFrames.go g s p)
go_only p h = parked_weaken (λ q k. k.0) (go_step p h)

go_all_only : {g : Setting} {Is Out : Ref → Type 0} {Kept : ParkedFrame → Type 0} {s : State} → Only g Is Out Kept s → Only g Is Out Kept (ParkedFrames.go_all g s)
unfolding ParkedFrames.go_all
go_all_only h = each_only _ _ (λ t p k. go_only p k) h

-- of the frames that wait to go, those that are left
abbrev UnlessGoing : (ParkedFrame → Type 0) → List ParkedFrame → ParkedFrame → Type 0
UnlessGoing Kept ps q = list_any (λ p. IsAt p q) ps ≡ false → Kept q

or-false : (a b : Bool) → a ≡ false → b ≡ false → a || b ≡ false
or-false true b e f = absurd (true≢false e)
or-false false b e f = f

goes_all : {g : Setting} {Is Out : Ref → Type 0} {Kept : ParkedFrame → Type 0} (ps : List ParkedFrame) (s : State) → Only g Is Out (UnlessGoing Kept ps) s → Only g Is Out Kept (each (ParkedFrames.go g) ps s)
unfolding each
goes_all [] s h = parked_weaken (λ q k. k refl) h
goes_all {g} {Is} {Out} {Kept} (p ∷ ps) s h = goes_all ps (ParkedFrames.go g s p) (parked_weaken (λ q k. (λ out. k.0 (or-false (IsAt p q) (list_any (λ x. IsAt x q) ps) k.1 out))) (go_step p h))

-- A frame that waits for nothing goes at once; so one that stays waits for something.
park_frame_only : {g : Setting} {Is Out : Ref → Type 0} {Kept : ParkedFrame → Type 0} {s : State} (conn number : ℕ) (f : Frame) (references : List ForeignId) → FrameIs g Is f
    → (is_none_of references ≡ false → Kept (record { conn = conn; number = number; frame = f; references = references })) → Only g Is Out Kept s → Only g Is Out Kept (ParkedFrames.park_frame g conn number f references s)
unfolding ParkedFrames.park_frame ParkedFrames.go_all
park_frame_only {g} {Is} {Out} {Kept} {s = s} conn number f references a waits h = ends (hold_ids references more) refl (hold_only references parks)
  where
    row : ParkedFrame
    row = record { conn = conn; number = number; frame = f; references = references }

    more : State
    more = record s { parked = s.parked ++ row ∷ [] }

    -- whatever has a lease
    Kept' : (ParkedFrame → Bool) → ParkedFrame → Type 0
    Kept' ready q = UnlessGoing Kept (filter ready (s.parked ++ row ∷ [])) q

    parks : Only g Is Out (λ q. (ready : ParkedFrame → Bool) → ((p : ParkedFrame) → is_none_of p.references ≡ true → ready p ≡ true) → UnlessGoing Kept (filter ready (s.parked ++ row ∷ [])) q) more
    parks = now_parked _ (all-more (λ (p : ParkedFrame). FrameIs g Is p.frame) s.parked row h.parts.parked a)
        (all-more (λ q. (ready : ParkedFrame → Bool) → ((p : ParkedFrame) → is_none_of p.references ≡ true → ready p ≡ true) → UnlessGoing Kept (filter ready (s.parked ++ row ∷ [])) q) s.parked row
        (all-weaken Kept _ s.parked (λ q k ready r out. k) h.parts.kept) (λ ready r out. new ready r out (is_none_of references) refl)) h
      where
        new : (ready : ParkedFrame → Bool) → ((p : ParkedFrame) → is_none_of p.references ≡ true → ready p ≡ true) → list_any (λ p. IsAt p row) (filter ready (s.parked ++ row ∷ [])) ≡ false
            → (b : Bool) → is_none_of references ≡ b → Kept row
        new ready r out true e = absurd (true≢false (sym (each-there (λ p. IsAt p row) ready s.parked row (r row e) (at-itself row)) ∙ out))
        new ready r out false e = waits e

    ends : (t : State) → t ≡ hold_ids references more → Only g Is Out (λ q. (ready : ParkedFrame → Bool) → ((p : ParkedFrame) → is_none_of p.references ≡ true → ready p ≡ true) → UnlessGoing Kept (filter ready (s.parked ++ row ∷ [])) q) t
        → Only g Is Out Kept (each (ParkedFrames.go g) (filter (λ (p : ParkedFrame). list_all (ParkedFrames.has_lease t) p.references) t.parked) t)
    ends t e k = goes_all _ t (parked_weaken (λ q j. subst (λ ps. UnlessGoing Kept (filter (λ (p : ParkedFrame). list_all (ParkedFrames.has_lease t) p.references) ps) q) (sym (ap (λ (u : State). u.parked) e ∙ held-parked references more))
        (j (λ (p : ParkedFrame). list_all (ParkedFrames.has_lease t) p.references) (λ p none. none-lack (ParkedFrames.has_lease t) p.references none))) k)

fail_parked_only : {g : Setting} {Is Out : Ref → Type 0} {Kept : ParkedFrame → Type 0} {s : State} (p : ParkedFrame) → Only g Is Out Kept s → Only g Is Out Kept (ParkedFrames.fail_parked g s p)
unfolding ParkedFrames.fail_parked
fail_parked_only {g} {Is} {Out} {Kept} {s = s} p h = frame p.frame (let_go_only p s.parked (parked_weaken (λ q j. j.0) (take_only p h)))
  where
    frame : (f : Frame) {t : State} → Only g Is Out Kept t → Only g Is Out Kept (ParkedFrames.fail_frame g p f t)
    frame (CallFrame target method fuel arguments) k = threw_only p.conn p.number _ k
    frame (ReturnedFrame value fuel) k = answer_parked_only p (Throws g.classes.unmarshal) tt k

-- ---- endings

fail_dirty_only : {g : Setting} {Is Out : Ref → Type 0} {Kept : ParkedFrame → Type 0} {s : State} (call : ℕ) (id : ForeignId) → Only g Is Out Kept s → Only g Is Out Kept (Endings.fail_dirty g call s id)
unfolding Endings.fail_dirty
fail_dirty_only {s = s} call id h = if_only (lease.is_made (Holders.lease_now s id).dirty call && is_none (Holders.lease_now s id).lease)
    (each_only _ (filter (ParkedFrames.names id) s.parked) (λ t p k. fail_parked_only p k) (quiet _ refl h)) (quiet _ refl h)

fail_group_only : {g : Setting} {Is Out : Ref → Type 0} {Kept : ParkedFrame → Type 0} {s : State} (kind : Due) (b : Group) (call : ℕ) → Only g Is Out Kept s → Only g Is Out Kept (Endings.fail_group g kind b call s)
fail_group_only due.Dirty b call h = each_only _ _ (λ t x k. fail_dirty_only call x k) h
fail_group_only (due.Clean strong) b call h = each_only _ _ (λ t x k. quiet _ refl k) h

end_asked_only : {g : Setting} {Is Out : Ref → Type 0} {Kept : ParkedFrame → Type 0} {s : State} (class : ClassId) (asked : Asked) → Only g Is Out Kept s → Only g Is Out Kept (Endings.end_asked g class asked s)
end_asked_only class (Calls number task lent kind m) h = reply_to_only (Calls number task lent kind m) (Throws class) tt h
end_asked_only class (LooksUp number task name) h = reply_to_only (LooksUp number task name) (Throws class) tt h
end_asked_only class (Tells call group) h = fail_group_only group.kind group call h

end_requests_only : {g : Setting} {Is Out : Ref → Type 0} {Kept : ParkedFrame → Type 0} {s : State} (is : Request → Bool) (why : Asked → ClassId) → Only g Is Out Kept s → Only g Is Out Kept (Endings.end_requests g is why s)
unfolding Endings.end_requests
end_requests_only {Out = Out} {s = s} is why h =
    each_only _ _ (λ t q k. end_asked_only (why q.asked) q.asked k)
    (each_only _ _ (λ t q k. end_asked_only (why q.asked) q.asked k) (now_requests _ (all-filter (AskedIs Out) (λ r. not (is r)) s.requests h.parts.requests) h))

abbrev row_of : Until → Option Value → KeptResult
row_of until value = record { until = until; value = value }

pub orphan-value : (conn moment : ℕ) (k : KeptResult) → (Endings.orphan conn moment k).value ≡ k.value
orphan-value conn moment k = by k.until k.value
  where
    by : (until : Until) (value : Option Value) → (Endings.orphan conn moment (row_of until value)).value ≡ value
    by (state.RootAcked task) value = refl
    by (state.Acked c number) value = pick (c == conn)
      where
        pick : (b : Bool) → (if b then row_of (state.Passed (moment + 600000)) value else row_of (state.Acked c number) value).value ≡ value
        pick true = refl
        pick false = refl
    by (state.Passed m) value = refl

let_connection_go_only : {g : Setting} {Is Out : Ref → Type 0} {Kept : ParkedFrame → Type 0} {s : State} (conn : ℕ) → Only g Is Out Kept s → Only g Is Out Kept (Endings.let_connection_go conn s)
let_connection_go_only {g} {Is} {s = s} conn h =
    each_only _ _ (λ t p k. let_go_only p t.parked (parked_weaken (λ q j. j.0) (take_only p k))) (quiet (Endings.without_connection conn s) refl
    (now_results (map (Endings.orphan conn s.moment) s.results) (all-map (λ (k : KeptResult). AllOf Is (references_in k.value)) (λ (k : KeptResult). AllOf Is (references_in k.value)) (Endings.orphan conn s.moment) s.results
    (λ k a. subst (λ v. AllOf Is (references_in v)) (sym (orphan-value conn s.moment k)) a) h.parts.results) h))

end_connection_only : {g : Setting} {Is Out : Ref → Type 0} {Kept : ParkedFrame → Type 0} {s : State} (why : Asked → ClassId) (conn : ℕ) → Only g Is Out Kept s → Only g Is Out Kept (Endings.end_connection g why conn s)
unfolding Endings.end_connection
end_connection_only {s = s} why conn h = some_only (connection_at s conn) _ h (λ c is. end_requests_only _ why (let_connection_go_only conn h))

redial_only : {g : Setting} {Is Out : Ref → Type 0} {Kept : ParkedFrame → Type 0} {s : State} (peer : Uuid) (conn : ℕ) → Only g Is Out Kept s → Only g Is Out Kept (Endings.redial peer conn s)
unfolding Endings.redial
redial_only {s = s} peer conn h = dial_only peer (note_only (Says (Close conn)) tt (let_connection_go_only conn (quiet (Endings.note_peer peer s) refl h)))

close_only : {g : Setting} {Is Out : Ref → Type 0} {Kept : ParkedFrame → Type 0} {s : State} (class : ClassId) (conn : ℕ) → Only g Is Out Kept s → Only g Is Out Kept (Endings.close g class conn s)
unfolding Endings.close
close_only class conn h = note_only (Says (Close conn)) tt (end_connection_only _ conn h)

fail_write_only : {g : Setting} {Is Out : Ref → Type 0} {Kept : ParkedFrame → Type 0} {s : State} (conn unsent : ℕ) → Only g Is Out Kept s → Only g Is Out Kept (Endings.fail_write g conn unsent s)
unfolding Endings.fail_write
fail_write_only conn unsent h = end_connection_only _ conn h

-- ---- frames that come

say_hello_only : {g : Setting} {Is Out : Ref → Type 0} {Kept : ParkedFrame → Type 0} {s : State} (version conn : ℕ) → Only g Is Out Kept s → Only g Is Out Kept (Frames.say_hello g version conn s)
say_hello_only {g} version conn h = quiet _ refl (send_only Rattle.sp_rules.specs.Events.Hellos conn (message.Hello version g.id g.digest) tt h)

first_only : {g : Setting} {Is Out : Ref → Type 0} {Kept : ParkedFrame → Type 0} {s : State} (c : Connection) (m : Message) → Only g Is Out Kept s → Only g Is Out Kept (Frames.first_frame g c m s)
unfolding Frames.first_frame
first_only {g} {s = s} c (message.Hello version space digest) h = some_only c.dialled _ (if_only _ (if_only (nat_le 2 g.version) (say_hello_only _ c.number (quiet _ refl h)) (quiet _ refl h)) (close_only _ c.number h))
    (λ peer is. if_only (bytes_eq digest g.digest && bytes_eq space peer)
    (if_only (version == c.version) (flush_only peer c.number (quiet _ refl h)) (if_only (nat_le 2 c.version && version == 1) (redial_only peer c.number h) (close_only _ c.number h)))
    (close_only _ c.number h))
first_only c (message.Call number object method fuel arguments) h = close_only _ c.number h
first_only c (message.Returned number fuel value) h = close_only _ c.number h
first_only c (message.Threw number class) h = close_only _ c.number h
first_only c (message.Spent number) h = close_only _ c.number h
first_only c (message.Ack number) h = close_only _ c.number h
first_only c (message.Dirty sequence period objects) h = close_only _ c.number h
first_only c (message.Lease sequence period) h = close_only _ c.number h
first_only c (message.Clean sequence strong objects) h = close_only _ c.number h
first_only c (message.Cleaned sequence) h = close_only _ c.number h
first_only c (message.Lookup number name) h = close_only _ c.number h

-- what a frame brings is right if it is not refused
abbrev pub RefBrings : Setting → (Ref → Type 0) → State → Ref → Type 0
RefBrings g Is s r = Holders.is_refused g s r ≡ false → Is r

either-false : (a b : Bool) → a || b ≡ false → (a ≡ false) × (b ≡ false)
either-false true b e = absurd (true≢false e)
either-false false b e = (refl, e)

unrefused : (g : Setting) (Is : Ref → Type 0) (s : State) (refs : List Ref) → list_any (Holders.is_refused g s) refs ≡ false → AllOf (RefBrings g Is s) refs → AllOf Is refs
unrefused g Is s [] e b = tt
unrefused g Is s (r ∷ refs) e b = pick (Holders.is_refused g s r) refl e (λ f. unrefused g Is s refs f b.1)
  where
    pick : (t : Bool) → Holders.is_refused g s r ≡ t → t || list_any (Holders.is_refused g s) refs ≡ false → (list_any (Holders.is_refused g s) refs ≡ false → AllOf Is refs) → AllOf Is (r ∷ refs)
    pick true is f rest = absurd (true≢false f)
    pick false is f rest = (b.0 is, rest f)

-- what a parked frame waits for: its foreign references, of which there is one
abbrev pub Matches : Setting → Frame → List ForeignId → Type 0
Matches g (CallFrame target method fuel arguments) references = references ≡ fold client.with_reference [] (foreign_ids g.id (references_of arguments))
Matches g (ReturnedFrame value fuel) references = references ≡ foreign_ids g.id (references_in value)

abbrev pub Waits : Setting → ParkedFrame → Type 0
Waits g p = Matches g p.frame p.references × (is_none_of p.references ≡ false)

call_of_only : {g : Setting} {Is Out : Ref → Type 0} {s : State} (conn number : ℕ) (o : Object) (method fuel : ℕ) (arguments : List Value) → Is (own_reference g o) → AllOf (RefBrings g Is s) (references_of arguments)
    → Only g Is Out (Waits g) s → Only g Is Out (Waits g) (Frames.call_of g conn number o method fuel arguments s)
call_of_only {g} {Is} {Out} {s = s} conn number o method fuel arguments own b h = pick (not (g.classes.may_call o.class method)) (not (fit_kinds (g.classes.parameters method) arguments)) (list_any (Holders.is_refused g s) (references_of arguments)) refl
  where
    parks : list_any (Holders.is_refused g s) (references_of arguments) ≡ false → Only g Is Out (Waits g) (if Frames.is_busy s then ParkedFrames.answer_threw conn number g.classes.server_error s
        else ParkedFrames.park_frame g conn number (CallFrame o.id method fuel arguments) (fold client.with_reference [] (foreign_ids g.id (references_of arguments))) s)
    parks e = if_only (Frames.is_busy s) (threw_only conn number _ h) (park_frame_only conn number (CallFrame o.id method fuel arguments) _ ((o.class, own), unrefused g Is s (references_of arguments) e b) (λ some. (refl, some)) h)

    pick : (x y z : Bool) → list_any (Holders.is_refused g s) (references_of arguments) ≡ z → Only g Is Out (Waits g) (if x || (y || z) then ParkedFrames.answer_threw conn number g.classes.unmarshal s
        else (if Frames.is_busy s then ParkedFrames.answer_threw conn number g.classes.server_error s
        else ParkedFrames.park_frame g conn number (CallFrame o.id method fuel arguments) (fold client.with_reference [] (foreign_ids g.id (references_of arguments))) s))
    pick true y z e = threw_only conn number _ h
    pick false true z e = threw_only conn number _ h
    pick false false true e = threw_only conn number _ h
    pick false false false e = parks e

got_call_only : {g : Setting} {Is Out : Ref → Type 0} {s : State} (c : Connection) (number : ℕ) (target : ObjId) (method fuel : ℕ) (arguments : List Value) → AllOf (RefBrings g Is s) (references_of arguments)
    → Only g Is Out (Waits g) s → Only g Is Out (Waits g) (Frames.got_call g c number target method fuel arguments s)
unfolding Frames.got_call
got_call_only {g} {Is} {Out} {s = s} c number target method fuel arguments b h = if_only (nat_le number c.last) (close_only _ c.number h) (on (object_at s target) refl)
  where
    counted : Only g Is Out (Waits g) (Frames.counted c.number number s)
    counted = quiet _ refl h

    on : (o : Option Object) → object_at s target ≡ o → Only g Is Out (Waits g) (Frames.call_on g c.number number o method fuel arguments (Frames.counted c.number number s))
    on None e = threw_only c.number number _ counted
    on (Some o) e = call_of_only c.number number o method fuel arguments (all-found (λ (q : Object). Is (own_reference g q)) (λ (q : Object). is_id q.id target) (standing s.store) o e h.parts.objects) b counted

got_lookup_only : {g : Setting} {Is Out : Ref → Type 0} {Kept : ParkedFrame → Type 0} {s : State} (c : Connection) (number : ℕ) (name : List ℕ) → Only g Is Out Kept s → Only g Is Out Kept (Frames.got_lookup g c number name s)
unfolding Frames.got_lookup
got_lookup_only {g} {Is} {Out} {Kept} {s = s} c number name h = if_only (nat_le number c.last) (close_only _ c.number h) (on (registry.lookup s.owner.names name))
  where
    counted : Only g Is Out Kept (Frames.counted c.number number s)
    counted = quiet _ refl h

    gives : (o : Option Object) (id : ObjId) → object_at s id ≡ o → Only g Is Out Kept (Frames.found g c.number number o (Frames.counted c.number number s))
    gives None id e = threw_only c.number number _ counted
    gives (Some o) id e =
        let own : Is (own_reference g o) = all-found (λ (q : Object). Is (own_reference g q)) (λ (q : Object). is_id q.id id) (standing s.store) o e h.parts.objects in
        send_only _ c.number _ (h.parts.lets (own_reference g o) own, tt) (keep_only (state.Acked c.number number) (Some (values.Ref (own_reference g o))) (own, tt) counted)

    on : (id : Option ObjId) → Only g Is Out Kept (Frames.found g c.number number (Frames.object_of s id) (Frames.counted c.number number s))
    on None = threw_only c.number number _ counted
    on (Some id) = gives (object_at s id) id refl

release_only : {g : Setting} {Is Out : Ref → Type 0} {Kept : ParkedFrame → Type 0} {s : State} (is : KeptResult → Bool) → Only g Is Out Kept s → Only g Is Out Kept (Frames.release g is s)
unfolding Frames.release
release_only {Is = Is} {s = s} is h = each_only _ _ (λ t r k. drop_only _ k) (now_results _ (all-filter (λ (k : KeptResult). AllOf Is (references_in k.value)) (λ r. not (is r)) s.results h.parts.results) h)

got_ack_only : {g : Setting} {Is Out : Ref → Type 0} {Kept : ParkedFrame → Type 0} {s : State} (c : Connection) (number : ℕ) → Only g Is Out Kept s → Only g Is Out Kept (Frames.got_ack g c number s)
unfolding Frames.got_ack
got_ack_only {s = s} c number h = if_only (list_any (Frames.is_acked_by c.number number) s.results) (release_only _ h) (close_only _ c.number h)

returned_only : {g : Setting} {Is Out : Ref → Type 0} {s : State} (c : Connection) (number fuel : ℕ) (value : Option Value) (asked : Asked) → AllOf (RefBrings g Is s) (references_in value)
    → Only g Is Out (Waits g) s → Only g Is Out (Waits g) (Frames.returned_for g c number fuel value asked s)
returned_only {g} {Is} {Out} {s = s} c number fuel value asked b h = pick (not (Frames.fits_asked asked value fuel)) (list_any (Holders.is_refused g s) (references_in value)) refl
  where
    refused : State
    refused = LivingTasks.reply_to g asked (Throws g.classes.unmarshal) (send Rattle.sp_rules.specs.Events.Acks c.number (message.Ack number) (ParkedFrames.remove_requests (ParkedFrames.is_call_on c.number number) s))

    refuses : Only g Is Out (Waits g) refused
    refuses = reply_to_only asked (Throws g.classes.unmarshal) tt (ack_only c.number number _ h)

    answered-asked : (r : Request) → AskedIs Out r → AskedIs Out (Frames.answered_on c.number number r)
    answered-asked r a = pick-one (ParkedFrames.is_call_on c.number number r)
      where
        pick-one : (x : Bool) → AskedIs Out (if x then record r { stage = state.Answered c.number } else r)
        pick-one true = a
        pick-one false = a

    pick : (x y : Bool) → list_any (Holders.is_refused g s) (references_in value) ≡ y → Only g Is Out (Waits g) (if x || y then refused
        else ParkedFrames.park_frame g c.number number (ReturnedFrame value fuel) (foreign_ids g.id (references_in value)) (record s { requests = map (Frames.answered_on c.number number) s.requests }))
    pick true y e = refuses
    pick false true e = refuses
    pick false false e = park_frame_only c.number number (ReturnedFrame value fuel) _ (unrefused g Is s (references_in value) e b) (λ some. (refl, some))
        (now_requests _ (all-map (AskedIs Out) (AskedIs Out) (Frames.answered_on c.number number) s.requests answered-asked h.parts.requests) h)

answered_by_only : {g : Setting} {Is Out : Ref → Type 0} {Kept : ParkedFrame → Type 0} {s : State} (c : Connection) (number : ℕ) (next : Asked → State → State) → ((asked : Asked) → Only g Is Out Kept (next asked s)) → Only g Is Out Kept s → Only g Is Out Kept (Frames.answered_by g c number next s)
unfolding Frames.answered_by
answered_by_only {s = s} c number next k h = some_only (find (ParkedFrames.is_asked_on c.number number) s.requests) _ (close_only _ c.number h) (λ q is. k q.asked)

spent-is : (g : Setting) (Is : Ref → Type 0) (asked : Asked) → ReplyIs Is (Frames.spent_reply g asked)
spent-is g Is (Calls number task lent kind m) = tt
spent-is g Is (LooksUp number task name) = tt
spent-is g Is (Tells call group) = tt

ends_as_only : {g : Setting} {Is Out : Ref → Type 0} {Kept : ParkedFrame → Type 0} {s : State} (c : Connection) (number : ℕ) (reply : Asked → Reply) (asked : Asked) → ReplyIs Is (reply asked) → Only g Is Out Kept s → Only g Is Out Kept (Frames.ends_as g c number reply asked s)
ends_as_only {Out = Out} {s = s} c number reply asked a h = reply_to_only asked (reply asked) a (now_requests _ (all-filter (AskedIs Out) (λ r. not (ParkedFrames.is_call_on c.number number r)) s.requests h.parts.requests) h)

told_by_only : {g : Setting} {Is Out : Ref → Type 0} {Kept : ParkedFrame → Type 0} {s : State} (c : Connection) (dirty : Bool) (sequence : ℕ) (event : ℕ → lease_events.Event) → Only g Is Out Kept s → Only g Is Out Kept (Frames.told_by g c dirty sequence event s)
unfolding Frames.told_by
told_by_only {g} {Is} {Out} {Kept} {s = s} c dirty sequence event h = some_only (find (Frames.tells_on dirty c.number sequence) s.requests) _ (close_only _ c.number h)
    (λ q is. go_all_only (tells q.asked (now_requests _ (all-filter (AskedIs Out) (λ r. not (Frames.tells_on dirty c.number sequence r)) s.requests h.parts.requests) h)))
  where
    tells : (asked : Asked) {t : State} → Only g Is Out Kept t → Only g Is Out Kept (Frames.group_told event asked t)
    tells (Calls n task lent kind m) k = k
    tells (LooksUp n task name) k = k
    tells (Tells call group) k = quiet _ refl k

got_only : {g : Setting} {Is Out : Ref → Type 0} {s : State} (c : Connection) (m : Message) → AllOf (RefBrings g Is s) (references_of_message m) → Only g Is Out (Waits g) s → Only g Is Out (Waits g) (Frames.got g c m s)
unfolding Frames.got Frames.got_dirty Frames.got_clean
got_only c (message.Hello version space digest) b h = close_only _ c.number h
got_only c (message.Call number object method fuel arguments) b h = got_call_only c number object method fuel arguments b h
got_only c (message.Returned number fuel value) b h = answered_by_only c number _ (λ asked. returned_only c number fuel value asked b h) h
got_only {g} c (message.Threw number class) b h = answered_by_only c number _ (λ asked. ends_as_only c number (λ a. Frames.thrown_reply g class) asked tt h) h
got_only {g} {Is} c (message.Spent number) b h = answered_by_only c number _ (λ asked. ends_as_only c number (Frames.spent_reply g) asked (spent-is g Is asked) h) h
got_only c (message.Ack number) b h = got_ack_only c number h
got_only c (message.Dirty sequence period objects) b h = if_only (Frames.fit_frame c objects) (send_only _ c.number _ tt (quiet _ refl h)) (close_only _ c.number h)
got_only c (message.Lease sequence period) b h = told_by_only c true sequence _ h
got_only c (message.Clean sequence strong objects) b h = if_only (Frames.fit_frame c objects) (send_only _ c.number _ tt (quiet _ refl h)) (close_only _ c.number h)
got_only c (message.Cleaned sequence) b h = told_by_only c false sequence _ h
got_only c (message.Lookup number name) b h = got_lookup_only c number name h

received_only : {g : Setting} {Is Out : Ref → Type 0} {s : State} (c : Option Connection) (m : Message) → AllOf (RefBrings g Is s) (references_of_message m) → Only g Is Out (Waits g) s → Only g Is Out (Waits g) (OwnEvents.received_on g c m s)
unfolding Frames.receive
received_only None m b h = h
received_only (Some c) m b h = if_only (is_none c.peer) (first_only c m h) (if_only _ (close_only _ c.number h) (got_only c m b h))

-- ---- own events

moment_only : {g : Setting} {Is Out : Ref → Type 0} {Kept : ParkedFrame → Type 0} {s : State} (moment : ℕ) → Only g Is Out Kept s → Only g Is Out Kept (OwnEvents.on_moment g moment s)
unfolding OwnEvents.on_moment
moment_only {s = s} moment h = if_only (nat_lt moment s.moment) h (release_only _ (quiet _ refl h))

gone_only : {g : Setting} {Is Out : Ref → Type 0} {Kept : ParkedFrame → Type 0} {s : State} (ids : List ObjId) → Only g Is Out Kept s → Only g Is Out Kept (record s { store = Gone ids ∷ s.store })
gone_only {g} {Is} {s = s} ids h = record {
  parts = record {
    lets = h.parts.lets;
    objects = all-filter (λ (o : Object). Is (own_reference g o)) (λ (o : Object). not (is_id_in ids o.id)) (standing s.store) h.parts.objects;
    numbers = all-filter (λ (o : Object). o.id.0 ≤ s.objects_made) (λ (o : Object). not (is_id_in ids o.id)) (standing s.store) h.parts.numbers;
    unwritten = h.parts.unwritten;
    fields = all-filter (FieldsAre g Is s.store) (λ (o : Object). not (is_id_in ids o.id)) (standing s.store) h.parts.fields;
    tasks = h.parts.tasks;
    results = h.parts.results;
    parked = h.parts.parked;
    kept = h.parts.kept;
    requests = h.parts.requests;
    fresh = h.parts.fresh;
    notes = h.parts.notes;
  };
}

-- the state in which the objects that a Sweep withdraws are gone
abbrev pub left : State → List Object → State
left s [] = s
left s (o ∷ os) = record s { store = Gone (map (λ (p : Object). p.id) (o ∷ os)) ∷ s.store }

sweeps_only : {g : Setting} {Is Out : Ref → Type 0} {Kept : ParkedFrame → Type 0} (s : State) (gone : List Object) → Only g Is Out Kept (left s gone) → Only g Is Out Kept (OwnEvents.sweep_of g s gone)
sweeps_only s [] h = h
sweeps_only {g} s (o ∷ os) h = note_only (Says (Withdrawn (map (λ (p : Object). p.id) (o ∷ os)))) tt (each_only _ (o ∷ os) (λ t p k. drop_only _ k) (each_only _ _ (λ t id k. quiet _ refl k) h))

sweep_only : {g : Setting} {Is Out : Ref → Type 0} {Kept : ParkedFrame → Type 0} {s : State} → Only g Is Out Kept s → Only g Is Out Kept (OwnEvents.on_sweep g s)
unfolding OwnEvents.on_sweep
sweep_only {g} {Is} {Out} {Kept} {s = s} h = sweeps_only s (OwnEvents.without_reason g s) (leaves (OwnEvents.without_reason g s))
  where
    leaves : (gone : List Object) → Only g Is Out Kept (left s gone)
    leaves [] = h
    leaves (o ∷ os) = gone_only _ h

names_only : {g : Setting} {Is Out : Ref → Type 0} {Kept : ParkedFrame → Type 0} {s : State} (r : Result (List Binding) RegistryFault) → Only g Is Out Kept s → Only g Is Out Kept (OwnEvents.set_names r s)
unfolding OwnEvents.set_names
names_only (Ok names) h = quiet _ refl h
names_only (Err why) h = note_only (Says (Denied why)) tt h

lookup_only : {g : Setting} {Is Out : Ref → Type 0} {Kept : ParkedFrame → Type 0} {s : State} (peer : Uuid) (name : List ℕ) → Only g Is Out Kept s → Only g Is Out Kept (OwnEvents.on_lookup g peer name s)
unfolding OwnEvents.on_lookup
lookup_only {s = s} peer name h = if_only (is_name name)
    (note_only (Says (Started (s.tasks_made + 1))) tt (now_fresh _ (tt, tt) (quiet (record s { tasks_made = s.tasks_made + 1; calls_made = s.calls_made + 1 }) refl h))) (note_only (Says (Denied _)) tt h)

opened_only : {g : Setting} {Is Out : Ref → Type 0} {Kept : ParkedFrame → Type 0} {s : State} (conn : ℕ) (dialled : Option Uuid) → Only g Is Out Kept s → Only g Is Out Kept (OwnEvents.on_opened g conn dialled s)
unfolding OwnEvents.on_opened
opened_only {g} conn None h = if_only (nat_le 2 g.version) (quiet _ refl h) (say_hello_only 1 conn (quiet _ refl h))
opened_only conn (Some peer) h = say_hello_only _ conn (quiet _ refl h)

refused_only : {g : Setting} {Is Out : Ref → Type 0} {Kept : ParkedFrame → Type 0} {s : State} (peer : Uuid) → Only g Is Out Kept s → Only g Is Out Kept (OwnEvents.on_refused g peer s)
unfolding OwnEvents.on_refused
refused_only peer h = end_requests_only _ _ (quiet _ refl h)

-- ---- events

-- what an event brings: a root's arguments, the references of a frame that are not refused, what an operation of a lent task makes or writes, the arguments of its call, its result
abbrev pub Brings : Setting → (Ref → Type 0) → (Ref → Type 0) → State → Event → Type 0
Brings g Is Out s (Root method arguments fuel) = AllOf Is (references_of arguments)
Brings g Is Out s (Received conn m) = AllOf (RefBrings g Is s) (references_of_message m)
Brings g Is Out s (Committed task k op) = OpBrings g Is s.objects_made s.store op
Brings g Is Out s (Parked task k) = (t : Living) → ready_at s task ≡ Some t → CallIs Out (stand (steps k t.task))
Brings g Is Out s (Finished task k) = (t : Living) → ready_at s task ≡ Some t → EndIs Is (stand (steps k t.task))
Brings g Is Out s _ = Unit {0}

happen_only : {g : Setting} {Is Out : Ref → Type 0} {s : State} (e : Event) → Brings g Is Out s e → Only g Is Out (Waits g) s → Only g Is Out (Waits g) (Space.happen g e s)
unfolding Space.happen
happen_only (Moment moment) b h = moment_only moment h
happen_only Sweep b h = sweep_only h
happen_only (Root method arguments fuel) b h = add_task_only OfRoot method arguments fuel b h
happen_only (RootAck task) b h = release_only _ h
happen_only (Bind name value) b h = names_only _ h
happen_only (Rebind name value) b h = names_only _ h
happen_only (Unbind name) b h = names_only _ h
happen_only (Lookup peer name) b h = lookup_only peer name h
happen_only (Opened conn dialled) b h = opened_only conn dialled h
happen_only (Refused peer) b h = refused_only peer h
happen_only {s = s} (Received conn m) b h = received_only (connection_at s conn) m b h
happen_only (Closed conn) b h = end_connection_only _ conn h
happen_only (ReadFailed conn) b h = end_connection_only _ conn h
happen_only (Bad conn) b h = end_connection_only _ conn h
happen_only (WriteFailed conn unsent) b h = fail_write_only conn unsent h
happen_only (Committed task k op) b h = commit_only task k op b h
happen_only (Parked task k) b h = park_only task k b h
happen_only (GivenBack task k) b h = give_back_only task k h
happen_only (Finished task k) b h = finish_only task k b h

sent_only : {g : Setting} {Is Out : Ref → Type 0} {s : State} (o : Output) → Only g Is Out (Waits g) s → Only g Is Out (Waits g) (Space.record_sent s o)
sent_only (Started task) h = h
sent_only (Ended task outcome) h = h
sent_only (Withdrawn ids) h = h
sent_only (Denied why) h = h
sent_only (Send conn m) h = quiet _ refl h
sent_only (Dial peer) h = h
sent_only (Close conn) h = h
sent_only (Ready task) h = h

abbrev pub OutputIs : (Ref → Type 0) → Output → Type 0
OutputIs Out o = AllOf Out (references_of_output o)

-- what an event leaves, and what it sends
pub record After (g : Setting) (Is Out : Ref → Type 0) (r : State × List Output) : Type 0 where
  pub state : Only g Is Out (Waits g) r.0
  pub outputs : AllOf (OutputIs Out) r.1

finish_event_only : {g : Setting} {Is Out : Ref → Type 0} {s : State} (answers : Bool) → Only g Is Out (Waits g) s → After g Is Out (Space.finish_event answers s)
unfolding in_order
finish_event_only {g} {Is} {Out} {s = s} true h = ends (Requests.settle s) (settle_only h)
  where
    ends : (t : State) → Only g Is Out (Waits g) t → After g Is Out (Space.conclude t (in_order t.notes))
    ends t k = record { state = each_only _ _ (λ u o j. sent_only o j) (now_notes [] tt k); outputs = ranks-all (OutputIs Out) ranks t.notes k.parts.notes }
finish_event_only false h = record { state = h; outputs = tt }

-- An event keeps the references of a space to those that it has and those that the event brings.
pub on_only : {g : Setting} {Is Out : Ref → Type 0} {s : State} (e : Event) → Brings g Is Out s e → Only g Is Out (Waits g) s → After g Is Out (Space.on g e s)
unfolding Space.on
on_only e b h = finish_event_only (Space.answers_outputs e) (happen_only e b h)

-- A Sweep leaves what holds once the objects without a reason are gone.
pub swept_only : {g : Setting} {Is Out : Ref → Type 0} (s : State) → Only g Is Out (Waits g) (left s (OwnEvents.without_reason g s)) → After g Is Out (Space.on g Sweep s)
unfolding Space.on Space.happen OwnEvents.on_sweep
swept_only {g} s h = finish_event_only true (sweeps_only s (OwnEvents.without_reason g s) h)
