-- Each rule of frames, endings and own events keeps the references that are started of one kind, and what is told of leases.
use mathlib.Core.Path.{sym, subst}
use Rattle.std.specs.Prelude.{◌≡◌, refl, ℕ, ◌≤◌, ◌==◌, ◌&&◌, ◌||◌, not, nat_le, nat_lt, is_some, is_none, Bool, true, false, List, [], ◌∷◌, ◌++◌, Option, None, Some, Result, Ok, Err, filter, find, map, fold, if◌then◌else◌}
use Rattle.std.specs.List.{list_any, list_all}
use Rattle.std.specs.Str.{bytes_eq}
use Rattle.dgc_client.specs.History as lease_events
use Rattle.dgc_client.specs.Lease as lease
use Rattle.dgc_client.specs.Table as client
use Rattle.dgc_client.specs.Table.{Told, On}
use Rattle.dgc_client.specs.declared.groups.Group.{Group}
use Rattle.dgc_client.specs.declared.lease.Due.{Due}
use Rattle.dgc_client.specs.declared.lease.Due.TheVariants as due
use Rattle.space_ids.specs.declared.ids.ClassId.{ClassId}
use Rattle.space_ids.specs.declared.ids.ForeignId.{ForeignId}
use Rattle.space_ids.specs.declared.ids.ObjId.{ObjId}
use Rattle.space_ids.specs.declared.ids.Ref.{Ref}
use Rattle.space_ids.specs.declared.value.Value.{Value}
use Rattle.space_ids.specs.declared.value.Value.TheVariants as values
use Rattle.net_message.specs.declared.message.Message.{Message}
use Rattle.net_message.specs.declared.message.Message.TheVariants as message
use Rattle.sp_registry.specs.Bindings as registry
use Rattle.sp_registry.specs.Names.{is_name}
use Rattle.sp_registry.specs.declared.fault.RegistryFault.{RegistryFault}
use Rattle.sp_registry.specs.declared.registry.Binding.{Binding}
use Rattle.uuid.specs.declared.Uuid.{Uuid}
use Rattle.sp_rules.specs.Behaviours.{Reply, Throws}
use Rattle.sp_rules.specs.Classes.{Setting, fit_kinds}
use Rattle.sp_rules.specs.Endings
use Rattle.sp_rules.specs.Events.{Event, Moment, Sweep, Root, RootAck, Bind, Rebind, Unbind, Lookup, Opened, Refused, Received, Closed, ReadFailed, Bad, WriteFailed, Committed, Parked, GivenBack, Finished}
use Rattle.sp_rules.specs.Frames
use Rattle.sp_rules.specs.Holders
use Rattle.sp_rules.specs.Holders.{hold_ids, drop_ids, references_of_frame}
use Rattle.sp_rules.specs.Laws.{AllOf}
use Rattle.sp_rules.specs.Lists.{each}
use Rattle.sp_rules.specs.OwnEvents
use Rattle.sp_rules.specs.ParkedFrames
use Rattle.sp_rules.specs.References.{references_of, references_in, foreign_ids, is_id_in}
use Rattle.sp_rules.specs.Space
use Rattle.sp_rules.specs.State as state
use Rattle.sp_rules.specs.State.{State, Object, Gone, Living, OfRoot, OfCall, Until, Request, Asked, Calls, LooksUp, Tells, Connection, KeptResult, Frame, CallFrame, ReturnedFrame, ParkedFrame, standing, task_at, ready_at, object_at, connection_at}
use Rattle.sp_rules.specs.Tasks.{stand, steps}
use Rattle.sp_rules.proofs.AllLemmas.{all-weaken, all-filter, all-map, all-found, found-is}
use Rattle.sp_rules.proofs.OriginLemmas.{FieldsAre, ReplyIs, OpBrings, EndIs}
use Rattle.sp_rules.proofs.OriginsOfFrames.{orphan-value}
use Rattle.sp_held_laws.proofs.GrownRules.{Grown, Plain, quiet, now_results, now_told, if_grown, some_grown, each_grown, send_grown, dial_grown, hold_grown, drop_grown, flush_grown, add_task_grown, keep_grown, reply_to_grown, commit_grown, park_grown, give_back_grown, finish_grown}

-- ---- parked frames

now_parked : {g : Setting} {Is : Ref → Type 0} {T : List Told → Type 0} {K K' : ParkedFrame → Type 0} {s : State} (xs : List ParkedFrame) → AllOf K' xs → Grown g Is T K s → Grown g Is T K' (record s { parked = xs })
now_parked xs a h = record { parts = record { numbers = h.parts.numbers; unwritten = h.parts.unwritten; fields = h.parts.fields; tasks = h.parts.tasks; results = h.parts.results; told = h.parts.told; parked = a } }

pub parked_weaken : {g : Setting} {Is : Ref → Type 0} {T : List Told → Type 0} {K K' : ParkedFrame → Type 0} {s : State} → ((p : ParkedFrame) → K p → K' p) → Grown g Is T K s → Grown g Is T K' s
parked_weaken {K = K} {K' = K'} {s = s} f h = now_parked s.parked (all-weaken K K' s.parked f h.parts.parked) h

pub take_grown : {g : Setting} {Is : Ref → Type 0} {T : List Told → Type 0} {K : ParkedFrame → Type 0} {s : State} (p : ParkedFrame) → Grown g Is T K s → Grown g Is T K (ParkedFrames.take_parked p s)
take_grown {K = K} {s = s} p h = now_parked _ (all-filter K (λ q. not (ParkedFrames.is_parked_at p.conn p.number q)) s.parked h.parts.parked) h

start_call_grown : {g : Setting} {Is : Ref → Type 0} {T : List Told → Type 0} {K : ParkedFrame → Type 0} {s : State} (M : Plain g Is T) (p : ParkedFrame) (target : ObjId) (method fuel : ℕ) (arguments : List Value) → AllOf Is (references_of arguments)
    → Grown g Is T K s → Grown g Is T K (ParkedFrames.start_call g p target method fuel arguments s)
unfolding ParkedFrames.start_call
start_call_grown {g} {Is} {T} {K} {s} M p target method fuel arguments a h = some_grown (object_at s target) _ h (λ o is. selected (record { space = g.id; id = target; class = o.class }) (M.own target o.class) (g.classes.selected o.class method))
  where
    selected : (receiver : Ref) → Is receiver → (found : Option ℕ) → Grown g Is T K (ParkedFrames.start_selected g p.conn p.number receiver found fuel arguments s)
    selected receiver r None = send_grown _ p.conn _ h
    selected receiver r (Some m) = add_task_grown M _ m _ fuel (r, a) h

answer_parked_grown : {g : Setting} {Is : Ref → Type 0} {T : List Told → Type 0} {K : ParkedFrame → Type 0} {s : State} (M : Plain g Is T) (p : ParkedFrame) (reply : Reply) → ReplyIs Is reply → Grown g Is T K s → Grown g Is T K (ParkedFrames.answer_parked g p reply s)
unfolding ParkedFrames.answer_parked
answer_parked_grown {s = s} M p reply a h = some_grown (find (ParkedFrames.is_call_on p.conn p.number) s.requests) _ h (λ r is. reply_to_grown M r.asked reply a (send_grown _ p.conn _ (quiet _ refl h)))

let_go_grown : {g : Setting} {Is : Ref → Type 0} {T : List Told → Type 0} {K : ParkedFrame → Type 0} {s : State} (M : Plain g Is T) (p : ParkedFrame) (parked : List ParkedFrame) → Grown g Is T K s → Grown g Is T K (ParkedFrames.let_go_parked p parked s)
let_go_grown M p parked h = each_grown _ (filter (ParkedFrames.is_parked_at p.conn p.number) parked) (λ t q k. drop_grown M q.references k) h

-- the references in a frame are of a kind
abbrev pub FrameOf : (Ref → Type 0) → ParkedFrame → Type 0
FrameOf Is q = AllOf Is (references_of_frame q.frame)

-- A frame goes if the one that is found under its connection and number is of the kind.
abbrev pub MayGo : (Ref → Type 0) → ParkedFrame → ParkedFrame → Type 0
MayGo Is p q = ParkedFrames.is_parked_at p.conn p.number q ≡ true → FrameOf Is q

go_grown : {g : Setting} {Is : Ref → Type 0} {T : List Told → Type 0} {K : ParkedFrame → Type 0} {s : State} (M : Plain g Is T) (p : ParkedFrame) → ((q : ParkedFrame) → K q → MayGo Is p q) → Grown g Is T K s → Grown g Is T K (ParkedFrames.go g s p)
unfolding ParkedFrames.go
go_grown {g} {Is} {T} {K} {s} M p may h = some_grown (find (ParkedFrames.is_parked_at p.conn p.number) s.parked) _ h (λ q is.
    let_go_grown M p s.parked (frame q q.frame (may q (all-found K (ParkedFrames.is_parked_at p.conn p.number) s.parked q is h.parts.parked) (found-is (ParkedFrames.is_parked_at p.conn p.number) s.parked q is))))
  where
    frame : (q : ParkedFrame) (f : Frame) → AllOf Is (references_of_frame f) → Grown g Is T K (ParkedFrames.go_frame g q f (ParkedFrames.take_parked p s))
    frame q (CallFrame target method fuel arguments) a = start_call_grown M q target method fuel arguments a (take_grown p h)
    frame q (ReturnedFrame value fuel) a = answer_parked_grown M q _ a (take_grown p h)

goes_grown : {g : Setting} {Is : Ref → Type 0} {T : List Told → Type 0} {K : ParkedFrame → Type 0} (M : Plain g Is T) (ps : List ParkedFrame) (s : State) → AllOf (λ p. (q : ParkedFrame) → K q → MayGo Is p q) ps → Grown g Is T K s → Grown g Is T K (each (ParkedFrames.go g) ps s)
unfolding each
goes_grown M [] s a h = h
goes_grown {g} M (p ∷ ps) s a h = goes_grown M ps (ParkedFrames.go g s p) a.1 (go_grown M p a.0 h)

-- those that have their leases may go
abbrev pub AllMayGo : (Ref → Type 0) → State → ParkedFrame → Type 0
AllMayGo Is s q = AllOf (λ p. MayGo Is p q) (filter (λ (p : ParkedFrame). list_all (ParkedFrames.has_lease s) p.references) s.parked)

turned : (Is : Ref → Type 0) (ps all : List ParkedFrame) → ((q : ParkedFrame) → AllOf (λ p. MayGo Is p q) all → AllOf (λ p. MayGo Is p q) ps) → AllOf (λ p. (q : ParkedFrame) → AllOf (λ x. MayGo Is x q) all → MayGo Is p q) ps
turned Is [] all f = tt
turned Is (p ∷ ps) all f = ((λ q k. (f q k).0), turned Is ps all (λ q k. (f q k).1))

pub go_all_grown : {g : Setting} {Is : Ref → Type 0} {T : List Told → Type 0} {K : ParkedFrame → Type 0} {s : State} (M : Plain g Is T) → AllOf (AllMayGo Is s) s.parked → Grown g Is T K s → Grown g Is T (AllMayGo Is s) (ParkedFrames.go_all g s)
unfolding ParkedFrames.go_all
go_all_grown {Is = Is} {s = s} M may h = goes_grown M (filter (λ (p : ParkedFrame). list_all (ParkedFrames.has_lease s) p.references) s.parked) _
    (turned Is _ _ (λ q k. k)) (now_parked s.parked may h)

abbrev pub Any : ParkedFrame → Type 0
Any p = Unit {0}

pub any-all : (ps : List ParkedFrame) → AllOf Any ps
any-all [] = tt
any-all (p ∷ ps) = (tt, any-all ps)

pub all_go_grown : {g : Setting} {Is : Ref → Type 0} {T : List Told → Type 0} {s : State} (M : Plain g Is T) → AllOf (AllMayGo Is s) s.parked → Grown g Is T Any s → Grown g Is T Any (ParkedFrames.go_all g s)
all_go_grown M may h = parked_weaken (λ p k. tt) (go_all_grown M may h)

fail_parked_grown : {g : Setting} {Is : Ref → Type 0} {T : List Told → Type 0} {K : ParkedFrame → Type 0} {s : State} (M : Plain g Is T) (p : ParkedFrame) → Grown g Is T K s → Grown g Is T K (ParkedFrames.fail_parked g s p)
unfolding ParkedFrames.fail_parked
fail_parked_grown {g} {Is} {T} {K} {s} M p h = frame p.frame (let_go_grown M p s.parked (take_grown p h))
  where
    frame : (f : Frame) {t : State} → Grown g Is T K t → Grown g Is T K (ParkedFrames.fail_frame g p f t)
    frame (CallFrame target method fuel arguments) k = send_grown _ p.conn _ k
    frame (ReturnedFrame value fuel) k = answer_parked_grown M p (Throws g.classes.unmarshal) tt k

-- ---- endings

fail_dirty_grown : {g : Setting} {Is : Ref → Type 0} {T : List Told → Type 0} {K : ParkedFrame → Type 0} {s : State} (M : Plain g Is T) (call : ℕ) (id : ForeignId) → Grown g Is T K s → Grown g Is T K (Endings.fail_dirty g call s id)
unfolding Endings.fail_dirty
fail_dirty_grown {g} {Is} {T} {K} {s} M call id h = if_grown (lease.is_made (Holders.lease_now s id).dirty call && is_none (Holders.lease_now s id).lease)
    (each_grown _ (filter (ParkedFrames.names id) s.parked) (λ t p k. fail_parked_grown M p k) told) told
  where
    told : Grown g Is T K (record s { leases = On id (lease_events.DirtyFailed call) ∷ s.leases })
    told = now_told _ (M.on id (lease_events.DirtyFailed call) s.leases refl h.parts.told) h

fail_group_grown : {g : Setting} {Is : Ref → Type 0} {T : List Told → Type 0} {K : ParkedFrame → Type 0} {s : State} (M : Plain g Is T) (kind : Due) (b : Group) (call : ℕ) → Grown g Is T K s → Grown g Is T K (Endings.fail_group g kind b call s)
fail_group_grown M due.Dirty b call h = each_grown _ _ (λ t x k. fail_dirty_grown M call x k) h
fail_group_grown M (due.Clean strong) b call h = each_grown _ _ (λ t x k. now_told _ (M.on x (lease_events.CleanFailed call) t.leases refl k.parts.told) k) h

end_asked_grown : {g : Setting} {Is : Ref → Type 0} {T : List Told → Type 0} {K : ParkedFrame → Type 0} {s : State} (M : Plain g Is T) (class : ClassId) (asked : Asked) → Grown g Is T K s → Grown g Is T K (Endings.end_asked g class asked s)
end_asked_grown M class (Calls number task lent kind m) h = reply_to_grown M (Calls number task lent kind m) (Throws class) tt h
end_asked_grown M class (LooksUp number task name) h = reply_to_grown M (LooksUp number task name) (Throws class) tt h
end_asked_grown M class (Tells call group) h = fail_group_grown M group.kind group call h

end_requests_grown : {g : Setting} {Is : Ref → Type 0} {T : List Told → Type 0} {K : ParkedFrame → Type 0} {s : State} (M : Plain g Is T) (is : Request → Bool) (why : Asked → ClassId) → Grown g Is T K s → Grown g Is T K (Endings.end_requests g is why s)
unfolding Endings.end_requests
end_requests_grown M is why h =
    each_grown _ _ (λ t q k. end_asked_grown M (why q.asked) q.asked k)
    (each_grown _ _ (λ t q k. end_asked_grown M (why q.asked) q.asked k) (quiet _ refl h))

let_connection_go_grown : {g : Setting} {Is : Ref → Type 0} {T : List Told → Type 0} {K : ParkedFrame → Type 0} {s : State} (M : Plain g Is T) (conn : ℕ) → Grown g Is T K s → Grown g Is T K (Endings.let_connection_go conn s)
let_connection_go_grown {g} {Is} {s = s} M conn h =
    each_grown _ _ (λ t p k. let_go_grown M p t.parked (take_grown p k)) (quiet (Endings.without_connection conn s) refl
    (now_results (map (Endings.orphan conn s.moment) s.results) (all-map (λ (k : KeptResult). AllOf Is (references_in k.value)) (λ (k : KeptResult). AllOf Is (references_in k.value)) (Endings.orphan conn s.moment) s.results
    (λ k a. subst (λ v. AllOf Is (references_in v)) (sym (orphan-value conn s.moment k)) a) h.parts.results) h))

end_connection_grown : {g : Setting} {Is : Ref → Type 0} {T : List Told → Type 0} {K : ParkedFrame → Type 0} {s : State} (M : Plain g Is T) (why : Asked → ClassId) (conn : ℕ) → Grown g Is T K s → Grown g Is T K (Endings.end_connection g why conn s)
unfolding Endings.end_connection
end_connection_grown {s = s} M why conn h = some_grown (connection_at s conn) _ h (λ c is. end_requests_grown M _ why (let_connection_go_grown M conn h))

pub close_grown : {g : Setting} {Is : Ref → Type 0} {T : List Told → Type 0} {K : ParkedFrame → Type 0} {s : State} (M : Plain g Is T) (class : ClassId) (conn : ℕ) → Grown g Is T K s → Grown g Is T K (Endings.close g class conn s)
unfolding Endings.close
close_grown M class conn h = quiet _ refl (end_connection_grown M _ conn h)

fail_write_grown : {g : Setting} {Is : Ref → Type 0} {T : List Told → Type 0} {K : ParkedFrame → Type 0} {s : State} (M : Plain g Is T) (conn unsent : ℕ) → Grown g Is T K s → Grown g Is T K (Endings.fail_write g conn unsent s)
unfolding Endings.fail_write
fail_write_grown M conn unsent h = end_connection_grown M _ conn h

-- ---- frames that come

say_hello_grown : {g : Setting} {Is : Ref → Type 0} {T : List Told → Type 0} {K : ParkedFrame → Type 0} {s : State} (version conn : ℕ) → Grown g Is T K s → Grown g Is T K (Frames.say_hello g version conn s)
say_hello_grown {g} {s = s} version conn h = quiet _ refl (send_grown {s = s} Rattle.sp_rules.specs.Events.Hellos conn (message.Hello version g.id g.digest) h)

redial_grown : {g : Setting} {Is : Ref → Type 0} {T : List Told → Type 0} {K : ParkedFrame → Type 0} {s : State} (M : Plain g Is T) (peer : Uuid) (conn : ℕ) → Grown g Is T K s → Grown g Is T K (Endings.redial peer conn s)
unfolding Endings.redial
redial_grown {s = s} M peer conn h = dial_grown peer (quiet _ refl (let_connection_go_grown {s = Endings.note_peer peer s} M conn (quiet _ refl h)))

first_grown : {g : Setting} {Is : Ref → Type 0} {T : List Told → Type 0} {K : ParkedFrame → Type 0} {s : State} (M : Plain g Is T) (c : Connection) (m : Message) → Grown g Is T K s → Grown g Is T K (Frames.first_frame g c m s)
unfolding Frames.first_frame
first_grown {g} {Is} {T} {K} {s} M c (message.Hello version space digest) h = some_grown c.dialled _ (if_grown (bytes_eq digest g.digest && nat_le version g.version) (if_grown (nat_le 2 g.version) (say_hello_grown _ c.number known) known) (close_grown M _ c.number h))
    (λ peer is. if_grown (bytes_eq digest g.digest && bytes_eq space peer) (if_grown (version == c.version) (flush_grown M peer c.number known) (if_grown (nat_le 2 c.version && version == 1) (redial_grown M peer c.number h) (close_grown M _ c.number h))) (close_grown M _ c.number h))
  where
    known : Grown g Is T K (Frames.greeted space c.number s)
    known = quiet _ refl h
first_grown M c (message.Call number object method fuel arguments) h = close_grown M _ c.number h
first_grown M c (message.Returned number fuel value) h = close_grown M _ c.number h
first_grown M c (message.Threw number class) h = close_grown M _ c.number h
first_grown M c (message.Spent number) h = close_grown M _ c.number h
first_grown M c (message.Ack number) h = close_grown M _ c.number h
first_grown M c (message.Dirty sequence period objects) h = close_grown M _ c.number h
first_grown M c (message.Lease sequence period) h = close_grown M _ c.number h
first_grown M c (message.Clean sequence strong objects) h = close_grown M _ c.number h
first_grown M c (message.Cleaned sequence) h = close_grown M _ c.number h
first_grown M c (message.Lookup number name) h = close_grown M _ c.number h

-- the state in which a frame that came is parked
abbrev pub parking : ParkedFrame → State → State
parking row s = hold_ids row.references (record s { parked = s.parked ++ row ∷ [] })

-- the frames that go once a frame is parked are of the kind
abbrev pub ParksWell : (Ref → Type 0) → ParkedFrame → State → Type 0
ParksWell Is row s = AllOf (AllMayGo Is (parking row s)) (parking row s).parked

pub park_frame_grown : {g : Setting} {Is : Ref → Type 0} {T : List Told → Type 0} {s : State} (M : Plain g Is T) (conn number : ℕ) (f : Frame) (references : List ForeignId)
    → ParksWell Is (record { conn = conn; number = number; frame = f; references = references }) s → Grown g Is T Any s → Grown g Is T Any (ParkedFrames.park_frame g conn number f references s)
unfolding ParkedFrames.park_frame
park_frame_grown {s = s} M conn number f references well h = all_go_grown M well (hold_grown M references (now_parked _ (any-all (s.parked ++ record { conn = conn; number = number; frame = f; references = references } ∷ [])) h))

-- the row under which a call, and a result, is parked
abbrev pub call_row : Setting → ℕ → ℕ → Object → ℕ → ℕ → List Value → ParkedFrame
call_row g conn number o method fuel arguments = record { conn = conn; number = number; frame = CallFrame o.id method fuel arguments; references = fold client.with_reference [] (foreign_ids g.id (references_of arguments)) }

abbrev pub result_row : Setting → ℕ → ℕ → Option Value → ℕ → ParkedFrame
result_row g conn number value fuel = record { conn = conn; number = number; frame = ReturnedFrame value fuel; references = foreign_ids g.id (references_in value) }

call_of_grown : {g : Setting} {Is : Ref → Type 0} {T : List Told → Type 0} {s : State} (M : Plain g Is T) (conn number : ℕ) (o : Object) (method fuel : ℕ) (arguments : List Value)
    → ParksWell Is (call_row g conn number o method fuel arguments) s → Grown g Is T Any s → Grown g Is T Any (Frames.call_of g conn number o method fuel arguments s)
call_of_grown {g} {s = s} M conn number o method fuel arguments well h =
    if_grown (not (g.classes.may_call o.class method) || (not (fit_kinds (g.classes.parameters method) arguments) || list_any (Holders.is_refused g s) (references_of arguments))) (send_grown _ conn _ h)
    (if_grown (Frames.is_busy s) (send_grown _ conn _ h) (park_frame_grown M conn number _ _ well h))

got_call_grown : {g : Setting} {Is : Ref → Type 0} {T : List Told → Type 0} {s : State} (M : Plain g Is T) (c : Connection) (number : ℕ) (target : ObjId) (method fuel : ℕ) (arguments : List Value)
    → (nat_le number c.last ≡ false → (o : Object) → ParksWell Is (call_row g c.number number o method fuel arguments) (Frames.counted c.number number s))
    → Grown g Is T Any s → Grown g Is T Any (Frames.got_call g c number target method fuel arguments s)
unfolding Frames.got_call
got_call_grown {g} {Is} {T} {s} M c number target method fuel arguments well h = above (nat_le number c.last) refl
  where
    counted : Grown g Is T Any (Frames.counted c.number number s)
    counted = quiet _ refl h

    on : nat_le number c.last ≡ false → (o : Option Object) → Grown g Is T Any (Frames.call_on g c.number number o method fuel arguments (Frames.counted c.number number s))
    on e None = send_grown _ c.number _ counted
    on e (Some o) = call_of_grown M c.number number o method fuel arguments (well e o) counted

    above : (b : Bool) → nat_le number c.last ≡ b → Grown g Is T Any (if b then Endings.close g g.classes.unmarshal c.number s else Frames.call_on g c.number number (object_at s target) method fuel arguments (Frames.counted c.number number s))
    above true e = close_grown M _ c.number h
    above false e = on e (object_at s target)

got_lookup_grown : {g : Setting} {Is : Ref → Type 0} {T : List Told → Type 0} {K : ParkedFrame → Type 0} {s : State} (M : Plain g Is T) (c : Connection) (number : ℕ) (name : List ℕ) → Grown g Is T K s → Grown g Is T K (Frames.got_lookup g c number name s)
unfolding Frames.got_lookup
got_lookup_grown {g} {Is} {T} {K} {s} M c number name h = if_grown (nat_le number c.last) (close_grown M _ c.number h) (on (registry.lookup s.owner.names name))
  where
    counted : Grown g Is T K (Frames.counted c.number number s)
    counted = quiet _ refl h

    gives : (o : Option Object) → Grown g Is T K (Frames.found g c.number number o (Frames.counted c.number number s))
    gives None = send_grown _ c.number _ counted
    gives (Some o) = send_grown _ c.number _ (keep_grown M (state.Acked c.number number) (Some (values.Ref (record { space = g.id; id = o.id; class = o.class }))) (M.own o.id o.class, tt) counted)

    on : (id : Option ObjId) → Grown g Is T K (Frames.found g c.number number (Frames.object_of s id) (Frames.counted c.number number s))
    on None = send_grown _ c.number _ counted
    on (Some id) = gives (object_at s id)

release_grown : {g : Setting} {Is : Ref → Type 0} {T : List Told → Type 0} {K : ParkedFrame → Type 0} {s : State} (M : Plain g Is T) (is : KeptResult → Bool) → Grown g Is T K s → Grown g Is T K (Frames.release g is s)
unfolding Frames.release
release_grown {Is = Is} {s = s} M is h = each_grown _ _ (λ t r k. drop_grown M _ k) (now_results _ (all-filter (λ (k : KeptResult). AllOf Is (references_in k.value)) (λ r. not (is r)) s.results h.parts.results) h)

got_ack_grown : {g : Setting} {Is : Ref → Type 0} {T : List Told → Type 0} {K : ParkedFrame → Type 0} {s : State} (M : Plain g Is T) (c : Connection) (number : ℕ) → Grown g Is T K s → Grown g Is T K (Frames.got_ack g c number s)
unfolding Frames.got_ack
got_ack_grown {s = s} M c number h = if_grown (list_any (Frames.is_acked_by c.number number) s.results) (release_grown M _ h) (close_grown M _ c.number h)

-- the state in which a call or lookup is marked as answered
abbrev pub marking : ℕ → ℕ → State → State
marking conn number s = record s { requests = map (Frames.answered_on conn number) s.requests }

returned_grown : {g : Setting} {Is : Ref → Type 0} {T : List Told → Type 0} {s : State} (M : Plain g Is T) (c : Connection) (number fuel : ℕ) (value : Option Value) (asked : Asked)
    → ParksWell Is (result_row g c.number number value fuel) (marking c.number number s) → Grown g Is T Any s → Grown g Is T Any (Frames.returned_for g c number fuel value asked s)
returned_grown M c number fuel value asked well h = if_grown _ (reply_to_grown M asked _ tt (send_grown _ c.number _ (quiet _ refl h))) (park_frame_grown M c.number number _ _ well (quiet _ refl h))

answered_by_grown : {g : Setting} {Is : Ref → Type 0} {T : List Told → Type 0} {K : ParkedFrame → Type 0} {s : State} (M : Plain g Is T) (c : Connection) (number : ℕ) (next : Asked → State → State)
    → ((q : Request) → find (ParkedFrames.is_asked_on c.number number) s.requests ≡ Some q → Grown g Is T K (next q.asked s)) → Grown g Is T K s → Grown g Is T K (Frames.answered_by g c number next s)
unfolding Frames.answered_by
answered_by_grown {s = s} M c number next k h = some_grown (find (ParkedFrames.is_asked_on c.number number) s.requests) _ (close_grown M _ c.number h) (λ q is. k q is)

spent-is : (g : Setting) (Is : Ref → Type 0) (asked : Asked) → ReplyIs Is (Frames.spent_reply g asked)
spent-is g Is (Calls number task lent kind m) = tt
spent-is g Is (LooksUp number task name) = tt
spent-is g Is (Tells call group) = tt

ends_as_grown : {g : Setting} {Is : Ref → Type 0} {T : List Told → Type 0} {K : ParkedFrame → Type 0} {s : State} (M : Plain g Is T) (c : Connection) (number : ℕ) (reply : Asked → Reply) (asked : Asked) → ReplyIs Is (reply asked) → Grown g Is T K s → Grown g Is T K (Frames.ends_as g c number reply asked s)
ends_as_grown M c number reply asked a h = reply_to_grown M asked (reply asked) a (quiet _ refl h)

-- the state in which a dirty or clean call is answered, as frames go
abbrev pub telling : Bool → ℕ → ℕ → (ℕ → lease_events.Event) → Request → State → State
telling dirty conn sequence event q s = Frames.group_told event q.asked (ParkedFrames.remove_requests (Frames.tells_on dirty conn sequence) s)

-- what is told by an answer keeps the property, and the frames that go then are of the kind
abbrev pub TellsWell : (Ref → Type 0) → (List Told → Type 0) → Bool → ℕ → ℕ → (ℕ → lease_events.Event) → State → Type 0
TellsWell Is T dirty conn sequence event s = (q : Request) → find (Frames.tells_on dirty conn sequence) s.requests ≡ Some q
    → T (telling dirty conn sequence event q s).leases × AllOf (AllMayGo Is (telling dirty conn sequence event q s)) (telling dirty conn sequence event q s).parked

told_by_grown : {g : Setting} {Is : Ref → Type 0} {T : List Told → Type 0} {s : State} (M : Plain g Is T) (c : Connection) (dirty : Bool) (sequence : ℕ) (event : ℕ → lease_events.Event) → TellsWell Is T dirty c.number sequence event s
    → Grown g Is T Any s → Grown g Is T Any (Frames.told_by g c dirty sequence event s)
unfolding Frames.told_by
told_by_grown {g} {Is} {T} {s} M c dirty sequence event well h = some_grown (find (Frames.tells_on dirty c.number sequence) s.requests) _ (close_grown M _ c.number h)
    (λ q is. all_go_grown M (well q is).1 (tells q.asked (well q is).0))
  where
    tells : (asked : Asked) → T (Frames.group_told event asked (ParkedFrames.remove_requests (Frames.tells_on dirty c.number sequence) s)).leases → Grown g Is T Any (Frames.group_told event asked (ParkedFrames.remove_requests (Frames.tells_on dirty c.number sequence) s))
    tells (Calls n task lent kind m) k = quiet _ refl h
    tells (LooksUp n task name) k = quiet _ refl h
    tells (Tells call group) k = quiet _ refl (now_told _ k h)

-- what a frame has to bring
abbrev pub ComesWell : Setting → (Ref → Type 0) → (List Told → Type 0) → State → Connection → Message → Type 0
ComesWell g Is T s c (message.Call number object method fuel arguments) = nat_le number c.last ≡ false → (o : Object) → ParksWell Is (call_row g c.number number o method fuel arguments) (Frames.counted c.number number s)
ComesWell g Is T s c (message.Returned number fuel value) = (q : Request) → find (ParkedFrames.is_asked_on c.number number) s.requests ≡ Some q → ParksWell Is (result_row g c.number number value fuel) (marking c.number number s)
ComesWell g Is T s c (message.Lease sequence period) = TellsWell Is T true c.number sequence (λ call. lease_events.DirtyAnswered call period) s
ComesWell g Is T s c (message.Cleaned sequence) = TellsWell Is T false c.number sequence lease_events.CleanAnswered s
ComesWell g Is T s c _ = Unit {0}

got_grown : {g : Setting} {Is : Ref → Type 0} {T : List Told → Type 0} {s : State} (M : Plain g Is T) (c : Connection) (m : Message) → ComesWell g Is T s c m → Grown g Is T Any s → Grown g Is T Any (Frames.got g c m s)
unfolding Frames.got Frames.got_dirty Frames.got_clean
got_grown M c (message.Hello version space digest) b h = close_grown M _ c.number h
got_grown M c (message.Call number object method fuel arguments) b h = got_call_grown M c number object method fuel arguments b h
got_grown M c (message.Returned number fuel value) b h = answered_by_grown M c number _ (λ q is. returned_grown M c number fuel value q.asked (b q is) h) h
got_grown {g} M c (message.Threw number class) b h = answered_by_grown M c number _ (λ q is. ends_as_grown M c number (λ a. Frames.thrown_reply g class) q.asked tt h) h
got_grown {g} {Is} M c (message.Spent number) b h = answered_by_grown M c number _ (λ q is. ends_as_grown M c number (Frames.spent_reply g) q.asked (spent-is g Is q.asked) h) h
got_grown M c (message.Ack number) b h = got_ack_grown M c number h
got_grown M c (message.Dirty sequence period objects) b h = if_grown (Frames.fit_frame c objects) (send_grown _ c.number _ (quiet _ refl h)) (close_grown M _ c.number h)
got_grown M c (message.Lease sequence period) b h = told_by_grown M c true sequence _ b h
got_grown M c (message.Clean sequence strong objects) b h = if_grown (Frames.fit_frame c objects) (send_grown _ c.number _ (quiet _ refl h)) (close_grown M _ c.number h)
got_grown M c (message.Cleaned sequence) b h = told_by_grown M c false sequence _ b h
got_grown M c (message.Lookup number name) b h = got_lookup_grown M c number name h

-- the frame comes on a connection after its Hello, in its direction
abbrev pub ReceivedWell : Setting → (Ref → Type 0) → (List Told → Type 0) → State → ℕ → Message → Type 0
ReceivedWell g Is T s conn m = (c : Connection) → connection_at s conn ≡ Some c → is_none c.peer ≡ false → Frames.is_wrong_way (Frames.is_asking m) (is_some c.dialled) ≡ false → ComesWell g Is T s c m

pub received_grown : {g : Setting} {Is : Ref → Type 0} {T : List Told → Type 0} {s : State} (M : Plain g Is T) (conn : ℕ) (m : Message) → ReceivedWell g Is T s conn m → Grown g Is T Any s → Grown g Is T Any (OwnEvents.received_on g (connection_at s conn) m s)
unfolding Frames.receive
received_grown {g} {Is} {T} {s} M conn m b h = on (connection_at s conn) refl
  where
    says : (c : Connection) → connection_at s conn ≡ Some c → (x y : Bool) → is_none c.peer ≡ x → Frames.is_wrong_way (Frames.is_asking m) (is_some c.dialled) ≡ y
        → Grown g Is T Any (if x then Frames.first_frame g c m s else (if y then Endings.close g g.classes.unmarshal c.number s else Frames.got g c m s))
    says c is true y e f = first_grown M c m h
    says c is false true e f = close_grown M _ c.number h
    says c is false false e f = got_grown M c m (b c is e f) h

    on : (c : Option Connection) → connection_at s conn ≡ c → Grown g Is T Any (OwnEvents.received_on g c m s)
    on None e = h
    on (Some c) e = says c e (is_none c.peer) (Frames.is_wrong_way (Frames.is_asking m) (is_some c.dialled)) refl refl

-- ---- own events

moment_grown : {g : Setting} {Is : Ref → Type 0} {T : List Told → Type 0} {K : ParkedFrame → Type 0} {s : State} (M : Plain g Is T) (moment : ℕ) → Grown g Is T K s → Grown g Is T K (OwnEvents.on_moment g moment s)
unfolding OwnEvents.on_moment
moment_grown {s = s} M moment h = if_grown (nat_lt moment s.moment) h (release_grown M _ (quiet _ refl (now_told _ (M.at moment s.leases h.parts.told) h)))

gone_grown : {g : Setting} {Is : Ref → Type 0} {T : List Told → Type 0} {K : ParkedFrame → Type 0} {s : State} (ids : List ObjId) → Grown g Is T K s → Grown g Is T K (record s { store = Gone ids ∷ s.store })
gone_grown {g} {Is} {s = s} ids h = record {
  parts = record {
    numbers = all-filter (λ (o : Object). o.id.0 ≤ s.objects_made) (λ (o : Object). not (is_id_in ids o.id)) (standing s.store) h.parts.numbers;
    unwritten = h.parts.unwritten;
    fields = all-filter (FieldsAre g Is s.store) (λ (o : Object). not (is_id_in ids o.id)) (standing s.store) h.parts.fields;
    tasks = h.parts.tasks;
    results = h.parts.results;
    told = h.parts.told;
    parked = h.parts.parked;
  };
}

sweep_grown : {g : Setting} {Is : Ref → Type 0} {T : List Told → Type 0} {K : ParkedFrame → Type 0} {s : State} (M : Plain g Is T) → Grown g Is T K s → Grown g Is T K (OwnEvents.on_sweep g s)
unfolding OwnEvents.on_sweep
sweep_grown {g} {Is} {T} {K} {s} M h = by (OwnEvents.without_reason g s)
  where
    by : (gone : List Object) → Grown g Is T K (OwnEvents.sweep_of g s gone)
    by [] = h
    by (o ∷ os) = quiet _ refl (each_grown _ (o ∷ os) (λ t p k. drop_grown M _ k) (each_grown _ _ (λ t id k. quiet _ refl k) (gone_grown (map (λ (p : Object). p.id) (o ∷ os)) h)))

names_grown : {g : Setting} {Is : Ref → Type 0} {T : List Told → Type 0} {K : ParkedFrame → Type 0} {s : State} (r : Result (List Binding) RegistryFault) → Grown g Is T K s → Grown g Is T K (OwnEvents.set_names r s)
unfolding OwnEvents.set_names
names_grown (Ok names) h = quiet _ refl h
names_grown (Err why) h = quiet _ refl h

lookup_grown : {g : Setting} {Is : Ref → Type 0} {T : List Told → Type 0} {K : ParkedFrame → Type 0} {s : State} (peer : Uuid) (name : List ℕ) → Grown g Is T K s → Grown g Is T K (OwnEvents.on_lookup g peer name s)
unfolding OwnEvents.on_lookup
lookup_grown peer name h = if_grown (is_name name) (quiet _ refl h) (quiet _ refl h)

opened_grown : {g : Setting} {Is : Ref → Type 0} {T : List Told → Type 0} {K : ParkedFrame → Type 0} {s : State} (conn : ℕ) (dialled : Option Uuid) → Grown g Is T K s → Grown g Is T K (OwnEvents.on_opened g conn dialled s)
unfolding OwnEvents.on_opened
opened_grown {g} {s = s} conn None h = if_grown (nat_le 2 g.version) (quiet _ refl h) (say_hello_grown {s = OwnEvents.add_connection conn None s} 1 conn (quiet _ refl h))
opened_grown {s = s} conn (Some peer) h = say_hello_grown {s = OwnEvents.dialled_no_more (Some peer) (OwnEvents.add_connection conn (Some peer) s)} _ conn (quiet _ refl h)

refused_grown : {g : Setting} {Is : Ref → Type 0} {T : List Told → Type 0} {K : ParkedFrame → Type 0} {s : State} (M : Plain g Is T) (peer : Uuid) → Grown g Is T K s → Grown g Is T K (OwnEvents.on_refused g peer s)
unfolding OwnEvents.on_refused
refused_grown M peer h = end_requests_grown M _ _ (quiet _ refl h)

-- ---- events

-- what an event has to bring
abbrev pub HappensWell : Setting → (Ref → Type 0) → (List Told → Type 0) → State → Event → Type 0
HappensWell g Is T s (Root method arguments fuel) = AllOf Is (references_of arguments)
HappensWell g Is T s (Received conn m) = ReceivedWell g Is T s conn m
HappensWell g Is T s (Committed task k op) = OpBrings g Is s.objects_made s.store op
HappensWell g Is T s (Finished task k) = (t : Living) → ready_at s task ≡ Some t → EndIs Is (stand (steps k t.task))
HappensWell g Is T s _ = Unit {0}

pub happen_grown : {g : Setting} {Is : Ref → Type 0} {T : List Told → Type 0} {s : State} (M : Plain g Is T) (e : Event) → HappensWell g Is T s e → Grown g Is T Any s → Grown g Is T Any (Space.happen g e s)
unfolding Space.happen
happen_grown M (Moment moment) b h = moment_grown M moment h
happen_grown M Sweep b h = sweep_grown M h
happen_grown M (Root method arguments fuel) b h = add_task_grown M OfRoot method arguments fuel b h
happen_grown M (RootAck task) b h = release_grown M _ h
happen_grown M (Bind name value) b h = names_grown _ h
happen_grown M (Rebind name value) b h = names_grown _ h
happen_grown M (Unbind name) b h = names_grown _ h
happen_grown M (Lookup peer name) b h = lookup_grown peer name h
happen_grown M (Opened conn dialled) b h = opened_grown conn dialled h
happen_grown M (Refused peer) b h = refused_grown M peer h
happen_grown M (Received conn m) b h = received_grown M conn m b h
happen_grown M (Closed conn) b h = end_connection_grown M _ conn h
happen_grown M (ReadFailed conn) b h = end_connection_grown M _ conn h
happen_grown M (Bad conn) b h = end_connection_grown M _ conn h
happen_grown M (WriteFailed conn unsent) b h = fail_write_grown M conn unsent h
happen_grown M (Committed task k op) b h = commit_grown M task k op b h
happen_grown M (Parked task k) b h = park_grown task k h
happen_grown M (GivenBack task k) b h = give_back_grown task k h
happen_grown M (Finished task k) b h = finish_grown M task k b h
