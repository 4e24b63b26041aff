-- Each event of a space keeps the dirty and clean calls of a reference among its requests, on their way or overtaken.
use mathlib.Core.Path.{sym, ap}
use Rattle.std.proofs.Common.{arith}
use Rattle.std.proofs.lemmas.Bool.{true≢false, leb-true, leb-false}
use Rattle.std.specs.List.{list_any}
use Rattle.std.specs.Prelude.{◌≡◌, refl, ℕ, ◌+◌, ◌≤◌, ◌<◌, ◌==◌, ◌&&◌, ◌||◌, not, nat_le, nat_lt, is_some, is_none, Bool, true, false, cond, List, [], ◌∷◌, ◌++◌, Option, None, Some, Result, Ok, Err, filter, find, length}
use Rattle.dgc_client.specs.declared.groups.Group.{Group}
use Rattle.dgc_client.specs.declared.lease.Due.{Due}
use Rattle.dgc_client.specs.declared.lease.Due.TheVariants as due
use Rattle.dgc_client.specs.History as lease_events
use Rattle.dgc_client.specs.Lease as lease
use Rattle.dgc_client.specs.Table.{On, At, is_same, references_at, numbers_of}
use Rattle.space_ids.specs.declared.ids.ClassId.{ClassId}
use Rattle.space_ids.specs.declared.ids.ForeignId.{ForeignId}
use Rattle.space_ids.specs.declared.ids.ObjId.{ObjId}
use Rattle.space_ids.specs.declared.ids.Ref.{Ref}
use Rattle.space_ids.specs.declared.value.Value.{Value}
use Rattle.space_ids.specs.declared.value.Value.TheVariants as values
use Rattle.net_message.specs.declared.message.Message.{Message}
use Rattle.net_message.specs.declared.message.Message.TheVariants as message
use Rattle.sp_registry.specs.Bindings as registry
use Rattle.sp_registry.specs.Names.{is_name}
use Rattle.sp_registry.specs.declared.fault.RegistryFault.{RegistryFault}
use Rattle.sp_registry.specs.declared.registry.Binding.{Binding}
use Rattle.uuid.specs.declared.Uuid.{Uuid}
use Rattle.sp_rules.specs.Behaviours.{Outcome, Returned, Threw, Spent, Op, Create, Get, Put, Call, Reply, GivesBack, Throws}
use Rattle.sp_rules.specs.Classes.{Setting, fit_kinds}
use Rattle.sp_rules.specs.Endings
use Rattle.sp_rules.specs.Endings.{is_group}
use Rattle.sp_rules.specs.Events.{Event, Moment, Sweep, Root, RootAck, Bind, Rebind, Unbind, Lookup, Opened, Refused, Received, Closed, ReadFailed, Bad, WriteFailed, Committed, Parked, GivenBack, Finished, Output, Started, Ended, Withdrawn, Denied, Send, Dial, Close, Ready}
use Rattle.sp_rules.specs.Frames
use Rattle.sp_rules.specs.Frames.{tells_of, is_dirty_kind}
use Rattle.sp_rules.specs.Holders
use Rattle.sp_rules.specs.Holders.{times_in}
use Rattle.sp_rules.specs.Lists.{each}
use Rattle.sp_rules.specs.LivingTasks
use Rattle.sp_rules.specs.OwnEvents
use Rattle.sp_rules.specs.ParkedFrames
use Rattle.sp_rules.specs.References.{references_of}
use Rattle.sp_rules.specs.Requests
use Rattle.sp_rules.specs.Space
use Rattle.sp_rules.specs.State as state
use Rattle.sp_rules.specs.State.{State, Object, Living, Origin, OfRoot, OfCall, Until, Request, Asked, Calls, LooksUp, Tells, Stage, Waits, Out, Answered, Connection, KeptResult, Frame, CallFrame, ReturnedFrame, ParkedFrame, task_at, ready_at, object_at, connection_at, is_open, opening}
use Rattle.sp_rules.specs.Tasks.{Stand, Runs, AsksFor, HasEnded, stand, steps}
use Rattle.sp_rules.proofs.AllLemmas.{found-is}
use Rattle.sp_rules.proofs.OwnLemmas.{and-right}
use Rattle.sp_laws.specs.MadeWhenDue.{CallsAreMadeWhenDue}
use Rattle.sp_laws.specs.Numbered.{is_out_under, calls_under, HasFreshSequences, SequenceNumbersAreFresh}
use Rattle.sp_laws.specs.OnTheWay.{is_on_its_way, times_named, calls_naming, IsAmongRequests, CallsOnTheirWayAreRequests}
use Rattle.sp_laws.proofs.NamingLemmas.{known-at, known-other, times-cons, other-way, same-way}
use Rattle.sp_laws.proofs.PointerLemmas.{bit, bit-false, Named, Ends, dirty-answered, dirty-failed, clean-answered, clean-failed}
use Rattle.sp_laws.proofs.WayLemmas.{Way, under, given, quiet, leases_way, drop_asked, asked_in, removes_way, sorts_way, call_gone, answered_way, told_gone}
use Rattle.sp_laws.proofs.GroupMoves.{other_ends, one_ends, few_of, told_ends}
use Rattle.sp_laws.proofs.OnTheWayRules.{dial_way, if_way, some_way, each_way, each_removed, send_way, hold_way, drop_way, let_go_way, flush_way, fresh_way, settle_way}

-- ---- tasks

add_task_way : {g : Setting} {r : ForeignId} {l : List Asked} {s : State} (origin : Origin) (method : ℕ) (arguments : List Value) (fuel : ℕ) → Way g r l s → Way g r l (LivingTasks.add_task g origin method arguments fuel s)
unfolding LivingTasks.add_task
add_task_way origin method arguments fuel h = quiet _ refl (hold_way _ (quiet _ refl h))

keep_way : {g : Setting} {r : ForeignId} {l : List Asked} {s : State} (until : Until) (value : Option Value) → Way g r l s → Way g r l (LivingTasks.keep g until value s)
keep_way until value h = hold_way _ (quiet _ refl h)

keep_result_way : {g : Setting} {r : ForeignId} {l : List Asked} {s : State} (until : Until) (outcome : Outcome) → Way g r l s → Way g r l (LivingTasks.keep_result g until outcome s)
keep_result_way until (Returned value) h = keep_way until value h
keep_result_way until (Threw class) h = h
keep_result_way until Spent h = h

report_way : {g : Setting} {r : ForeignId} {l : List Asked} {s : State} (origin : Origin) (id fuel : ℕ) (outcome : Outcome) → Way g r l s → Way g r l (LivingTasks.report g origin id fuel outcome s)
report_way OfRoot id fuel outcome h = keep_result_way _ outcome h
report_way {s = s} (OfCall conn number) id fuel outcome h = if_way (is_open s conn) (send_way _ conn _ (keep_result_way _ outcome h)) h

end_with_way : {g : Setting} {r : ForeignId} {l : List Asked} {s : State} (id : ℕ) (t : Living) (outcome : Outcome) → Way g r l s → Way g r l (LivingTasks.end_with g id t outcome s)
end_with_way id t outcome h = drop_way _ (report_way t.origin id t.task.fuel outcome (quiet _ refl h))

reply_task_way : {g : Setting} {r : ForeignId} {l : List Asked} {s : State} (id : ℕ) (reply : Reply) → Way g r l s → Way g r l (LivingTasks.reply_task g id reply s)
unfolding LivingTasks.reply_task
reply_task_way {s = s} id reply h = some_way (task_at s id) _ h (λ t is. quiet _ refl (hold_way _ (quiet _ refl h)))

reply_to_way : {g : Setting} {r : ForeignId} {l : List Asked} {s : State} (asked : Asked) (reply : Reply) → Way g r l s → Way g r l (LivingTasks.reply_to g asked reply s)
unfolding LivingTasks.reply_to
reply_to_way (Calls number task lent kind m) reply h = reply_task_way task reply h
reply_to_way (LooksUp number task name) reply h = keep_result_way (state.RootAcked task) (LivingTasks.outcome_of reply) (quiet _ refl h)
reply_to_way (Tells call group) reply h = h

after_op_way : {g : Setting} {r : ForeignId} {l : List Asked} {s : State} (op : Op) → Way g r l s → Way g r l (LivingTasks.after_op g op s)
unfolding LivingTasks.after_op
after_op_way {s = s} (Create class) h = if_way (LivingTasks.is_full s) h (quiet _ refl h)
after_op_way (Get id slot) h = h
after_op_way (Put id slot value) h = drop_way _ (hold_way _ (quiet _ refl h))
after_op_way (Call target method arguments) h = h

commit_way : {g : Setting} {r : ForeignId} {l : List Asked} {s : State} (id k : ℕ) (op : Op) → Way g r l s → Way g r l (LivingTasks.commit g id k op s)
unfolding LivingTasks.commit
commit_way {s = s} id k op h = some_way (ready_at s id) _ h (λ t is. after_op_way op (hold_way _ (quiet _ refl h)))

park_way : {g : Setting} {r : ForeignId} {l : List Asked} {s : State} (id k : ℕ) → Way g r l s → Way g r l (LivingTasks.park_call g id k s)
unfolding LivingTasks.park_call
park_way {g} {r} {l} {s} id k h = some_way (ready_at s id) _ h (λ t is. at t (stand (steps k t.task)))
  where
    parks : (t : Living) (op : Op) → Way g r l (LivingTasks.park_op g id k t op s)
    parks t (Create class) = h
    parks t (Get o slot) = h
    parks t (Put o slot value) = h
    parks t (Call target method arguments) = fresh_way {s = s} _ _ refl (refl, tt) h

    at : (t : Living) (stands : Stand) → Way g r l (LivingTasks.park_at g id k t stands s)
    at t Runs = h
    at t (AsksFor op) = parks t op
    at t (HasEnded outcome) = h

give_back_way : {g : Setting} {r : ForeignId} {l : List Asked} {s : State} (id k : ℕ) → Way g r l s → Way g r l (LivingTasks.give_back id k s)
unfolding LivingTasks.give_back
give_back_way {s = s} id k h = some_way (ready_at s id) _ h (λ t is. quiet _ refl h)

finish_way : {g : Setting} {r : ForeignId} {l : List Asked} {s : State} (id k : ℕ) → Way g r l s → Way g r l (LivingTasks.finish_task g id k s)
unfolding LivingTasks.finish_task
finish_way {g} {r} {l} {s} id k h = some_way (ready_at s id) _ h (λ t is. at (LivingTasks.after_steps k t) (stand (steps k t.task)))
  where
    at : (t : Living) (stands : Stand) → Way g r l (LivingTasks.end_at g id t stands s)
    at t Runs = h
    at t (AsksFor op) = h
    at t (HasEnded outcome) = end_with_way {g = g} id t outcome h

-- ---- parked frames

start_call_way : {g : Setting} {r : ForeignId} {l : List Asked} {s : State} (p : ParkedFrame) (target : ObjId) (method fuel : ℕ) (arguments : List Value) → Way g r l s → Way g r l (ParkedFrames.start_call g p target method fuel arguments s)
unfolding ParkedFrames.start_call
start_call_way {g} {r} {l} {s} p target method fuel arguments h = some_way (object_at s target) _ h (λ o is. selected (record { space = g.id; id = target; class = o.class }) (g.classes.selected o.class method))
  where
    selected : (receiver : Ref) (found : Option ℕ) → Way g r l (ParkedFrames.start_selected g p.conn p.number receiver found fuel arguments s)
    selected receiver None = send_way _ p.conn _ h
    selected receiver (Some m) = add_task_way (OfCall p.conn p.number) m _ fuel h

answer_parked_way : {g : Setting} {r : ForeignId} {l : List Asked} {s : State} (p : ParkedFrame) (reply : Reply) → Way g r l s → Way g r l (ParkedFrames.answer_parked g p reply s)
unfolding ParkedFrames.answer_parked
answer_parked_way {s = s} p reply h = some_way (find (ParkedFrames.is_call_on p.conn p.number) s.requests) _ h (λ q is. reply_to_way q.asked reply (send_way _ p.conn _ (call_gone p.conn p.number h)))

go_way : {g : Setting} {r : ForeignId} {l : List Asked} {s : State} (p : ParkedFrame) → Way g r l s → Way g r l (ParkedFrames.go g s p)
unfolding ParkedFrames.go
go_way {g} {r} {l} {s} p h = some_way (find (ParkedFrames.is_parked_at p.conn p.number) s.parked) _ h (λ q is. let_go_way p s.parked (frame q q.frame))
  where
    frame : (q : ParkedFrame) (f : Frame) → Way g r l (ParkedFrames.go_frame g q f (ParkedFrames.take_parked p s))
    frame q (CallFrame target method fuel arguments) = start_call_way q target method fuel arguments (quiet _ refl h)
    frame q (ReturnedFrame value fuel) = answer_parked_way q (GivesBack value fuel) (quiet _ refl h)

go_all_way : {g : Setting} {r : ForeignId} {l : List Asked} {s : State} → Way g r l s → Way g r l (ParkedFrames.go_all g s)
unfolding ParkedFrames.go_all
go_all_way h = each_way _ _ (λ t p k. go_way p k) h

park_frame_way : {g : Setting} {r : ForeignId} {l : List Asked} {s : State} (conn number : ℕ) (frame : Frame) (references : List ForeignId) → Way g r l s → Way g r l (ParkedFrames.park_frame g conn number frame references s)
unfolding ParkedFrames.park_frame
park_frame_way conn number frame references h = go_all_way (hold_way references (quiet _ refl h))

fail_parked_way : {g : Setting} {r : ForeignId} {l : List Asked} {s : State} (p : ParkedFrame) → Way g r l s → Way g r l (ParkedFrames.fail_parked g s p)
unfolding ParkedFrames.fail_parked
fail_parked_way {g} {r} {l} {s} p h = frame p.frame
  where
    frame : (f : Frame) → Way g r l (ParkedFrames.fail_frame g p f (ParkedFrames.let_go_parked p s.parked (ParkedFrames.take_parked p s)))
    frame (CallFrame target method fuel arguments) = send_way _ p.conn _ (let_go_way p s.parked (quiet _ refl h))
    frame (ReturnedFrame value fuel) = answer_parked_way p (Throws g.classes.unmarshal) (let_go_way p s.parked (quiet _ refl h))

-- ---- dirty and clean calls fail

-- what a step does for each of a group's references: those of others keep what is known of this one, its own ends the call
record Fails (g : Setting) (r : ForeignId) (call : ℕ) (b : Group) (f : State → ForeignId → State) : Type 0 where
  other : (l : List Asked) (t : State) (x : ForeignId) → is_same x r ≡ false → Way g r l t → Way g r l (f t x)
  here : (l : List Asked) (t : State) (x : ForeignId) → is_same x r ≡ true → times_named r b ≡ 1 → Way g r (Tells call b ∷ l) t → Way g r l (f t x)

others_fail : {g : Setting} {r : ForeignId} {l : List Asked} {s : State} (call : ℕ) (b : Group) (f : State → ForeignId → State) → Fails g r call b f → (refs : List ForeignId) → times_in r refs ≡ 0 → Way g r l s → Way g r l (each f refs s)
unfolding each
others_fail call b f F [] z h = h
others_fail {g} {r} {l} {s} call b f F (x ∷ refs) z h =
    let a : times_in r (x ∷ refs) ≡ bit (is_same r x) + times_in r refs = times-cons r x refs in
    let z' : times_in r (x ∷ refs) ≡ 0 = z in
    let c : bit (is_same r x) ≡ 0 = omega arith in
    others_fail call b f F refs (omega arith) (F.other l s x (other-way r x (bit-false (is_same r x) c)) h)

one_fails : {g : Setting} {r : ForeignId} {l : List Asked} {s : State} (call : ℕ) (b : Group) (f : State → ForeignId → State) → Fails g r call b f → (refs : List ForeignId) → times_in r refs ≡ 1 → times_named r b ≡ 1 → Way g r (Tells call b ∷ l) s → Way g r l (each f refs s)
unfolding each
one_fails call b f F [] z one h = absurd (omega (arith, z))
one_fails {g} {r} {l} {s} call b f F (x ∷ refs) z one h = pick (is_same r x) refl (λ w k. one_fails call b f F refs w one k)
  where
    pick : (y : Bool) → is_same r x ≡ y → (times_in r refs ≡ 1 → Way g r (Tells call b ∷ l) (f s x) → Way g r l (each f refs (f s x))) → Way g r l (each f refs (f s x))
    pick true e rest =
        let a : times_in r (x ∷ refs) ≡ bit (is_same r x) + times_in r refs = times-cons r x refs in
        let z' : times_in r (x ∷ refs) ≡ 1 = z in
        let c : bit (is_same r x) ≡ 1 = ap bit e in others_fail call b f F refs (omega arith) (F.here l s x (same-way r x e) one h)
    pick false e rest =
        let a : times_in r (x ∷ refs) ≡ bit (is_same r x) + times_in r refs = times-cons r x refs in
        let z' : times_in r (x ∷ refs) ≡ 1 = z in
        let c : bit (is_same r x) ≡ 0 = ap bit e in rest (omega arith) (F.other (Tells call b ∷ l) s x (other-way r x e) h)

group_fails : {g : Setting} {r : ForeignId} {l : List Asked} {s : State} (d : Bool) (call : ℕ) (b : Group) (f : State → ForeignId → State) → Fails g r call b f → tells_of d (Tells call b) ≡ true → Way g r (Tells call b ∷ l) s → Way g r l (each f (references_at b.peer b.ids) s)
group_fails {g} {r} {l} {s} d call b f F is h = pick (nat_le 1 (times_named r b)) refl
  where
    pick : (y : Bool) → nat_le 1 (times_named r b) ≡ y → Way g r l (each f (references_at b.peer b.ids) s)
    pick true e =
        let some : 1 ≤ times_named r b = leb-true 1 (times_named r b) e in
        let few : times_named r b ≤ 1 = few_of d call b is h in
        one_fails call b f F (references_at b.peer b.ids) (omega arith) (omega arith) h
    pick false e =
        let some : times_named r b < 1 = leb-false 1 (times_named r b) e in
        let none : times_named r b ≡ 0 = omega arith in
        others_fail call b f F (references_at b.peer b.ids) none (other_ends call b none h)

other_told : {g : Setting} {r : ForeignId} {l : List Asked} {s : State} (x : ForeignId) (e : lease_events.Event) → is_same x r ≡ false → Way g r l s → Way g r l (record s { leases = On x e ∷ s.leases })
other_told {s = s} x e apart h = leases_way _ (On x e ∷ s.leases) refl refl (λ k. known-other x e apart k) h

after_fail : {g : Setting} {r : ForeignId} {l : List Asked} {s : State} (call : ℕ) (x : ForeignId) → Way g r l (record s { leases = On x (lease_events.DirtyFailed call) ∷ s.leases }) → Way g r l (Endings.fail_dirty g call s x)
unfolding Endings.fail_dirty
after_fail {s = s} call x h = if_way (lease.is_made (Holders.lease_now s x).dirty call && is_none (Holders.lease_now s x).lease) (each_way _ (filter (ParkedFrames.names x) s.parked) (λ t p k. fail_parked_way p k) h) h

dirty-fails : (g : Setting) (r : ForeignId) (call : ℕ) (b : Group) → b.kind ≡ due.Dirty → Fails g r call b (Endings.fail_dirty g call)
dirty-fails g r call b kind = record {
  other = λ l t x apart h. after_fail call x (other_told x (lease_events.DirtyFailed call) apart h);
  here = λ l t x same one h. after_fail call x (one_ends true call b x (lease_events.DirtyFailed call) (dirty-failed call) (ap is_dirty_kind kind) one same h);
}

clean-fails : (g : Setting) (r : ForeignId) (call : ℕ) (b : Group) (strong : Bool) → b.kind ≡ due.Clean strong → Fails g r call b (Endings.fail_clean call)
clean-fails g r call b strong kind = record {
  other = λ l t x apart h. other_told x (lease_events.CleanFailed call) apart h;
  here = λ l t x same one h. one_ends false call b x (lease_events.CleanFailed call) (clean-failed call) (ap (λ z. not (is_dirty_kind z)) kind) one same h;
}

fail_group_way : {g : Setting} {r : ForeignId} {l : List Asked} {s : State} (kind : Due) (b : Group) (call : ℕ) → b.kind ≡ kind → Way g r (Tells call b ∷ l) s → Way g r l (Endings.fail_group g kind b call s)
fail_group_way {g} {r} due.Dirty b call e h = group_fails true call b (Endings.fail_dirty g call) (dirty-fails g r call b e) (ap is_dirty_kind e) h
fail_group_way {g} {r} (due.Clean strong) b call e h = group_fails false call b (Endings.fail_clean call) (clean-fails g r call b strong e) (ap (λ z. not (is_dirty_kind z)) e) h

end_asked_way : {g : Setting} {r : ForeignId} {l : List Asked} {s : State} (class : ClassId) (asked : Asked) → Way g r (asked ∷ l) s → Way g r l (Endings.end_asked g class asked s)
end_asked_way class (Calls number task lent kind m) h = reply_to_way (Calls number task lent kind m) (Throws class) (drop_asked (Calls number task lent kind m) refl h)
end_asked_way class (LooksUp number task name) h = reply_to_way (LooksUp number task name) (Throws class) (drop_asked (LooksUp number task name) refl h)
end_asked_way class (Tells call group) h = fail_group_way group.kind group call refl h

end_requests_way : {g : Setting} {r : ForeignId} {s : State} (is : Request → Bool) (why : Asked → ClassId) → Way g r [] s → Way g r [] (Endings.end_requests g is why s)
unfolding Endings.end_requests
end_requests_way {s = s} is why h =
    each_removed {l = []} (λ (q : Request). q.asked) _ (filter (λ (q : Request). is_group q.asked) (filter is s.requests)) (λ m t q k. end_asked_way (why q.asked) q.asked k)
    (each_removed {l = asked_in (filter (λ (q : Request). is_group q.asked) (filter is s.requests)) ++ []} (λ (q : Request). q.asked) _ (filter (λ (q : Request). not (is_group q.asked)) (filter is s.requests)) (λ m t q k. end_asked_way (why q.asked) q.asked k)
    (sorts_way [] (λ (q : Request). is_group q.asked) (filter is s.requests) (removes_way is h)))

let_connection_go_way : {g : Setting} {r : ForeignId} {s : State} (conn : ℕ) → Way g r [] s → Way g r [] (Endings.let_connection_go conn s)
let_connection_go_way conn h = each_way _ _ (λ t p k. let_go_way p t.parked (quiet _ refl k)) (quiet _ refl h)

end_connection_way : {g : Setting} {r : ForeignId} {s : State} (why : Asked → ClassId) (conn : ℕ) → Way g r [] s → Way g r [] (Endings.end_connection g why conn s)
unfolding Endings.end_connection
end_connection_way {s = s} why conn h = some_way (connection_at s conn) _ h (λ c is. end_requests_way _ why (let_connection_go_way conn h))

close_way : {g : Setting} {r : ForeignId} {s : State} (class : ClassId) (conn : ℕ) → Way g r [] s → Way g r [] (Endings.close g class conn s)
unfolding Endings.close
close_way class conn h = quiet _ refl (end_connection_way _ conn h)

redial_way : {g : Setting} {r : ForeignId} {s : State} (peer : Uuid) (conn : ℕ) → Way g r [] s → Way g r [] (Endings.redial peer conn s)
unfolding Endings.redial
redial_way {s = s} peer conn h = dial_way {l = []} peer (quiet _ refl (let_connection_go_way {s = Endings.note_peer peer s} conn (quiet _ refl h)))

-- ---- frames that come

say_hello_way : {g : Setting} {r : ForeignId} {s : State} (version conn : ℕ) → Way g r [] s → Way g r [] (Frames.say_hello g version conn s)
say_hello_way {g} version conn h = quiet _ refl (send_way Rattle.sp_rules.specs.Events.Hellos conn (message.Hello version g.id g.digest) h)

first_way : {g : Setting} {r : ForeignId} {s : State} (c : Connection) (m : Message) → Way g r [] s → Way g r [] (Frames.first_frame g c m s)
unfolding Frames.first_frame
first_way {g} {r} {s} c (message.Hello version space digest) h = some_way c.dialled _ (if_way _ (if_way (nat_le 2 g.version) (say_hello_way _ c.number known) known) (close_way _ c.number h))
    (λ peer is. if_way _ (if_way (version == c.version) (flush_way peer c.number known) (if_way (nat_le 2 c.version && version == 1) (redial_way peer c.number h) (close_way _ c.number h))) (close_way _ c.number h))
  where
    known : Way g r [] (Frames.greeted space c.number s)
    known = quiet _ refl h
first_way c _ h = close_way _ c.number h

call_of_way : {g : Setting} {r : ForeignId} {s : State} (conn number : ℕ) (o : Object) (method fuel : ℕ) (arguments : List Value) → Way g r [] s → Way g r [] (Frames.call_of g conn number o method fuel arguments s)
call_of_way {g} {s = s} conn number o method fuel arguments h =
    if_way (not (g.classes.may_call o.class method) || (not (fit_kinds (g.classes.parameters method) arguments) || list_any (Holders.is_refused g s) (references_of arguments))) (send_way _ conn _ h)
    (if_way (Frames.is_busy s) (send_way _ conn _ h) (park_frame_way conn number _ _ h))

got_call_way : {g : Setting} {r : ForeignId} {s : State} (c : Connection) (number : ℕ) (target : ObjId) (method fuel : ℕ) (arguments : List Value) → Way g r [] s → Way g r [] (Frames.got_call g c number target method fuel arguments s)
unfolding Frames.got_call
got_call_way {g} {r} {s} c number target method fuel arguments h = if_way (nat_le number c.last) (close_way _ c.number h) (on (object_at s target))
  where
    on : (o : Option Object) → Way g r [] (Frames.call_on g c.number number o method fuel arguments (Frames.counted c.number number s))
    on None = send_way Rattle.sp_rules.specs.Events.Replies c.number (message.Threw number g.classes.no_such_object) (quiet (Frames.counted c.number number s) refl h)
    on (Some o) = call_of_way c.number number o method fuel arguments (quiet (Frames.counted c.number number s) refl h)

found_way : {g : Setting} {r : ForeignId} {s : State} (conn number : ℕ) (o : Option Object) → Way g r [] s → Way g r [] (Frames.found g conn number o s)
found_way conn number None h = send_way _ conn _ h
found_way {g} conn number (Some o) h = send_way _ conn _ (keep_way (state.Acked conn number) (Some (values.Ref (record { space = g.id; id = o.id; class = o.class }))) h)

got_lookup_way : {g : Setting} {r : ForeignId} {s : State} (c : Connection) (number : ℕ) (name : List ℕ) → Way g r [] s → Way g r [] (Frames.got_lookup g c number name s)
unfolding Frames.got_lookup
got_lookup_way {s = s} c number name h = if_way (nat_le number c.last) (close_way _ c.number h) (found_way c.number number (Frames.object_of s (registry.lookup s.owner.names name)) (quiet (Frames.counted c.number number s) refl h))

release_way : {g : Setting} {r : ForeignId} {s : State} (is : KeptResult → Bool) → Way g r [] s → Way g r [] (Frames.release g is s)
unfolding Frames.release
release_way is h = each_way _ _ (λ t q k. drop_way _ k) (quiet _ refl h)

got_ack_way : {g : Setting} {r : ForeignId} {s : State} (c : Connection) (number : ℕ) → Way g r [] s → Way g r [] (Frames.got_ack g c number s)
unfolding Frames.got_ack
got_ack_way {s = s} c number h = if_way (list_any (Frames.is_acked_by c.number number) s.results) (release_way _ h) (close_way _ c.number h)

returned_way : {g : Setting} {r : ForeignId} {s : State} (c : Connection) (number fuel : ℕ) (value : Option Value) (asked : Asked) → Way g r [] s → Way g r [] (Frames.returned_for g c number fuel value asked s)
returned_way {g} c number fuel value asked h = if_way _ (reply_to_way asked (Throws g.classes.unmarshal) (send_way _ c.number _ (call_gone c.number number h))) (park_frame_way c.number number _ _ (answered_way c.number number h))

answered_by_way : {g : Setting} {r : ForeignId} {s : State} (c : Connection) (number : ℕ) (next : Asked → State → State) → ((asked : Asked) → Way g r [] (next asked s)) → Way g r [] s → Way g r [] (Frames.answered_by g c number next s)
unfolding Frames.answered_by
answered_by_way {s = s} c number next k h = some_way (find (ParkedFrames.is_asked_on c.number number) s.requests) _ (close_way _ c.number h) (λ q is. k q.asked)

ends_as_way : {g : Setting} {r : ForeignId} {s : State} (c : Connection) (number : ℕ) (reply : Asked → Reply) (asked : Asked) → Way g r [] s → Way g r [] (Frames.ends_as g c number reply asked s)
ends_as_way c number reply asked h = reply_to_way asked (reply asked) (call_gone c.number number h)

told_by_way : {g : Setting} {r : ForeignId} {s : State} (c : Connection) (d : Bool) (sequence : ℕ) (event : ℕ → lease_events.Event) → ((call : ℕ) → Ends d call (event call)) → Way g r [] s → Way g r [] (Frames.told_by g c d sequence event s)
unfolding Frames.told_by
told_by_way {g} {r} {s} c d sequence event E h = some_way (find (Frames.tells_on d c.number sequence) s.requests) _ (close_way _ c.number h)
    (λ q is. go_all_way (tells q.asked (tells-is q (found-is (Frames.tells_on d c.number sequence) s.requests q is)) (told_gone d c.number sequence q is h)))
  where
    tells-is : (q : Request) → Frames.tells_on d c.number sequence q ≡ true → tells_of d q.asked ≡ true
    tells-is q e = and-right (Frames.has_sequence sequence q.stage) _ (and-right (ParkedFrames.is_unanswered_on c.number q.stage) _ e)

    tells : (asked : Asked) → tells_of d asked ≡ true → {t : State} → Way g r (asked ∷ []) t → Way g r [] (Frames.group_told event asked t)
    tells (Calls n task lent kind m) is k = absurd (true≢false (sym is))
    tells (LooksUp n task name) is k = absurd (true≢false (sym is))
    tells (Tells call group) is k = told_ends d call group (event call) (E call) is k

got_way : {g : Setting} {r : ForeignId} {s : State} (c : Connection) (m : Message) → Way g r [] s → Way g r [] (Frames.got g c m s)
unfolding Frames.got Frames.got_dirty Frames.got_clean
got_way c (message.Hello version space digest) h = close_way _ c.number h
got_way c (message.Call number object method fuel arguments) h = got_call_way c number object method fuel arguments h
got_way c (message.Returned number fuel value) h = answered_by_way c number _ (λ asked. returned_way c number fuel value asked h) h
got_way {g} c (message.Threw number class) h = answered_by_way c number _ (λ asked. ends_as_way c number (λ a. Frames.thrown_reply g class) asked h) h
got_way {g} c (message.Spent number) h = answered_by_way c number _ (λ asked. ends_as_way c number (Frames.spent_reply g) asked h) h
got_way c (message.Ack number) h = got_ack_way c number h
got_way c (message.Dirty sequence period objects) h = if_way (Frames.fit_frame c objects) (send_way _ c.number _ (quiet _ refl h)) (close_way _ c.number h)
got_way c (message.Lease sequence period) h = told_by_way c true sequence (λ call. lease_events.DirtyAnswered call period) (λ call. dirty-answered call period) h
got_way c (message.Clean sequence strong objects) h = if_way (Frames.fit_frame c objects) (send_way _ c.number _ (quiet _ refl h)) (close_way _ c.number h)
got_way c (message.Cleaned sequence) h = told_by_way c false sequence lease_events.CleanAnswered clean-answered h
got_way c (message.Lookup number name) h = got_lookup_way c number name h

received_way : {g : Setting} {r : ForeignId} {s : State} (c : Option Connection) (m : Message) → Way g r [] s → Way g r [] (OwnEvents.received_on g c m s)
unfolding Frames.receive
received_way None m h = h
received_way {g} {s = s} (Some c) m h = if_way (is_none c.peer) (first_way c m h) (if_way (Frames.is_wrong_way (Frames.is_asking m) (is_some c.dialled)) (close_way _ c.number h) (got_way c m h))

-- ---- own events

moment_way : {g : Setting} {r : ForeignId} {s : State} (moment : ℕ) → Way g r [] s → Way g r [] (OwnEvents.on_moment g moment s)
unfolding OwnEvents.on_moment
moment_way {s = s} moment h = if_way (nat_lt moment s.moment) h (release_way _ (leases_way {s = s} _ (At moment ∷ s.leases) refl refl (λ k. known-at moment k) h))

sweep_way : {g : Setting} {r : ForeignId} {s : State} → Way g r [] s → Way g r [] (OwnEvents.on_sweep g s)
unfolding OwnEvents.on_sweep
sweep_way {g} {r} {s} h = sweeps (OwnEvents.without_reason g s)
  where
    sweeps : (gone : List Object) → Way g r [] (OwnEvents.sweep_of g s gone)
    sweeps [] = h
    sweeps (o ∷ os) = quiet _ refl (each_way _ (o ∷ os) (λ t p k. drop_way _ k) (each_way _ _ (λ t id k. quiet _ refl k) (quiet _ refl h)))

names_way : {g : Setting} {r : ForeignId} {s : State} (x : Result (List Binding) RegistryFault) → Way g r [] s → Way g r [] (OwnEvents.set_names x s)
unfolding OwnEvents.set_names
names_way (Ok names) h = quiet _ refl h
names_way (Err why) h = quiet _ refl h

lookup_way : {g : Setting} {r : ForeignId} {s : State} (peer : Uuid) (name : List ℕ) → Way g r [] s → Way g r [] (OwnEvents.on_lookup g peer name s)
unfolding OwnEvents.on_lookup
lookup_way {s = s} peer name h = if_way (is_name name) (fresh_way {s = s} _ _ refl (refl, tt) h) (quiet _ refl h)

opened_way : {g : Setting} {r : ForeignId} {s : State} (conn : ℕ) (dialled : Option Uuid) → Way g r [] s → Way g r [] (OwnEvents.on_opened g conn dialled s)
unfolding OwnEvents.on_opened
opened_way {g} conn None h = if_way (nat_le 2 g.version) (quiet _ refl h) (say_hello_way 1 conn (quiet _ refl h))
opened_way conn (Some peer) h = say_hello_way _ conn (quiet _ refl h)

refused_way : {g : Setting} {r : ForeignId} {s : State} (peer : Uuid) → Way g r [] s → Way g r [] (OwnEvents.on_refused g peer s)
unfolding OwnEvents.on_refused
refused_way peer h = end_requests_way (Requests.waits_for peer) _ (quiet _ refl h)

-- ---- events

happen_way : {g : Setting} {r : ForeignId} {s : State} (e : Event) → Way g r [] s → Way g r [] (Space.happen g e s)
unfolding Space.happen Endings.fail_write
happen_way (Moment moment) h = moment_way moment h
happen_way Sweep h = sweep_way h
happen_way (Root method arguments fuel) h = add_task_way OfRoot method arguments fuel h
happen_way (RootAck task) h = release_way _ h
happen_way (Bind name value) h = names_way _ h
happen_way (Rebind name value) h = names_way _ h
happen_way (Unbind name) h = names_way _ h
happen_way {g} (Lookup peer name) h = lookup_way {g = g} peer name h
happen_way (Opened conn dialled) h = opened_way conn dialled h
happen_way (Refused peer) h = refused_way peer h
happen_way {s = s} (Received conn m) h = received_way (connection_at s conn) m h
happen_way (Closed conn) h = end_connection_way _ conn h
happen_way (ReadFailed conn) h = end_connection_way _ conn h
happen_way (Bad conn) h = end_connection_way _ conn h
happen_way (WriteFailed conn unsent) h = end_connection_way _ conn h
happen_way (Committed task k op) h = commit_way task k op h
happen_way (Parked task k) h = park_way task k h
happen_way {g} (GivenBack task k) h = give_back_way {g = g} task k h
happen_way (Finished task k) h = finish_way task k h

sent_way : {g : Setting} {r : ForeignId} {s : State} (o : Output) → Way g r [] s → Way g r [] (Space.record_sent s o)
sent_way (Started task) h = h
sent_way (Ended task outcome) h = h
sent_way (Withdrawn ids) h = h
sent_way (Denied why) h = h
sent_way (Send conn m) h = quiet _ refl h
sent_way (Dial peer) h = h
sent_way (Close conn) h = h
sent_way (Ready task) h = h

finish_event_way : {g : Setting} {r : ForeignId} {s : State} (answers : Bool) → Way g r [] s → Way g r [] (Space.finish_event answers s).0
finish_event_way true h = each_way _ _ (λ u o j. sent_way o j) (quiet _ refl (settle_way h))
finish_event_way false h = h

on_way : (g : Setting) (r : ForeignId) (s : State) (e : Event) → Way g r [] s → Way g r [] (Space.on g e s).0
unfolding Space.on
on_way g r s e h = finish_event_way (Space.answers_outputs e) (happen_way e h)

ways-of : (g : Setting) (r : ForeignId) (h : List Event) → Way g r [] (Space.state_of g h)
unfolding Space.state_of opening
ways-of g r [] = record {
  parts = record {
    known = record {
      named = record {
        numbers = λ call. omega arith;
        holds = λ d call le. absurd (omega (arith, le));
        way = λ d call t. none d call t;
        out = λ d call le. absurd (omega (arith, le));
        due = tt;
        below = omega arith;
      };
    };
    fresh = tt;
    numbered = λ k. omega arith;
  };
}
  where
    none : (d : Bool) (call : ℕ) → is_on_its_way d (lease_events.lease_of []) call ≡ true → 1 ≤ 0 + 0
    none true call t = absurd (true≢false (sym t))
    none false call t = absurd (true≢false (sym t))
ways-of g r (e ∷ h) = on_way g r (Space.state_of g h) e (ways-of g r h)

-- ---- as the laws say it

low : (k n : ℕ) → n + 1 ≤ k → bit (nat_le k n) ≡ 0
low k n le = pick (nat_le k n) refl
  where
    pick : (b : Bool) → nat_le k n ≡ b → bit b ≡ 0
    pick true e = let f : k ≤ n = leb-true k n e in absurd (omega arith)
    pick false e = refl

small : (b : Bool) → bit b ≤ 1
small true = omega arith
small false = omega arith

among : (r : ForeignId) (g : Setting) (s : State) → Way g r [] s → IsAmongRequests s r
among r g s w = record {
  on_its_way = λ d call t.
      let a : 1 ≤ calls_naming d call r s.requests + 0 = w.parts.known.named.way d call t in
      let b : (calls_naming true call r s.requests + 0) + (calls_naming false call r s.requests + 0) ≤ bit (nat_le call s.groups_made) = w.parts.known.named.numbers call in
      let c : bit (nat_le call s.groups_made) ≤ 1 = small (nat_le call s.groups_made) in
      let e : calls_naming d call r s.requests ≤ calls_naming true call r s.requests + calls_naming false call r s.requests = Rattle.sp_laws.proofs.PointerLemmas.one-of-two (λ x y. calls_naming x y r s.requests) d call in omega arith;
  once = λ call.
      let b : (calls_naming true call r s.requests + 0) + (calls_naming false call r s.requests + 0) ≤ bit (nat_le call s.groups_made) = w.parts.known.named.numbers call in
      let c : bit (nat_le call s.groups_made) ≤ 1 = small (nat_le call s.groups_made) in omega arith;
  given = λ call le.
      let b : (calls_naming true call r s.requests + 0) + (calls_naming false call r s.requests + 0) ≤ bit (nat_le call s.groups_made) = w.parts.known.named.numbers call in
      let c : bit (nat_le call s.groups_made) ≡ 0 = low call s.groups_made le in omega arith;
  others = λ d call le. w.parts.known.named.out d call (omega arith);
}

pub calls_on_their_way_are_requests : CallsOnTheirWayAreRequests
calls_on_their_way_are_requests g h r = among r g (Space.state_of g h) (ways-of g r h)

pub calls_are_made_when_due : CallsAreMadeWhenDue
calls_are_made_when_due g h r = (ways-of g r h).parts.known.named.due

counted : (k : ℕ) (rs : List Request) → calls_under k rs ≡ under k rs
counted k [] = refl
counted k (q ∷ rs) = pick (is_out_under k q) (counted k rs)
  where
    pick : (b : Bool) → calls_under k rs ≡ under k rs → length (cond b (q ∷ filter (is_out_under k) rs) (filter (is_out_under k) rs)) ≡ bit b + under k rs
    pick true e = let a : length (filter (is_out_under k) rs) ≡ under k rs = e in omega arith
    pick false e = let a : length (filter (is_out_under k) rs) ≡ under k rs = e in omega arith

some-reference : ForeignId
some-reference = record { space = []; id = record { 0 = 0 } }

sequences : (g : Setting) (s : State) → Way g some-reference [] s → HasFreshSequences s
sequences g s w = record {
  once = λ k. let a : under k s.requests ≤ given k (numbers_of s.leases) = w.parts.numbered k in let b : given k (numbers_of s.leases) ≤ 1 = small (nat_le 1 k && nat_le k (numbers_of s.leases)) in let c : calls_under k s.requests ≡ under k s.requests = counted k s.requests in omega arith;
  from_one = let a : under 0 s.requests ≤ 0 = w.parts.numbered 0 in let c : calls_under 0 s.requests ≡ under 0 s.requests = counted 0 s.requests in omega arith;
  given = λ k le. let a : under k s.requests ≤ given k (numbers_of s.leases) = w.parts.numbered k in let b : given k (numbers_of s.leases) ≡ 0 = high (nat_le k (numbers_of s.leases)) (nat_le 1 k) (low k (numbers_of s.leases) le) in let c : calls_under k s.requests ≡ under k s.requests = counted k s.requests in omega arith;
}
  where
    high : (x b : Bool) → bit x ≡ 0 → bit (b && x) ≡ 0
    high x true e = e
    high x false e = refl

pub sequence_numbers_are_fresh : SequenceNumbersAreFresh
sequence_numbers_are_fresh g h = sequences g (Space.state_of g h) (ways-of g some-reference h)
