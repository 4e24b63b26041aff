-- Each rule of a space keeps its lines: one connection to a peer, and what waits, waits for a Hello that is to come.
use mathlib.Core.Path.{sym, ap, subst, ◌∙◌}
use Rattle.std.proofs.Common.{inl, inr}
use Rattle.std.proofs.lemmas.Bool.{true≢false, eq-eqb}
use Rattle.std.specs.List.{list_any}
use Rattle.std.specs.Prelude.{◌≡◌, refl, ℕ, ◌+◌, ◌==◌, ◌&&◌, ◌||◌, not, nat_le, is_some, Bool, true, false, List, [], ◌∷◌, ◌++◌, Option, None, Some, find, if◌then◌else◌, nat_lt, is_none, Result, Ok, Err, filter}
use Rattle.std.specs.Str.{bytes_eq}
use Rattle.space_ids.specs.declared.ids.ClassId.{ClassId}
use Rattle.dgc_client.specs.History as lease_events
use Rattle.dgc_client.specs.Lease as lease
use Rattle.dgc_client.specs.Table as client
use Rattle.dgc_client.specs.declared.groups.Group.{Group}
use Rattle.dgc_client.specs.declared.lease.Due.TheVariants as due
use Rattle.dgc_client.specs.declared.lease.Due.{Due}
use Rattle.space_ids.specs.declared.ids.ForeignId.{ForeignId}
use Rattle.net_message.specs.declared.message.Message.TheVariants as message
use Rattle.net_message.specs.declared.message.Message.{Message}
use Rattle.sp_registry.specs.Bindings as registry
use Rattle.sp_registry.specs.Names.{is_name}
use Rattle.sp_registry.specs.declared.fault.RegistryFault.{RegistryFault}
use Rattle.sp_registry.specs.declared.registry.Binding.{Binding}
use Rattle.uuid.specs.declared.Uuid.{Uuid}
use Rattle.space_ids.specs.declared.ids.ObjId.{ObjId}
use Rattle.space_ids.specs.declared.ids.Ref.{Ref}
use Rattle.space_ids.specs.declared.value.Value.TheVariants as values
use Rattle.space_ids.specs.declared.value.Value.{Value}
use Rattle.sp_rules.proofs.AllLemmas.{some-none, or-right, all-weaken, all-filter, all-map, all-more, all-both-filter, none-found, found-is}
use Rattle.sp_rules.proofs.OwnLemmas.{unrefused, some-same}
use Rattle.sp_rules.specs.Behaviours.{Outcome, Returned, Threw, Spent, Op, Create, Get, Put, Call, Reply, Throws}
use Rattle.sp_rules.specs.Classes.{Setting, fit_kinds}
use Rattle.sp_rules.specs.Endings
use Rattle.sp_rules.specs.Events.{Started, Ended, Dial, Ready, Note, Says, Sends, Turn, output_of, Event, Moment, Sweep, Root, RootAck, Bind, Rebind, Unbind, Lookup, Opened, Refused, Received, Closed, ReadFailed, Bad, WriteFailed, Committed, Parked, GivenBack, Finished, Output, Withdrawn, Denied, Send, Close, in_order, ranks}
use Rattle.sp_rules.specs.Frames
use Rattle.sp_rules.specs.Holders
use Rattle.sp_rules.specs.Holders.{hold_ids, drop_ids}
use Rattle.sp_rules.specs.Laws.{AllOf}
use Rattle.sp_rules.specs.Lines.{dialled_to, IsAlone, AreDialledOnce, WaitsForHello, HasLines, LinesWaitForHellos}
use Rattle.sp_rules.specs.Lists.{each, with_some}
use Rattle.sp_rules.specs.LivingTasks
use Rattle.sp_rules.specs.Origins.{IsTaken}
use Rattle.sp_rules.specs.OwnEvents
use Rattle.sp_rules.specs.ParkedFrames
use Rattle.sp_rules.specs.References.{references_of}
use Rattle.sp_rules.specs.Refusals
use Rattle.sp_rules.specs.Refusals.{result_of, Check, first_refusal, checks, refusal}
use Rattle.sp_rules.specs.Requests
use Rattle.sp_rules.specs.Space
use Rattle.sp_rules.specs.State as state
use Rattle.sp_rules.specs.State.{State, Object, Stored, Made, Written, Gone, Living, Origin, OfRoot, OfCall, Until, Request, Asked, Calls, LooksUp, Tells, Stage, Connection, KeptResult, Frame, CallFrame, ReturnedFrame, ParkedFrame, standing, last_written, task_at, ready_at, object_at, connection_at, connection_to, is_open, set_task, set_connection, say, send, tell_owner, is_to, opening}
use Rattle.sp_rules.specs.Tasks.{Stand, Runs, AsksFor, HasEnded, stand, steps}
use Rattle.sp_rules.proofs.LineLemmas.{AreNumbered, Lines, none, quiet, if_lines, some_lines, each_lines, send_lines, hold_lines, drop_lines, one-peer, other-way, any-more, any-last, or-none, once-more, once-filter, any-others, To, none-of, to-more, to-last, none-to, filter-none, dialled-filter, numbers-filter, gone-others, gone-peer, IsRow, row-none, row-some, row-hello, row-dialled, row-numbers, row_lines}

-- ---- requests

add_lines : {g : Setting} {skip : Request → Bool} {s : State} (r : Request) → Requests.is_waiting r.stage ≡ false → Lines g skip s → Lines g skip (Requests.add_request r s)
add_lines {g} {skip} {s} r e h = record {
  parts = record {
    numbers = h.parts.numbers;
    connections = h.parts.connections;
    dialling = h.parts.dialling;
    apart = h.parts.apart;
    waiting = all-more (λ q. skip q ≡ false → WaitsForHello s.connections s.dialling q) s.requests r h.parts.waiting (λ out waits. absurd (true≢false (sym waits ∙ e)));
  };
}

now_requests : {g : Setting} {skip skip' : Request → Bool} {s : State} (rs : List Request) → AllOf (λ q. skip' q ≡ false → WaitsForHello s.connections s.dialling q) rs → Lines g skip s → Lines g skip' (record s { requests = rs })
now_requests rs a h = record { parts = record { numbers = h.parts.numbers; connections = h.parts.connections; dialling = h.parts.dialling; apart = h.parts.apart; waiting = a } }

fewer_lines : {g : Setting} {skip : Request → Bool} {s : State} (is : Request → Bool) → Lines g skip s → Lines g skip (record s { requests = filter is s.requests })
fewer_lines {g} {skip} {s} is h = now_requests _ (all-filter (λ q. skip q ≡ false → WaitsForHello s.connections s.dialling q) is s.requests h.parts.waiting) h

part_lines : {g : Setting} {skip : Request → Bool} {s : State} (turn : Turn) (conn call : ℕ) (part : Group) → Lines g skip s → Lines g skip (Requests.part_goes_out turn conn call s part)
unfolding Requests.part_goes_out
part_lines {s = s} turn conn call part h = send_lines turn conn _ (add_lines _ refl (quiet (record s { leases = client.sent part call s.leases }) refl h))

go_out_lines : {g : Setting} {skip : Request → Bool} {s : State} (turn : Turn) (conn : ℕ) (r : Request) → Lines g skip s → Lines g skip (Requests.go_out turn conn r s)
unfolding Requests.go_out
go_out_lines {g} {skip} {s = s} turn conn r h = goes r.asked
  where
    goes : (asked : Asked) → Lines g skip (Requests.goes_out turn conn r.peer asked s)
    goes (Calls number task lent kind m) = send_lines turn conn m (add_lines _ refl h)
    goes (LooksUp number task name) = send_lines turn conn _ (add_lines _ refl h)
    goes (Tells call group) = each_lines _ _ (λ t part k. part_lines turn conn call part k) h

-- what is asked of a peer whose Hello has not come waits, and the peer is dialled
dial_lines : {g : Setting} {skip : Request → Bool} {s : State} (r : Request) → Requests.hello_came (connection_to s r.peer) ≡ None → Lines g skip s → Lines g skip (Requests.dial r.peer (Requests.add_request r s))
unfolding Requests.dial
dial_lines {g} {skip} {s} r hello h = pick (is_some (connection_to s r.peer) || state.is_dialling s r.peer) refl
  where
    new : State
    new = record s { dialling = s.dialling ++ r.peer ∷ []; requests = s.requests ++ r ∷ [] }

    more : (b : Bool) (q : Uuid) → b || list_any (bytes_eq q) s.dialling ≡ true → b || list_any (bytes_eq q) (s.dialling ++ r.peer ∷ []) ≡ true
    more true q e = refl
    more false q e = any-more q s.dialling r.peer e

    dials : (is_some (connection_to s r.peer) ≡ false) × (state.is_dialling s r.peer ≡ false) → Lines g skip new
    dials e = record {
      parts = record {
        numbers = h.parts.numbers;
        connections = h.parts.connections;
        dialling = once-more s.dialling r.peer h.parts.dialling e.1;
        apart = all-more (λ peer. dialled_to s.connections peer ≡ None) s.dialling r.peer h.parts.apart (none-of (connection_to s r.peer) e.0);
        waiting = all-more (λ q. skip q ≡ false → WaitsForHello s.connections (s.dialling ++ r.peer ∷ []) q) s.requests r
            (all-weaken (λ q. skip q ≡ false → WaitsForHello s.connections s.dialling q) (λ q. skip q ≡ false → WaitsForHello s.connections (s.dialling ++ r.peer ∷ []) q) s.requests
            (λ q w out waits. let x = w out waits in (more (is_some (dialled_to s.connections q.peer)) q.peer x.0, x.1)) h.parts.waiting)
            (λ out waits. (or-right (is_some (dialled_to s.connections r.peer)) _ (any-last r.peer s.dialling), hello));
      };
    }

    waits-on : is_some (connection_to s r.peer) || state.is_dialling s r.peer ≡ true → Lines g skip (record s { requests = s.requests ++ r ∷ [] })
    waits-on e = now_requests _ (all-more (λ q. skip q ≡ false → WaitsForHello s.connections s.dialling q) s.requests r h.parts.waiting (λ out waits. (e, hello))) h

    pick : (b : Bool) → is_some (connection_to s r.peer) || state.is_dialling s r.peer ≡ b → Lines g skip (if b then Requests.add_request r s else say (Dial r.peer) (record (Requests.add_request r s) { dialling = s.dialling ++ r.peer ∷ [] }))
    pick true e = waits-on e
    pick false e = quiet _ refl (dials (or-none (is_some (connection_to s r.peer)) (state.is_dialling s r.peer) e))

ask_lines : {g : Setting} {skip : Request → Bool} {s : State} (r : Request) → Lines g skip s → Lines g skip (Requests.ask s r)
unfolding Requests.ask
ask_lines {g} {skip} {s = s} r h = pick (Requests.hello_came (connection_to s r.peer)) refl
  where
    pick : (o : Option ℕ) → Requests.hello_came (connection_to s r.peer) ≡ o → Lines g skip (with_some o (Requests.dial r.peer (Requests.add_request r s)) (λ conn. Requests.go_out (Requests.turn_asked r.asked) conn r s))
    pick None e = dial_lines r e h
    pick (Some conn) e = go_out_lines _ conn r h

make_group_lines : {g : Setting} {skip : Request → Bool} {s : State} (b : Group) → Lines g skip s → Lines g skip (Requests.make_group s b)
unfolding Requests.make_group
make_group_lines {s = s} b h = ask_lines _ (quiet (record s { groups_made = s.groups_made + 1; leases = client.made b (s.groups_made + 1) s.leases }) refl h)

settle_lines : {g : Setting} {skip : Request → Bool} {s : State} → Lines g skip s → Lines g skip (Requests.settle s)
unfolding Requests.settle Requests.make_due Requests.ask_fresh
settle_lines {g} {skip} {s = s} h = asks (Requests.make_due s) (each_lines _ _ (λ t b k. make_group_lines b k) h)
  where
    asks : (t : State) → Lines g skip t → Lines g skip (each Requests.ask t.fresh (record t { fresh = [] }))
    asks t k = each_lines _ _ (λ u r j. ask_lines r j) (quiet _ refl k)

-- ---- tasks

add_task_lines : {g : Setting} {skip : Request → Bool} {s : State} (origin : Origin) (method : ℕ) (arguments : List Value) (fuel : ℕ) → Lines g skip s → Lines g skip (LivingTasks.add_task g origin method arguments fuel s)
unfolding LivingTasks.add_task
add_task_lines origin method arguments fuel h = quiet _ refl (hold_lines _ (quiet _ refl h))

keep_lines : {g : Setting} {skip : Request → Bool} {s : State} (until : Until) (value : Option Value) → Lines g skip s → Lines g skip (LivingTasks.keep g until value s)
keep_lines until value h = hold_lines _ (quiet _ refl h)

keep_result_lines : {g : Setting} {skip : Request → Bool} {s : State} (until : Until) (outcome : Outcome) → Lines g skip s → Lines g skip (LivingTasks.keep_result g until outcome s)
keep_result_lines until (Returned value) h = keep_lines until value h
keep_result_lines until (Threw class) h = h
keep_result_lines until Spent h = h

report_lines : {g : Setting} {skip : Request → Bool} {s : State} (origin : Origin) (id fuel : ℕ) (outcome : Outcome) → Lines g skip s → Lines g skip (LivingTasks.report g origin id fuel outcome s)
report_lines OfRoot id fuel outcome h = keep_result_lines _ outcome h
report_lines {s = s} (OfCall conn number) id fuel outcome h = if_lines (is_open s conn) (send_lines _ conn _ (keep_result_lines _ outcome h)) h

end_with_lines : {g : Setting} {skip : Request → Bool} {s : State} (id : ℕ) (t : Living) (outcome : Outcome) → Lines g skip s → Lines g skip (LivingTasks.end_with g id t outcome s)
end_with_lines id t outcome h = drop_lines _ (report_lines t.origin id t.task.fuel outcome (quiet _ refl h))

reply_task_lines : {g : Setting} {skip : Request → Bool} {s : State} (id : ℕ) (reply : Reply) → Lines g skip s → Lines g skip (LivingTasks.reply_task g id reply s)
unfolding LivingTasks.reply_task
reply_task_lines {s = s} id reply h = some_lines (task_at s id) _ h (λ t is. quiet _ refl (hold_lines _ (quiet _ refl h)))

reply_to_lines : {g : Setting} {skip : Request → Bool} {s : State} (asked : Asked) (reply : Reply) → Lines g skip s → Lines g skip (LivingTasks.reply_to g asked reply s)
unfolding LivingTasks.reply_to
reply_to_lines (Calls number task lent kind m) reply h = reply_task_lines task reply h
reply_to_lines (LooksUp number task name) reply h = keep_result_lines (state.RootAcked task) (LivingTasks.outcome_of reply) (quiet _ refl h)
reply_to_lines (Tells call group) reply h = h

after_op_lines : {g : Setting} {skip : Request → Bool} {s : State} (op : Op) → Lines g skip s → Lines g skip (LivingTasks.after_op g op s)
unfolding LivingTasks.after_op
after_op_lines {s = s} (Create class) h = if_lines (LivingTasks.is_full s) h (quiet _ refl h)
after_op_lines (Get id slot) h = h
after_op_lines (Put id slot value) h = drop_lines _ (hold_lines _ (quiet _ refl h))
after_op_lines (Call target method arguments) h = h

commit_lines : {g : Setting} {skip : Request → Bool} {s : State} (id k : ℕ) (op : Op) → Lines g skip s → Lines g skip (LivingTasks.commit g id k op s)
unfolding LivingTasks.commit
commit_lines {s = s} id k op h = some_lines (ready_at s id) _ h (λ t is. after_op_lines op (hold_lines _ (quiet _ refl h)))

park_lines : {g : Setting} {skip : Request → Bool} {s : State} (id k : ℕ) → Lines g skip s → Lines g skip (LivingTasks.park_call g id k s)
unfolding LivingTasks.park_call
park_lines {g} {skip} {s = s} id k h = some_lines (ready_at s id) _ h (λ t is. at t (stand (steps k t.task)))
  where
    parks : (t : Living) (op : Op) → Lines g skip (LivingTasks.park_op g id k t op s)
    parks t (Create class) = h
    parks t (Get o slot) = h
    parks t (Put o slot value) = h
    parks t (Call target method arguments) = quiet _ refl h

    at : (t : Living) (stands : Stand) → Lines g skip (LivingTasks.park_at g id k t stands s)
    at t Runs = h
    at t (AsksFor op) = parks t op
    at t (HasEnded outcome) = h

give_back_lines : {g : Setting} {skip : Request → Bool} {s : State} (id k : ℕ) → Lines g skip s → Lines g skip (LivingTasks.give_back id k s)
unfolding LivingTasks.give_back
give_back_lines {s = s} id k h = some_lines (ready_at s id) _ h (λ t is. quiet _ refl h)

finish_lines : {g : Setting} {skip : Request → Bool} {s : State} (id k : ℕ) → Lines g skip s → Lines g skip (LivingTasks.finish_task g id k s)
unfolding LivingTasks.finish_task
finish_lines {g} {skip} {s = s} id k h = some_lines (ready_at s id) _ h (λ t is. at (LivingTasks.after_steps k t) (stand (steps k t.task)))
  where
    at : (t : Living) (stands : Stand) → Lines g skip (LivingTasks.end_at g id t stands s)
    at t Runs = h
    at t (AsksFor op) = h
    at t (HasEnded outcome) = end_with_lines {g = g} id t outcome h

-- ---- parked frames

start_call_lines : {g : Setting} {skip : Request → Bool} {s : State} (p : ParkedFrame) (target : ObjId) (method fuel : ℕ) (arguments : List Value) → Lines g skip s → Lines g skip (ParkedFrames.start_call g p target method fuel arguments s)
unfolding ParkedFrames.start_call
start_call_lines {g} {skip} {s = s} p target method fuel arguments h = some_lines (object_at s target) _ h (λ o is. selected (record { space = g.id; id = target; class = o.class }) (g.classes.selected o.class method))
  where
    selected : (receiver : Ref) (found : Option ℕ) → Lines g skip (ParkedFrames.start_selected g p.conn p.number receiver found fuel arguments s)
    selected receiver None = send_lines _ p.conn _ h
    selected receiver (Some m) = add_task_lines _ m _ fuel h

answer_parked_lines : {g : Setting} {skip : Request → Bool} {s : State} (p : ParkedFrame) (reply : Reply) → Lines g skip s → Lines g skip (ParkedFrames.answer_parked g p reply s)
unfolding ParkedFrames.answer_parked
answer_parked_lines {s = s} p reply h = some_lines (find (ParkedFrames.is_call_on p.conn p.number) s.requests) _ h (λ r is. reply_to_lines r.asked reply (send_lines _ p.conn _ (fewer_lines _ h)))

let_go_lines : {g : Setting} {skip : Request → Bool} {s : State} (p : ParkedFrame) (parked : List ParkedFrame) → Lines g skip s → Lines g skip (ParkedFrames.let_go_parked p parked s)
let_go_lines p parked h = each_lines _ (filter (ParkedFrames.is_parked_at p.conn p.number) parked) (λ t q k. drop_lines q.references k) h

go_lines : {g : Setting} {skip : Request → Bool} {s : State} (p : ParkedFrame) → Lines g skip s → Lines g skip (ParkedFrames.go g s p)
unfolding ParkedFrames.go
go_lines {g} {skip} {s = s} p h = some_lines (find (ParkedFrames.is_parked_at p.conn p.number) s.parked) _ h (λ q is. let_go_lines p s.parked (frame q q.frame (quiet _ refl h)))
  where
    frame : (q : ParkedFrame) (f : Frame) {t : State} → Lines g skip t → Lines g skip (ParkedFrames.go_frame g q f t)
    frame q (CallFrame target method fuel arguments) k = start_call_lines q target method fuel arguments k
    frame q (ReturnedFrame value fuel) k = answer_parked_lines q _ k

go_all_lines : {g : Setting} {skip : Request → Bool} {s : State} → Lines g skip s → Lines g skip (ParkedFrames.go_all g s)
unfolding ParkedFrames.go_all
go_all_lines h = each_lines _ _ (λ t p k. go_lines p k) h

park_frame_lines : {g : Setting} {skip : Request → Bool} {s : State} (conn number : ℕ) (f : Frame) (references : List ForeignId) → Lines g skip s → Lines g skip (ParkedFrames.park_frame g conn number f references s)
unfolding ParkedFrames.park_frame
park_frame_lines conn number f references h = go_all_lines (hold_lines references (quiet _ refl h))

fail_parked_lines : {g : Setting} {skip : Request → Bool} {s : State} (p : ParkedFrame) → Lines g skip s → Lines g skip (ParkedFrames.fail_parked g s p)
unfolding ParkedFrames.fail_parked
fail_parked_lines {g} {skip} {s = s} p h = frame p.frame (let_go_lines p s.parked (quiet _ refl h))
  where
    frame : (f : Frame) {t : State} → Lines g skip t → Lines g skip (ParkedFrames.fail_frame g p f t)
    frame (CallFrame target method fuel arguments) k = send_lines _ p.conn _ k
    frame (ReturnedFrame value fuel) k = answer_parked_lines p (Throws g.classes.unmarshal) k

-- ---- endings

fail_dirty_lines : {g : Setting} {skip : Request → Bool} {s : State} (call : ℕ) (id : ForeignId) → Lines g skip s → Lines g skip (Endings.fail_dirty g call s id)
unfolding Endings.fail_dirty
fail_dirty_lines {s = s} call id h = if_lines (lease.is_made (Holders.lease_now s id).dirty call && is_none (Holders.lease_now s id).lease)
    (each_lines _ (filter (ParkedFrames.names id) s.parked) (λ t p k. fail_parked_lines p k) (quiet _ refl h)) (quiet _ refl h)

fail_group_lines : {g : Setting} {skip : Request → Bool} {s : State} (kind : Due) (b : Group) (call : ℕ) → Lines g skip s → Lines g skip (Endings.fail_group g kind b call s)
fail_group_lines due.Dirty b call h = each_lines _ _ (λ t x k. fail_dirty_lines call x k) h
fail_group_lines (due.Clean strong) b call h = each_lines _ _ (λ t x k. quiet _ refl k) h

end_asked_lines : {g : Setting} {skip : Request → Bool} {s : State} (class : ClassId) (asked : Asked) → Lines g skip s → Lines g skip (Endings.end_asked g class asked s)
end_asked_lines class (Calls number task lent kind m) h = reply_to_lines (Calls number task lent kind m) (Throws class) h
end_asked_lines class (LooksUp number task name) h = reply_to_lines (LooksUp number task name) (Throws class) h
end_asked_lines class (Tells call group) h = fail_group_lines group.kind group call h

not-is-true : (b : Bool) → not b ≡ true → b ≡ false
not-is-true true e = absurd (true≢false (sym e))
not-is-true false e = refl

-- requests that end leave the lines
end_requests_lines : {g : Setting} {s : State} (is : Request → Bool) (why : Asked → ClassId) → Lines g is s → Lines g none (Endings.end_requests g is why s)
unfolding Endings.end_requests
end_requests_lines {s = s} is why h =
    each_lines _ _ (λ t q k. end_asked_lines (why q.asked) q.asked k)
    (each_lines _ _ (λ t q k. end_asked_lines (why q.asked) q.asked k) (now_requests _ (all-weaken (λ q. (is q ≡ false → WaitsForHello s.connections s.dialling q) × (not (is q) ≡ true)) (λ q. none q ≡ false → WaitsForHello s.connections s.dialling q) _ (λ q w out. w.0 (not-is-true (is q) w.1))
    (all-both-filter (λ q. is q ≡ false → WaitsForHello s.connections s.dialling q) (λ r. not (is r)) s.requests h.parts.waiting)) h))

-- a waiting request that does not end with a connection waits for another peer
waits-elsewhere : (conn : ℕ) (dialled : Option Uuid) (r : Request) → Endings.is_of_connection conn dialled r ≡ false → Requests.is_waiting r.stage ≡ true → is_to r.peer dialled ≡ false
waits-elsewhere conn None r e waits = refl
waits-elsewhere conn (Some peer) r e waits = other-way r.peer peer (pick (bytes_eq r.peer peer) (Requests.is_waiting r.stage) waits (or-none (ParkedFrames.is_out_on conn r.stage) _ e).1)
  where
    pick : (a b : Bool) → b ≡ true → a && b ≡ false → a ≡ false
    pick true true t f = f
    pick true false t f = absurd (true≢false (sym t))
    pick false b t f = refl

-- a connection goes, and leaves what was asked of its peer without a line
let_connection_go_lines : {g : Setting} {s : State} (conn : ℕ) (c : Connection) → connection_at s conn ≡ Some c → Lines g none s → Lines g (Endings.is_of_connection conn c.dialled) (Endings.let_connection_go conn s)
let_connection_go_lines {g} {s} conn c is h = each_lines _ _ (λ t p k. let_go_lines p t.parked (quiet _ refl k)) without
  where
    without : Lines g (Endings.is_of_connection conn c.dialled) (Endings.without_connection conn s)
    without = record {
      parts = record {
        numbers = numbers-filter (λ (d : Connection). not (d.number == conn)) s.connections h.parts.numbers;
        connections = dialled-filter (λ (d : Connection). not (d.number == conn)) s.connections h.parts.connections;
        dialling = h.parts.dialling;
        apart = all-weaken (λ peer. dialled_to s.connections peer ≡ None) (λ peer. dialled_to (filter (λ (d : Connection). not (d.number == conn)) s.connections) peer ≡ None) s.dialling (λ peer e. filter-none (λ (d : Connection). not (d.number == conn)) s.connections peer e) h.parts.apart;
        waiting = all-weaken (λ q. none q ≡ false → WaitsForHello s.connections s.dialling q) (λ q. Endings.is_of_connection conn c.dialled q ≡ false → WaitsForHello (filter (λ (d : Connection). not (d.number == conn)) s.connections) s.dialling q) s.requests
            (λ q w out waits. let x = w refl waits in let e : dialled_to (filter (λ (d : Connection). not (d.number == conn)) s.connections) q.peer ≡ dialled_to s.connections q.peer = gone-others conn s.connections c q.peer h.parts.numbers is (waits-elsewhere conn c.dialled q out waits) in
            (ap (λ o. is_some o || list_any (bytes_eq q.peer) s.dialling) e ∙ x.0, ap Requests.hello_came e ∙ x.1)) h.parts.waiting;
      };
    }

end_connection_lines : {g : Setting} {s : State} (why : Asked → ClassId) (conn : ℕ) → Lines g none s → Lines g none (Endings.end_connection g why conn s)
unfolding Endings.end_connection
end_connection_lines {s = s} why conn h = some_lines (connection_at s conn) _ h (λ c is. end_requests_lines (Endings.is_of_connection conn c.dialled) why (let_connection_go_lines conn c is h))

close_lines : {g : Setting} {s : State} (class : ClassId) (conn : ℕ) → Lines g none s → Lines g none (Endings.close g class conn s)
unfolding Endings.close
close_lines class conn h = quiet _ refl (end_connection_lines _ conn h)

-- ---- a peer is dialled again

each-connections : {A : Type 0} (f : State → A → State) (xs : List A) (s : State) → ((t : State) (x : A) → (f t x).connections ≡ t.connections) → (each f xs s).connections ≡ s.connections
unfolding each
each-connections f [] s k = refl
each-connections f (x ∷ xs) s k = each-connections f xs (f s x) k ∙ k s x

drop-connections : (ids : List ForeignId) (s : State) → (drop_ids ids s).connections ≡ s.connections
unfolding drop_ids
drop-connections ids s = each-connections Holders.holder_goes ids s (λ t x. refl)

-- a connection goes, and no other
pub left-connections : (conn : ℕ) (s : State) → (Endings.let_connection_go conn s).connections ≡ filter (λ (d : Connection). not (d.number == conn)) s.connections
left-connections conn s = each-connections Endings.unpark (filter (λ (p : ParkedFrame). p.conn == conn) s.parked) (Endings.without_connection conn s) (λ t p.
    each-connections (λ u (q : ParkedFrame). drop_ids q.references u) (filter (ParkedFrames.is_parked_at p.conn p.number) t.parked) (ParkedFrames.take_parked p t) (λ u q. drop-connections q.references u))

-- What waits of a connection that goes, waits for its peer.
theirs-wait : (conn : ℕ) (peer : Uuid) (r : Request) → Endings.is_of_connection conn (Some peer) r ≡ true → Requests.is_waiting r.stage ≡ true → bytes_eq r.peer peer ≡ true
theirs-wait conn peer r = by r.stage (bytes_eq r.peer peer)
  where
    by : (at : Stage) (b : Bool) → ParkedFrames.is_out_on conn at || (b && Requests.is_waiting at) ≡ true → Requests.is_waiting at ≡ true → b ≡ true
    by state.Waits true e w = refl
    by state.Waits false e w = e
    by (state.Out n sequence) b e w = absurd (true≢false (sym w))
    by (state.Answered n) b e w = absurd (true≢false (sym w))

-- A peer is dialled to which no connection is open. All that had no line waits for it.
dials_lines : {g : Setting} {skip : Request → Bool} {s : State} (peer : Uuid) → connection_to s peer ≡ None → ((q : Request) → skip q ≡ true → Requests.is_waiting q.stage ≡ true → bytes_eq q.peer peer ≡ true)
    → Lines g skip s → Lines g none (Requests.dial peer s)
unfolding Requests.dial
dials_lines {g} {skip} {s} peer gone theirs h = pick (is_some (connection_to s peer) || state.is_dialling s peer) refl
  where
    new : State
    new = record s { dialling = s.dialling ++ peer ∷ [] }

    waits-for : (ps : List Uuid) → is_some (connection_to s peer) || list_any (bytes_eq peer) ps ≡ true
        → ((q : Request) → is_some (dialled_to s.connections q.peer) || list_any (bytes_eq q.peer) s.dialling ≡ true → is_some (dialled_to s.connections q.peer) || list_any (bytes_eq q.peer) ps ≡ true)
        → (q : Request) → (skip q ≡ false → WaitsForHello s.connections s.dialling q) → (b : Bool) → skip q ≡ b → WaitsForHello s.connections ps q
    waits-for ps there more q w true e waits =
        subst (λ p. ((is_some (dialled_to s.connections p) || list_any (bytes_eq p) ps) ≡ true) × (Requests.hello_came (dialled_to s.connections p) ≡ None)) (sym (one-peer q.peer peer (theirs q e waits)))
        (there, ap Requests.hello_came gone)
    waits-for ps there more q w false e waits = let x = w e waits in (more q x.0, x.1)

    waiting : (ps : List Uuid) → is_some (connection_to s peer) || list_any (bytes_eq peer) ps ≡ true
        → ((q : Request) → is_some (dialled_to s.connections q.peer) || list_any (bytes_eq q.peer) s.dialling ≡ true → is_some (dialled_to s.connections q.peer) || list_any (bytes_eq q.peer) ps ≡ true)
        → AllOf (λ q. none q ≡ false → WaitsForHello s.connections ps q) s.requests
    waiting ps there more = all-weaken (λ q. skip q ≡ false → WaitsForHello s.connections s.dialling q) (λ q. none q ≡ false → WaitsForHello s.connections ps q) s.requests
        (λ q w out. waits-for ps there more q w (skip q) refl) h.parts.waiting

    more : (b : Bool) (q : Uuid) → b || list_any (bytes_eq q) s.dialling ≡ true → b || list_any (bytes_eq q) (s.dialling ++ peer ∷ []) ≡ true
    more true q e = refl
    more false q e = any-more q s.dialling peer e

    dials : (is_some (connection_to s peer) ≡ false) × (state.is_dialling s peer ≡ false) → Lines g none new
    dials e = record {
      parts = record {
        numbers = h.parts.numbers;
        connections = h.parts.connections;
        dialling = once-more s.dialling peer h.parts.dialling e.1;
        apart = all-more (λ p. dialled_to s.connections p ≡ None) s.dialling peer h.parts.apart gone;
        waiting = waiting (s.dialling ++ peer ∷ []) (or-right (is_some (connection_to s peer)) _ (any-last peer s.dialling)) (λ q f. more (is_some (dialled_to s.connections q.peer)) q.peer f);
      };
    }

    pick : (b : Bool) → is_some (connection_to s peer) || state.is_dialling s peer ≡ b → Lines g none (if b then s else say (Dial peer) new)
    pick true e = record { parts = record { numbers = h.parts.numbers; connections = h.parts.connections; dialling = h.parts.dialling; apart = h.parts.apart; waiting = waiting s.dialling e (λ q f. f) } }
    pick false e = quiet _ refl (dials (or-none (is_some (connection_to s peer)) (state.is_dialling s peer) e))

redial_lines : {g : Setting} {s : State} (peer : Uuid) (c : Connection) → connection_at s c.number ≡ Some c → c.dialled ≡ Some peer → Lines g none s → Lines g none (Endings.redial peer c.number s)
unfolding Endings.redial
redial_lines {g} {s} peer c is e h =
    dials_lines {skip = Endings.is_of_connection c.number c.dialled} {s = say (Rattle.sp_rules.specs.Events.Close c.number) (Endings.let_connection_go c.number (Endings.note_peer peer s))} peer
    (ap (λ cs. dialled_to cs peer) (left-connections c.number (Endings.note_peer peer s)) ∙ gone-peer c.number s.connections c peer h.parts.connections is e)
    (λ q of waits. theirs-wait c.number peer q (ap (λ o. Endings.is_of_connection c.number o q) (sym e) ∙ of) waits)
    (quiet _ refl (let_connection_go_lines {s = Endings.note_peer peer s} c.number c is (quiet _ refl h)))

-- ---- frames that come

counts-row : (number : ℕ) → IsRow (λ (c : Connection). record c { last = number })
counts-row number = record { number = λ c. refl; dialled = λ c. refl }

counted_lines : {g : Setting} {s : State} (conn number : ℕ) → Lines g none s → Lines g none (Frames.counted conn number s)
counted_lines conn number h = row_lines conn _ (counts-row number) (λ q c e. inr refl) h

versions-row : (version : ℕ) → IsRow (λ (c : Connection). record c { version = version })
versions-row version = record { number = λ c. refl; dialled = λ c. refl }

say_hello_lines : {g : Setting} {skip : Request → Bool} {s : State} (version conn : ℕ) → Lines g skip s → Lines g skip (Frames.say_hello g version conn s)
say_hello_lines {g} version conn h = row_lines conn _ (versions-row version) (λ q c e. inr refl) (send_lines Rattle.sp_rules.specs.Events.Hellos conn (message.Hello version g.id g.digest) h)

greets-row : (space : Uuid) → IsRow (λ (c : Connection). record c { peer = Some space })
greets-row space = record { number = λ c. refl; dialled = λ c. refl }

-- If the Hello came on a connection that a peer dialled, no line is of it. If it came of a peer that was dialled, its line goes out.
greeted_lines : {g : Setting} {s : State} (space : Uuid) (c : Connection) → connection_at s c.number ≡ Some c → c.dialled ≡ None → Lines g none s → Lines g none (Frames.greeted space c.number s)
greeted_lines {g} {s} space c is e h = row_lines c.number _ (greets-row space) (λ q d found. inl (ap (is_to q) (ap (λ (x : Connection). x.dialled) (some-same (sym found ∙ is)) ∙ e))) h

flush_lines : {g : Setting} {s : State} (space peer : Uuid) (c : Connection) → connection_at s c.number ≡ Some c → c.dialled ≡ Some peer → Lines g none s → Lines g none (Requests.flush_waiting peer c.number (Frames.greeted space c.number s))
unfolding Requests.flush_waiting
flush_lines {g} {s} space peer c is e h = each_lines _ _ (λ t r k. go_out_lines _ c.number r k) left
  where
    without : Lines g none (Requests.without_waiting peer s)
    without = fewer_lines (λ r. not (Requests.waits_for peer r)) h

    greet : Connection → Connection
    greet d = record d { peer = Some space }

    at : Connection → Bool
    at d = d.number == c.number

    elsewhere : (r : Request) → not (Requests.waits_for peer r) ≡ true → Requests.is_waiting r.stage ≡ true → bytes_eq r.peer peer ≡ false
    elsewhere r out waits = pick (bytes_eq r.peer peer) (Requests.is_waiting r.stage) waits (not-is-true (Requests.waits_for peer r) out)
      where
        pick : (a b : Bool) → b ≡ true → a && b ≡ false → a ≡ false
        pick true true t f = f
        pick true false t f = absurd (true≢false (sym t))
        pick false b t f = refl

    left : Lines g none (Requests.without_waiting peer (Frames.greeted space c.number s))
    left = record {
      parts = record {
        numbers = row-numbers (λ (d : Connection). d.number == c.number) (λ (d : Connection). record d { peer = Some space }) (greets-row space) s.connections h.parts.numbers;
        connections = row-dialled (λ (d : Connection). d.number == c.number) (λ (d : Connection). record d { peer = Some space }) (greets-row space) s.connections h.parts.connections;
        dialling = h.parts.dialling;
        apart = all-weaken (λ p. dialled_to s.connections p ≡ None) _ s.dialling (λ p f. row-none (λ (d : Connection). d.number == c.number) (λ (d : Connection). record d { peer = Some space }) (greets-row space) s.connections p f) h.parts.apart;
        waiting = all-weaken (λ q. (none q ≡ false → WaitsForHello s.connections s.dialling q) × (not (Requests.waits_for peer q) ≡ true)) _ _
            (λ q w out waits. let x = w.0 refl waits in (
              ap (λ b. b || list_any (bytes_eq q.peer) s.dialling) (row-some (λ (d : Connection). d.number == c.number) (λ (d : Connection). record d { peer = Some space }) (greets-row space) s.connections q.peer) ∙ x.0,
              row-hello (λ (d : Connection). d.number == c.number) (λ (d : Connection). record d { peer = Some space }) (greets-row space) s.connections q.peer
                  (λ d found. inl (ap (is_to q.peer) (ap (λ (y : Connection). y.dialled) (some-same (sym found ∙ is)) ∙ e) ∙ other-way q.peer peer (elsewhere q w.1 waits))) ∙ x.1,
            ))
            (all-both-filter (λ q. none q ≡ false → WaitsForHello s.connections s.dialling q) (λ r. not (Requests.waits_for peer r)) s.requests h.parts.waiting);
      };
    }

first_lines : {g : Setting} {s : State} (c : Connection) (m : Message) → connection_at s c.number ≡ Some c → Lines g none s → Lines g none (Frames.first_frame g c m s)
unfolding Frames.first_frame
first_lines {g} {s} c (message.Hello version space digest) is h = pick c.dialled refl
  where
    pick : (o : Option Uuid) → c.dialled ≡ o
        → Lines g none (with_some o (if bytes_eq digest g.digest && nat_le version g.version then Frames.answer_hello g version c.number (Frames.greeted space c.number s) else Endings.close g g.classes.unmarshal c.number s)
        (λ peer. if bytes_eq digest g.digest && bytes_eq space peer then Frames.answered_hello g c peer version space s else Endings.close g g.classes.connect c.number s))
    pick None e = if_lines (bytes_eq digest g.digest && nat_le version g.version)
        (if_lines (nat_le 2 g.version) (say_hello_lines _ c.number (greeted_lines space c is e h)) (greeted_lines space c is e h)) (close_lines _ c.number h)
    pick (Some peer) e = if_lines (bytes_eq digest g.digest && bytes_eq space peer)
        (if_lines (version == c.version) (flush_lines space peer c is e h) (if_lines (nat_le 2 c.version && version == 1) (redial_lines peer c is e h) (close_lines _ c.number h)))
        (close_lines _ c.number h)
first_lines c (message.Call number object method fuel arguments) is h = close_lines _ c.number h
first_lines c (message.Returned number fuel value) is h = close_lines _ c.number h
first_lines c (message.Threw number class) is h = close_lines _ c.number h
first_lines c (message.Spent number) is h = close_lines _ c.number h
first_lines c (message.Ack number) is h = close_lines _ c.number h
first_lines c (message.Dirty sequence period objects) is h = close_lines _ c.number h
first_lines c (message.Lease sequence period) is h = close_lines _ c.number h
first_lines c (message.Clean sequence strong objects) is h = close_lines _ c.number h
first_lines c (message.Cleaned sequence) is h = close_lines _ c.number h
first_lines c (message.Lookup number name) is h = close_lines _ c.number h

call_of_lines : {g : Setting} {s : State} (conn number : ℕ) (o : Object) (method fuel : ℕ) (arguments : List Value) → Lines g none s → Lines g none (Frames.call_of g conn number o method fuel arguments s)
call_of_lines {g} {s = s} conn number o method fuel arguments h =
    if_lines (not (g.classes.may_call o.class method) || (not (fit_kinds (g.classes.parameters method) arguments) || list_any (Holders.is_refused g s) (references_of arguments))) (send_lines _ conn _ h)
    (if_lines (Frames.is_busy s) (send_lines _ conn _ h) (park_frame_lines conn number (CallFrame o.id method fuel arguments) _ h))

found_lines : {g : Setting} {s : State} (conn number : ℕ) (o : Option Object) → Lines g none s → Lines g none (Frames.found g conn number o s)
found_lines conn number None h = send_lines _ conn _ h
found_lines {g} conn number (Some o) h = send_lines _ conn _ (keep_lines (state.Acked conn number) (Some (values.Ref (record { space = g.id; id = o.id; class = o.class }))) h)

got_call_lines : {g : Setting} {s : State} (c : Connection) (number : ℕ) (target : ObjId) (method fuel : ℕ) (arguments : List Value) → Lines g none s → Lines g none (Frames.got_call g c number target method fuel arguments s)
unfolding Frames.got_call
got_call_lines {g} {s} c number target method fuel arguments h = if_lines (nat_le number c.last) (close_lines _ c.number h) (on (object_at s target))
  where
    on : (o : Option Object) → Lines g none (Frames.call_on g c.number number o method fuel arguments (Frames.counted c.number number s))
    on None = send_lines Rattle.sp_rules.specs.Events.Replies c.number (message.Threw number g.classes.no_such_object) (counted_lines c.number number h)
    on (Some o) = call_of_lines c.number number o method fuel arguments (counted_lines c.number number h)

got_lookup_lines : {g : Setting} {s : State} (c : Connection) (number : ℕ) (name : List ℕ) → Lines g none s → Lines g none (Frames.got_lookup g c number name s)
unfolding Frames.got_lookup
got_lookup_lines {g} {s} c number name h = if_lines (nat_le number c.last) (close_lines _ c.number h) (found_lines c.number number (Frames.object_of s (registry.lookup s.owner.names name)) (counted_lines c.number number h))

release_lines : {g : Setting} {s : State} (is : KeptResult → Bool) → Lines g none s → Lines g none (Frames.release g is s)
unfolding Frames.release
release_lines is h = each_lines _ _ (λ t r k. drop_lines _ k) (quiet _ refl h)

got_ack_lines : {g : Setting} {s : State} (c : Connection) (number : ℕ) → Lines g none s → Lines g none (Frames.got_ack g c number s)
unfolding Frames.got_ack
got_ack_lines {s = s} c number h = if_lines (list_any (Frames.is_acked_by c.number number) s.results) (release_lines _ h) (close_lines _ c.number h)

-- a call that is answered does not wait to be sent
answered-waits : (conn number : ℕ) (connections : List Connection) (dialling : List Uuid) (q : Request) → (none q ≡ false → WaitsForHello connections dialling q) → none (Frames.answered_on conn number q) ≡ false → WaitsForHello connections dialling (Frames.answered_on conn number q)
answered-waits conn number connections dialling q w = pick (ParkedFrames.is_call_on conn number q)
  where
    pick : (b : Bool) → none (if b then record q { stage = state.Answered conn } else q) ≡ false → WaitsForHello connections dialling (if b then record q { stage = state.Answered conn } else q)
    pick true out = λ waits. absurd (true≢false (sym waits))
    pick false out = w out

returned_lines : {g : Setting} {s : State} (c : Connection) (number fuel : ℕ) (value : Option Value) (asked : Asked) → Lines g none s → Lines g none (Frames.returned_for g c number fuel value asked s)
returned_lines {s = s} c number fuel value asked h = if_lines _ (reply_to_lines asked _ (send_lines _ c.number _ (fewer_lines _ h))) (park_frame_lines c.number number _ _
    (now_requests _ (all-map (λ q. none q ≡ false → WaitsForHello s.connections s.dialling q) (λ q. none q ≡ false → WaitsForHello s.connections s.dialling q) (Frames.answered_on c.number number) s.requests (λ q w. answered-waits c.number number s.connections s.dialling q w) h.parts.waiting) h))

answered_by_lines : {g : Setting} {s : State} (c : Connection) (number : ℕ) (next : Asked → State → State) → ((asked : Asked) → Lines g none (next asked s)) → Lines g none s → Lines g none (Frames.answered_by g c number next s)
unfolding Frames.answered_by
answered_by_lines {s = s} c number next k h = some_lines (find (ParkedFrames.is_asked_on c.number number) s.requests) _ (close_lines _ c.number h) (λ q is. k q.asked)

ends_as_lines : {g : Setting} {s : State} (c : Connection) (number : ℕ) (reply : Asked → Reply) (asked : Asked) → Lines g none s → Lines g none (Frames.ends_as g c number reply asked s)
ends_as_lines c number reply asked h = reply_to_lines asked _ (fewer_lines _ h)

told_by_lines : {g : Setting} {s : State} (c : Connection) (dirty : Bool) (sequence : ℕ) (event : ℕ → lease_events.Event) → Lines g none s → Lines g none (Frames.told_by g c dirty sequence event s)
unfolding Frames.told_by
told_by_lines {g} {s = s} c dirty sequence event h = some_lines (find (Frames.tells_on dirty c.number sequence) s.requests) _ (close_lines _ c.number h) (λ q is. go_all_lines (tells q.asked (fewer_lines _ h)))
  where
    tells : (asked : Asked) {t : State} → Lines g none t → Lines g none (Frames.group_told event asked t)
    tells (Calls n task lent kind m) k = k
    tells (LooksUp n task name) k = k
    tells (Tells call group) k = quiet _ refl k

got_lines : {g : Setting} {s : State} (c : Connection) (m : Message) → Lines g none s → Lines g none (Frames.got g c m s)
unfolding Frames.got Frames.got_dirty Frames.got_clean
got_lines c (message.Hello version space digest) h = close_lines _ c.number h
got_lines c (message.Call number object method fuel arguments) h = got_call_lines c number object method fuel arguments h
got_lines c (message.Returned number fuel value) h = answered_by_lines c number _ (λ asked. returned_lines c number fuel value asked h) h
got_lines {g} c (message.Threw number class) h = answered_by_lines c number _ (λ asked. ends_as_lines c number (λ a. Frames.thrown_reply g class) asked h) h
got_lines {g} c (message.Spent number) h = answered_by_lines c number _ (λ asked. ends_as_lines c number (Frames.spent_reply g) asked h) h
got_lines c (message.Ack number) h = got_ack_lines c number h
got_lines c (message.Dirty sequence period objects) h = if_lines (Frames.fit_frame c objects) (send_lines _ c.number _ (quiet _ refl h)) (close_lines _ c.number h)
got_lines c (message.Lease sequence period) h = told_by_lines c true sequence _ h
got_lines c (message.Clean sequence strong objects) h = if_lines (Frames.fit_frame c objects) (send_lines _ c.number _ (quiet _ refl h)) (close_lines _ c.number h)
got_lines c (message.Cleaned sequence) h = told_by_lines c false sequence _ h
got_lines c (message.Lookup number name) h = got_lookup_lines c number name h

received_lines : {g : Setting} {s : State} (conn : ℕ) (c : Option Connection) (m : Message) → connection_at s conn ≡ c → Lines g none s → Lines g none (OwnEvents.received_on g c m s)
unfolding Frames.receive
received_lines conn None m e h = h
received_lines {s = s} conn (Some c) m e h = if_lines (is_none c.peer) (first_lines c m (subst (λ n. connection_at s n ≡ Some c) (sym (Rattle.std.proofs.lemmas.Bool.eqb-true c.number conn (found-is (λ (d : Connection). d.number == conn) s.connections c e))) e) h) (if_lines _ (close_lines _ c.number h) (got_lines c m h))

-- ---- own events

moment_lines : {g : Setting} {s : State} (moment : ℕ) → Lines g none s → Lines g none (OwnEvents.on_moment g moment s)
unfolding OwnEvents.on_moment
moment_lines {s = s} moment h = if_lines (nat_lt moment s.moment) h (release_lines _ (quiet _ refl h))

sweep_lines : {g : Setting} {s : State} → Lines g none s → Lines g none (OwnEvents.on_sweep g s)
unfolding OwnEvents.on_sweep
sweep_lines {g} {s = s} h = sweeps (OwnEvents.without_reason g s)
  where
    sweeps : (gone : List Object) → Lines g none (OwnEvents.sweep_of g s gone)
    sweeps [] = h
    sweeps (o ∷ os) = quiet _ refl (each_lines _ (o ∷ os) (λ t p k. drop_lines _ k) (each_lines _ _ (λ t id k. quiet _ refl k) (quiet _ refl h)))

names_lines : {g : Setting} {s : State} (r : Result (List Binding) RegistryFault) → Lines g none s → Lines g none (OwnEvents.set_names r s)
unfolding OwnEvents.set_names
names_lines (Ok names) h = quiet _ refl h
names_lines (Err why) h = quiet _ refl h

lookup_lines : {g : Setting} {s : State} (peer : Uuid) (name : List ℕ) → Lines g none s → Lines g none (OwnEvents.on_lookup g peer name s)
unfolding OwnEvents.on_lookup
lookup_lines peer name h = if_lines (is_name name) (quiet _ refl h) (quiet _ refl h)

-- what a space takes as opened is not open, and was dialled
new-number : (conn : ℕ) (cs : List Connection) → is_some (find (λ (c : Connection). c.number == conn) cs) ≡ false → AllOf (λ (c : Connection). (c.number == conn) ≡ false) cs
new-number conn cs e = none-found (λ (c : Connection). c.number == conn) cs (none-of _ e)

numbers-more : (cs : List Connection) (c : Connection) → AreNumbered cs → AllOf (λ (d : Connection). (d.number == c.number) ≡ false) cs → AreNumbered (cs ++ c ∷ [])
numbers-more [] c a e = (tt, tt)
numbers-more (d ∷ cs) c a e = (all-more (λ (x : Connection). (x.number == d.number) ≡ false) cs c a.0 (swap d.number c.number e.0), numbers-more cs c a.1 e.1)
  where
    swap : (n m : ℕ) → (n == m) ≡ false → (m == n) ≡ false
    swap n m f = pick (m == n) refl
      where
        pick : (b : Bool) → (m == n) ≡ b → b ≡ false
        pick true t = absurd (true≢false (sym (eq-eqb n m (sym (Rattle.std.proofs.lemmas.Bool.eqb-true m n t))) ∙ f))
        pick false t = refl

alone-more : (o : Option Uuid) (cs : List Connection) (c : Connection) → IsAlone o cs → ((q : Uuid) → o ≡ Some q → To q c ≡ false) → IsAlone o (cs ++ c ∷ [])
alone-more None cs c a e = tt
alone-more (Some q) cs c a e = to-more cs c q (e q refl) ∙ a

dialled-more : (cs : List Connection) (c : Connection) → AreDialledOnce cs → AllOf (λ (d : Connection). (q : Uuid) → d.dialled ≡ Some q → To q c ≡ false) cs → AreDialledOnce (cs ++ c ∷ [])
dialled-more [] c a e = (alone c.dialled, tt)
  where
    alone : (o : Option Uuid) → IsAlone o []
    alone None = tt
    alone (Some q) = refl
dialled-more (d ∷ cs) c a e = (alone-more d.dialled cs c a.0 e.0, dialled-more cs c a.1 e.1)

-- none of these connections is to a peer to which none is dialled
all-others : (p : Uuid) (cs : List Connection) → dialled_to cs p ≡ None → AllOf (λ (d : Connection). (q : Uuid) → d.dialled ≡ Some q → bytes_eq p q ≡ false) cs
all-others p [] e = tt
all-others p (d ∷ cs) e = ((λ q is. other-way q p (sym (ap (is_to p) is) ∙ (none-to d cs p e).0)), all-others p cs (none-to d cs p e).1)

dialled-none : (p : Uuid) (connections : List Connection) (ps : List Uuid) → list_any (bytes_eq p) ps ≡ true → AllOf (λ peer. dialled_to connections peer ≡ None) ps → dialled_to connections p ≡ None
dialled-none p connections [] e a = absurd (true≢false (sym e))
dialled-none p connections (q ∷ ps) e a = pick (bytes_eq p q) refl e (λ f. dialled-none p connections ps f a.1)
  where
    pick : (b : Bool) → bytes_eq p q ≡ b → b || list_any (bytes_eq p) ps ≡ true → (list_any (bytes_eq p) ps ≡ true → dialled_to connections p ≡ None) → dialled_to connections p ≡ None
    pick true t f rest = subst (λ x. dialled_to connections x ≡ None) (sym (one-peer p q t)) a.0
    pick false t f rest = rest f

new-row : ℕ → Option Uuid → Connection
new-row conn dialled = record { number = conn; dialled = dialled; peer = None; version = 1; last = 0; sent = [] }

opened_lines : {g : Setting} {s : State} (conn : ℕ) (dialled : Option Uuid) → is_open s conn ≡ false → Refusals.was_asked s dialled ≡ true → Lines g none s → Lines g none (OwnEvents.on_opened g conn dialled s)
unfolding OwnEvents.on_opened new-row
opened_lines {g} {s} conn None shut asked h = if_lines (nat_le 2 g.version) row (say_hello_lines 1 conn row)
  where
    row : Lines g none (OwnEvents.add_connection conn None s)
    row = record {
      parts = record {
        numbers = numbers-more s.connections (new-row conn None) h.parts.numbers (new-number conn s.connections shut);
        connections = dialled-more s.connections (new-row conn None) h.parts.connections (all-weaken (λ (d : Connection). (d.number == conn) ≡ false) _ s.connections (λ d f q is. refl) (new-number conn s.connections shut));
        dialling = h.parts.dialling;
        apart = all-weaken (λ peer. dialled_to s.connections peer ≡ None) _ s.dialling (λ peer e. to-more s.connections (new-row conn None) peer refl ∙ e) h.parts.apart;
        waiting = all-weaken (λ q. none q ≡ false → WaitsForHello s.connections s.dialling q) _ s.requests (λ q w out waits. let x = w out waits in
            (ap (λ o. is_some o || list_any (bytes_eq q.peer) s.dialling) (to-more s.connections (new-row conn None) q.peer refl) ∙ x.0, ap Requests.hello_came (to-more s.connections (new-row conn None) q.peer refl) ∙ x.1)) h.parts.waiting;
      };
    }
opened_lines {g} {s} conn (Some p) shut asked h = say_hello_lines _ conn row
  where
    alone : dialled_to s.connections p ≡ None
    alone = dialled-none p s.connections s.dialling asked h.parts.apart

    still : (q : Request) → ((is_some (dialled_to s.connections q.peer) || list_any (bytes_eq q.peer) s.dialling) ≡ true) × (Requests.hello_came (dialled_to s.connections q.peer) ≡ None) → (b : Bool) → bytes_eq p q.peer ≡ b
        → ((is_some (dialled_to (s.connections ++ new-row conn (Some p) ∷ []) q.peer) || list_any (bytes_eq q.peer) (filter (λ x. not (bytes_eq p x)) s.dialling)) ≡ true) × (Requests.hello_came (dialled_to (s.connections ++ new-row conn (Some p) ∷ []) q.peer) ≡ None)
    still q x true is =
        let e : dialled_to (s.connections ++ new-row conn (Some p) ∷ []) q.peer ≡ Some (new-row conn (Some p)) = to-last s.connections (new-row conn (Some p)) q.peer (subst (λ y. dialled_to s.connections y ≡ None) (one-peer p q.peer is) alone) is in
        (ap (λ o. is_some o || list_any (bytes_eq q.peer) (filter (λ x. not (bytes_eq p x)) s.dialling)) e, ap Requests.hello_came e)
    still q x false is =
        let e : dialled_to (s.connections ++ new-row conn (Some p) ∷ []) q.peer ≡ dialled_to s.connections q.peer = to-more s.connections (new-row conn (Some p)) q.peer is in
        (ap (λ o. is_some o || list_any (bytes_eq q.peer) (filter (λ x. not (bytes_eq p x)) s.dialling)) e ∙ kept (is_some (dialled_to s.connections q.peer)) x.0, ap Requests.hello_came e ∙ x.1)
      where
        kept : (b : Bool) → b || list_any (bytes_eq q.peer) s.dialling ≡ true → b || list_any (bytes_eq q.peer) (filter (λ x. not (bytes_eq p x)) s.dialling) ≡ true
        kept true f = refl
        kept false f = any-others p q.peer s.dialling is f

    row : Lines g none (OwnEvents.dialled_no_more (Some p) (OwnEvents.add_connection conn (Some p) s))
    row = record {
      parts = record {
        numbers = numbers-more s.connections (new-row conn (Some p)) h.parts.numbers (new-number conn s.connections shut);
        connections = dialled-more s.connections (new-row conn (Some p)) h.parts.connections (all-others p s.connections alone);
        dialling = once-filter (λ q. not (bytes_eq p q)) s.dialling h.parts.dialling;
        apart = all-weaken (λ peer. (dialled_to s.connections peer ≡ None) × (not (bytes_eq p peer) ≡ true)) _ _ (λ peer e. to-more s.connections (new-row conn (Some p)) peer (not-is-true (bytes_eq p peer) e.1) ∙ e.0)
            (all-both-filter (λ peer. dialled_to s.connections peer ≡ None) (λ q. not (bytes_eq p q)) s.dialling h.parts.apart);
        waiting = all-weaken (λ q. none q ≡ false → WaitsForHello s.connections s.dialling q) _ s.requests (λ q w out waits. still q (w out waits) (bytes_eq p q.peer) refl) h.parts.waiting;
      };
    }

refused_lines : {g : Setting} {s : State} (peer : Uuid) → Lines g none s → Lines g none (OwnEvents.on_refused g peer s)
unfolding OwnEvents.on_refused
refused_lines {g} {s} peer h = end_requests_lines (Requests.waits_for peer) _ (record {
  parts = record {
    numbers = h.parts.numbers;
    connections = h.parts.connections;
    dialling = once-filter (λ q. not (bytes_eq peer q)) s.dialling h.parts.dialling;
    apart = all-filter (λ p. dialled_to s.connections p ≡ None) (λ q. not (bytes_eq peer q)) s.dialling h.parts.apart;
    waiting = all-weaken (λ q. none q ≡ false → WaitsForHello s.connections s.dialling q) _ s.requests (λ q w out waits. let x = w refl waits in (kept q (other-way q.peer peer (elsewhere q out waits)) (is_some (dialled_to s.connections q.peer)) x.0, x.1)) h.parts.waiting;
  };
})
  where
    elsewhere : (r : Request) → Requests.waits_for peer r ≡ false → Requests.is_waiting r.stage ≡ true → bytes_eq r.peer peer ≡ false
    elsewhere r out waits = pick (bytes_eq r.peer peer) (Requests.is_waiting r.stage) waits out
      where
        pick : (a b : Bool) → b ≡ true → a && b ≡ false → a ≡ false
        pick true true t f = f
        pick true false t f = absurd (true≢false (sym t))
        pick false b t f = refl

    kept : (q : Request) → bytes_eq peer q.peer ≡ false → (b : Bool) → b || list_any (bytes_eq q.peer) s.dialling ≡ true → b || list_any (bytes_eq q.peer) (filter (λ x. not (bytes_eq peer x)) s.dialling) ≡ true
    kept q e true f = refl
    kept q e false f = any-others peer q.peer s.dialling e f

-- ---- events

-- an Opened that a space takes is of no open connection, and of a dialled peer
abbrev Opens : State → Event → Type 0
Opens s (Opened conn dialled) = (is_open s conn ≡ false) × (Refusals.was_asked s dialled ≡ true)
Opens s _ = Unit {0}

happen_lines : {g : Setting} {s : State} (e : Event) → Opens s e → Lines g none s → Lines g none (Space.happen g e s)
unfolding Space.happen Endings.fail_write
happen_lines (Moment moment) o h = moment_lines moment h
happen_lines Sweep o h = sweep_lines h
happen_lines (Root method arguments fuel) o h = add_task_lines OfRoot method arguments fuel h
happen_lines (RootAck task) o h = release_lines _ h
happen_lines (Bind name value) o h = names_lines _ h
happen_lines (Rebind name value) o h = names_lines _ h
happen_lines (Unbind name) o h = names_lines _ h
happen_lines {g} (Lookup peer name) o h = lookup_lines {g = g} peer name h
happen_lines (Opened conn dialled) o h = opened_lines conn dialled o.0 o.1 h
happen_lines (Refused peer) o h = refused_lines peer h
happen_lines {s = s} (Received conn m) o h = received_lines conn (connection_at s conn) m refl h
happen_lines (Closed conn) o h = end_connection_lines _ conn h
happen_lines (ReadFailed conn) o h = end_connection_lines _ conn h
happen_lines (Bad conn) o h = end_connection_lines _ conn h
happen_lines (WriteFailed conn unsent) o h = end_connection_lines _ conn h
happen_lines (Committed task k op) o h = commit_lines task k op h
happen_lines (Parked task k) o h = park_lines task k h
happen_lines {g} (GivenBack task k) o h = give_back_lines {g = g} task k h
happen_lines (Finished task k) o h = finish_lines task k h

sends-row : (m : Message) → IsRow (λ (c : Connection). record c { sent = m ∷ c.sent })
sends-row m = record { number = λ c. refl; dialled = λ c. refl }

sent_lines : {g : Setting} {s : State} (o : Output) → Lines g none s → Lines g none (Space.record_sent s o)
sent_lines (Started task) h = h
sent_lines (Ended task outcome) h = h
sent_lines (Withdrawn ids) h = h
sent_lines (Denied why) h = h
sent_lines (Send conn m) h = row_lines conn _ (sends-row m) (λ q c e. inr refl) h
sent_lines (Dial peer) h = h
sent_lines (Close conn) h = h
sent_lines (Ready task) h = h

finish_event_lines : {g : Setting} {s : State} (answers : Bool) → Lines g none s → Lines g none (Space.finish_event answers s).0
finish_event_lines true h = each_lines _ _ (λ u o j. sent_lines o j) (quiet _ refl (settle_lines h))
finish_event_lines false h = h

opens : (g : Setting) (lent : List ℕ) (s : State) (e : Event) → first_refusal (checks g lent s e) ≡ None → Opens s e
opens g lent s (Opened conn dialled) t =
    let f : (is_open s conn ≡ false) × (not (Refusals.was_asked s dialled) ≡ false) = or-none (is_open s conn) (not (Refusals.was_asked s dialled)) (first-false (is_open s conn || not (Refusals.was_asked s dialled)) t) in
    (f.0, not-is-false (Refusals.was_asked s dialled) f.1)
  where
    first-false : (b : Bool) → (if b then Some Refusals.Strange else None) ≡ None → b ≡ false
    first-false true e = absurd (some-none Refusals.Strange e)
    first-false false e = refl

    not-is-false : (b : Bool) → not b ≡ false → b ≡ true
    not-is-false true e = refl
    not-is-false false e = absurd (true≢false e)
opens g lent s (Moment moment) t = tt
opens g lent s Sweep t = tt
opens g lent s (Root method arguments fuel) t = tt
opens g lent s (RootAck task) t = tt
opens g lent s (Bind name value) t = tt
opens g lent s (Rebind name value) t = tt
opens g lent s (Unbind name) t = tt
opens g lent s (Lookup peer name) t = tt
opens g lent s (Refused peer) t = tt
opens g lent s (Received conn m) t = tt
opens g lent s (Closed conn) t = tt
opens g lent s (ReadFailed conn) t = tt
opens g lent s (Bad conn) t = tt
opens g lent s (WriteFailed conn unsent) t = tt
opens g lent s (Committed task k op) t = tt
opens g lent s (Parked task k) t = tt
opens g lent s (GivenBack task k) t = tt
opens g lent s (Finished task k) t = tt

on_lines : (g : Setting) (lent : List ℕ) (s : State) (e : Event) → refusal g lent s e ≡ None → Lines g none s → Lines g none (Space.on g e s).0
unfolding Space.on
on_lines g lent s e t h = finish_event_lines (Space.answers_outputs e) (happen_lines e (opens g lent s e (unrefused g lent s e t)) h)

lines-of : (g : Setting) (h : List Event) → IsTaken g h → Lines g none (Space.state_of g h)
unfolding Space.state_of opening
lines-of g [] t = record { parts = record { numbers = tt; connections = tt; dialling = tt; apart = tt; waiting = tt } }
lines-of g (e ∷ h) t = on_lines g t.0.0 (Space.state_of g h) e t.0.1 (lines-of g h t.1)

pub lines_wait_for_hellos : LinesWaitForHellos
lines_wait_for_hellos g h t = by (Space.state_of g h) (lines-of g h t)
  where
    by : (s : State) → Lines g none s → HasLines s
    by s l = record { connections = l.parts.connections; dialling = l.parts.dialling; apart = l.parts.apart; waiting = all-weaken (λ q. none q ≡ false → WaitsForHello s.connections s.dialling q) (WaitsForHello s.connections s.dialling) s.requests (λ q w. w refl) l.parts.waiting }
