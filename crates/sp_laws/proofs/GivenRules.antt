-- Every rule of a space keeps the ids of lookups and of results among those that were given.
use mathlib.Core.Path.{sym, subst}
use Rattle.std.proofs.Common.{arith}
use Rattle.std.proofs.lemmas.Bool.{true≢false}
use Rattle.std.specs.List.{list_any}
use Rattle.std.specs.Prelude.{if◌then◌else◌, ◌≡◌, refl, ℕ, ◌+◌, ◌≤◌, ◌==◌, ◌&&◌, ◌||◌, not, nat_le, nat_lt, is_some, is_none, Bool, true, false, List, [], ◌∷◌, ◌++◌, Option, None, Some, Result, Ok, Err, filter, find, map}
use Rattle.dgc_client.specs.declared.groups.Group.{Group}
use Rattle.dgc_client.specs.declared.lease.Due.{Due}
use Rattle.dgc_client.specs.declared.lease.Due.TheVariants as due
use Rattle.dgc_client.specs.Groups as groups
use Rattle.dgc_client.specs.History as lease_events
use Rattle.dgc_client.specs.Lease as lease
use Rattle.dgc_client.specs.Table as client
use Rattle.space_ids.specs.declared.ids.ClassId.{ClassId}
use Rattle.space_ids.specs.declared.ids.ForeignId.{ForeignId}
use Rattle.space_ids.specs.declared.ids.ObjId.{ObjId}
use Rattle.space_ids.specs.declared.ids.Ref.{Ref}
use Rattle.space_ids.specs.declared.value.Value.{Value}
use Rattle.space_ids.specs.declared.value.Value.TheVariants as values
use Rattle.net_message.specs.declared.message.Message.{Message}
use Rattle.net_message.specs.declared.message.Message.TheVariants as message
use Rattle.sp_registry.specs.Bindings as registry
use Rattle.sp_registry.specs.Names.{is_name}
use Rattle.sp_registry.specs.declared.fault.RegistryFault.{RegistryFault}
use Rattle.sp_registry.specs.declared.registry.Binding.{Binding}
use Rattle.uuid.specs.declared.Uuid.{Uuid}
use Rattle.sp_rules.specs.Behaviours.{Outcome, Returned, Threw, Spent, Op, Create, Get, Put, Call, Reply, GivesBack, Throws}
use Rattle.sp_rules.specs.Classes.{Setting, fit_kinds}
use Rattle.sp_rules.specs.Endings
use Rattle.sp_rules.specs.Endings.{is_group}
use Rattle.sp_rules.specs.Events.{Turn, Waited, Event, Moment, Sweep, Root, RootAck, Bind, Rebind, Unbind, Lookup, Opened, Refused, Received, Closed, ReadFailed, Bad, WriteFailed, Committed, Parked, GivenBack, Finished, Output, Started, Ended, Withdrawn, Denied, Send, Dial, Close, Ready}
use Rattle.sp_rules.specs.Frames
use Rattle.sp_rules.specs.Holders
use Rattle.sp_rules.specs.Holders.{hold_ids, drop_ids}
use Rattle.sp_rules.specs.Laws.{AllOf}
use Rattle.sp_rules.specs.Lists.{each, with_some, at_first}
use Rattle.sp_rules.specs.LivingTasks
use Rattle.sp_rules.specs.OwnEvents
use Rattle.sp_rules.specs.ParkedFrames
use Rattle.sp_rules.specs.References.{references_of}
use Rattle.sp_rules.specs.Requests
use Rattle.sp_rules.specs.Space
use Rattle.sp_rules.specs.State as state
use Rattle.sp_rules.specs.State.{State, Object, Living, Origin, OfRoot, OfCall, Until, Request, Asked, Calls, LooksUp, Tells, Stage, Waits, Out, Answered, Connection, KeptResult, Frame, CallFrame, ReturnedFrame, ParkedFrame, task_at, ready_at, object_at, connection_at, connection_to, is_open, send, opening}
use Rattle.sp_rules.specs.Tasks.{Stand, Runs, AsksFor, HasEnded, stand, steps}
use Rattle.sp_rules.proofs.AllLemmas.{all-weaken, all-append, all-more, all-filter, all-map, all-first, all-found}
use Rattle.sp_rules.proofs.ReadyLemmas.{ready-is}
use Rattle.sp_laws.specs.Given.{HasGivenId, WaitsForGiven, IdsAreGiven}

-- ---- what is kept

pub record GivenParts : Type 0 where
  pub made : ℕ
  pub tasks : List Living
  pub requests : List Request
  pub fresh : List Request
  pub results : List KeptResult

abbrev given_parts : State → GivenParts
given_parts s = record { made = s.tasks_made; tasks = s.tasks; requests = s.requests; fresh = s.fresh; results = s.results }

-- The ids were given: of tasks, of lookups among the requests and among those that were removed and have not ended yet, and of results.
pub record AreGiven (l : List Asked) (x : GivenParts) : Type 0 where
  pub tasks : AllOf (λ (t : Living). t.id ≤ x.made) x.tasks
  pub requests : AllOf (λ (q : Request). HasGivenId x.made q.asked) x.requests
  pub fresh : AllOf (λ (q : Request). HasGivenId x.made q.asked) x.fresh
  pub results : AllOf (λ (k : KeptResult). WaitsForGiven x.made k.until) x.results
  pub removed : AllOf (HasGivenId x.made) l

pub record Given (g : Setting) (l : List Asked) (s : State) : Type 0 where
  pub parts : AreGiven l (given_parts s)

quiet : {g : Setting} {l : List Asked} {s : State} (t : State) → given_parts t ≡ given_parts s → Given g l s → Given g l t
quiet {g} {l} t e h = record { parts = subst (AreGiven l) (sym e) h.parts }

-- other tasks, requests, fresh requests and results, with as many ids given
now : {g : Setting} {l m : List Asked} {s : State} (t : State) (tasks : List Living) (requests fresh : List Request) (results : List KeptResult) → given_parts t ≡ record { made = s.tasks_made; tasks = tasks; requests = requests; fresh = fresh; results = results }
    → AllOf (λ (u : Living). u.id ≤ s.tasks_made) tasks → AllOf (λ (q : Request). HasGivenId s.tasks_made q.asked) requests → AllOf (λ (q : Request). HasGivenId s.tasks_made q.asked) fresh → AllOf (λ (k : KeptResult). WaitsForGiven s.tasks_made k.until) results → AllOf (HasGivenId s.tasks_made) m
    → Given g l s → Given g m t
now {m = m} t tasks requests fresh results e a b c d f h = record { parts = subst (AreGiven m) (sym e) (record { tasks = a; requests = b; fresh = c; results = d; removed = f }) }

asked-more : (made : ℕ) (asked : Asked) → HasGivenId made asked → HasGivenId (made + 1) asked
asked-more made (Calls number task lent kind m) h = tt
asked-more made (LooksUp number task name) h = let a : task ≤ made = h in omega arith
asked-more made (Tells call group) h = tt

until-more : (made : ℕ) (until : Until) → WaitsForGiven made until → WaitsForGiven (made + 1) until
until-more made (state.RootAcked task) h = let a : task ≤ made = h in omega arith
until-more made (state.Acked conn number) h = tt
until-more made (state.Passed moment) h = tt

-- one id more is given
more : {g : Setting} {l : List Asked} {s : State} (t : State) → given_parts t ≡ record { made = s.tasks_made + 1; tasks = s.tasks; requests = s.requests; fresh = s.fresh; results = s.results } → Given g l s → Given g l t
more {g} {l} {s} t e h = record {
  parts = subst (AreGiven l) (sym e) (record {
    tasks = all-weaken (λ (u : Living). u.id ≤ s.tasks_made) (λ (u : Living). u.id ≤ s.tasks_made + 1) s.tasks (λ u le. omega (arith, le)) h.parts.tasks;
    requests = all-weaken (λ (q : Request). HasGivenId s.tasks_made q.asked) (λ (q : Request). HasGivenId (s.tasks_made + 1) q.asked) s.requests (λ q x. asked-more s.tasks_made q.asked x) h.parts.requests;
    fresh = all-weaken (λ (q : Request). HasGivenId s.tasks_made q.asked) (λ (q : Request). HasGivenId (s.tasks_made + 1) q.asked) s.fresh (λ q x. asked-more s.tasks_made q.asked x) h.parts.fresh;
    results = all-weaken (λ (k : KeptResult). WaitsForGiven s.tasks_made k.until) (λ (k : KeptResult). WaitsForGiven (s.tasks_made + 1) k.until) s.results (λ k x. until-more s.tasks_made k.until x) h.parts.results;
    removed = all-weaken (HasGivenId s.tasks_made) (HasGivenId (s.tasks_made + 1)) l (λ a x. asked-more s.tasks_made a x) h.parts.removed;
  });
}

-- ---- small steps

if_given : {g : Setting} {l : List Asked} {t u : State} (b : Bool) → Given g l t → Given g l u → Given g l (if b then t else u)
if_given true h k = h
if_given false h k = k

some_given : {g : Setting} {l : List Asked} {A : Type 0} {t : State} (x : Option A) (f : A → State) → Given g l t → ((a : A) → x ≡ Some a → Given g l (f a)) → Given g l (with_some x t f)
some_given None f h k = h
some_given (Some a) f h k = k a refl

each_given : {g : Setting} {l : List Asked} {A : Type 0} {s : State} (f : State → A → State) (xs : List A) → ((t : State) (x : A) → Given g l t → Given g l (f t x)) → Given g l s → Given g l (each f xs s)
unfolding each
each_given f [] k h = h
each_given {s = s} f (x ∷ xs) k h = each_given f xs k (k s x h)

-- each ends one that was removed
each_removed : {g : Setting} {l : List Asked} {s : State} (f : State → Request → State) (qs : List Request) → ((m : List Asked) (t : State) (q : Request) → Given g (q.asked ∷ m) t → Given g m (f t q)) → Given g (map (λ (q : Request). q.asked) qs ++ l) s → Given g l (each f qs s)
unfolding each
each_removed f [] k h = h
each_removed {l = l} {s = s} f (q ∷ qs) k h = each_removed f qs k (k (map (λ (p : Request). p.asked) qs ++ l) s q h)

send_given : {g : Setting} {l : List Asked} {s : State} (turn : Turn) (conn : ℕ) (m : Message) → Given g l s → Given g l (send turn conn m s)
unfolding send
send_given {s = s} turn conn m h = if_given (is_open s conn) (quiet _ refl h) h

hold_given : {g : Setting} {l : List Asked} {s : State} (ids : List ForeignId) → Given g l s → Given g l (hold_ids ids s)
unfolding hold_ids
hold_given ids h = each_given Holders.holder_comes ids (λ t x k. quiet _ refl k) h

drop_given : {g : Setting} {l : List Asked} {s : State} (ids : List ForeignId) → Given g l s → Given g l (drop_ids ids s)
unfolding drop_ids
drop_given ids h = each_given Holders.holder_goes ids (λ t x k. quiet _ refl k) h

let_go_given : {g : Setting} {l : List Asked} {s : State} (p : ParkedFrame) (parked : List ParkedFrame) → Given g l s → Given g l (ParkedFrames.let_go_parked p parked s)
let_go_given p parked h = each_given _ (filter (ParkedFrames.is_parked_at p.conn p.number) parked) (λ t q k. drop_given q.references k) h

-- ---- requests

drop_asked : {g : Setting} {l : List Asked} {s : State} (asked : Asked) → Given g (asked ∷ l) s → Given g l s
drop_asked asked h = record { parts = record { tasks = h.parts.tasks; requests = h.parts.requests; fresh = h.parts.fresh; results = h.parts.results; removed = h.parts.removed.1 } }

add_given : {g : Setting} {l : List Asked} {s : State} (q : Request) → HasGivenId s.tasks_made q.asked → Given g l s → Given g l (Requests.add_request q s)
add_given {s = s} q ok h = record { parts = record { tasks = h.parts.tasks; requests = all-more (λ (p : Request). HasGivenId s.tasks_made p.asked) s.requests q h.parts.requests ok; fresh = h.parts.fresh; results = h.parts.results; removed = h.parts.removed } }

fewer_given : {g : Setting} {l : List Asked} {s : State} (is : Request → Bool) → Given g l s → Given g l (record s { requests = filter is s.requests })
fewer_given {s = s} is h = record { parts = record { tasks = h.parts.tasks; requests = all-filter (λ (p : Request). HasGivenId s.tasks_made p.asked) is s.requests h.parts.requests; fresh = h.parts.fresh; results = h.parts.results; removed = h.parts.removed } }

-- what is among the requests is taken out
taken_given : {g : Setting} {l : List Asked} {s : State} (t : State) (qs : List Request) → AllOf (λ (q : Request). HasGivenId s.tasks_made q.asked) qs → given_parts t ≡ given_parts s → Given g l s → Given g (map (λ (q : Request). q.asked) qs ++ l) t
taken_given {l = l} {s} t qs a e h = record { parts = subst (AreGiven (map (λ (q : Request). q.asked) qs ++ l)) (sym e) (record { tasks = h.parts.tasks; requests = h.parts.requests; fresh = h.parts.fresh; results = h.parts.results; removed = all-append (HasGivenId s.tasks_made) (map (λ (q : Request). q.asked) qs) l (all-map (λ (q : Request). HasGivenId s.tasks_made q.asked) (HasGivenId s.tasks_made) (λ (q : Request). q.asked) qs (λ q x. x) a) h.parts.removed }) }

part_given : {g : Setting} {l : List Asked} {s : State} (turn : Turn) (conn call : ℕ) (part : Group) → Given g l s → Given g l (Requests.part_goes_out turn conn call s part)
unfolding Requests.part_goes_out
part_given {s = s} turn conn call part h = send_given turn conn _ (add_given _ tt (quiet (record s { leases = client.sent part call s.leases }) refl h))

go_out_given : {g : Setting} {l : List Asked} {s : State} (turn : Turn) (conn : ℕ) (q : Request) → Given g (q.asked ∷ l) s → Given g l (Requests.go_out turn conn q s)
unfolding Requests.go_out
go_out_given {g} {l} {s} turn conn q h = goes q.asked h
  where
    goes : (asked : Asked) → Given g (asked ∷ l) s → Given g l (Requests.goes_out turn conn q.peer asked s)
    goes (Calls number task lent kind m) k = send_given turn conn m (add_given _ tt (drop_asked (Calls number task lent kind m) k))
    goes (LooksUp number task name) k = send_given turn conn _ (add_given _ k.parts.removed.0 (drop_asked (LooksUp number task name) k))
    goes (Tells call group) k = each_given (Requests.part_goes_out turn conn call) (groups.parts_of (Requests.most_on s conn) group) (λ t part j. part_given turn conn call part j) (drop_asked (Tells call group) k)

dial_given : {g : Setting} {l : List Asked} {s : State} (peer : Uuid) → Given g l s → Given g l (Requests.dial peer s)
unfolding Requests.dial
dial_given {s = s} peer h = if_given (is_some (connection_to s peer) || state.is_dialling s peer) h (quiet _ refl h)

ask_given : {g : Setting} {l : List Asked} {s : State} (q : Request) → Given g (q.asked ∷ l) s → Given g l (Requests.ask s q)
unfolding Requests.ask
ask_given {s = s} q h = some_given (Requests.hello_came (connection_to s q.peer)) _ (dial_given q.peer (add_given q h.parts.removed.0 (drop_asked q.asked h))) (λ conn is. go_out_given _ conn q h)

flush_given : {g : Setting} {l : List Asked} {s : State} (peer : Uuid) (conn : ℕ) → Given g l s → Given g l (Requests.flush_waiting peer conn s)
unfolding Requests.flush_waiting
flush_given {g} {l} {s} peer conn h = each_removed {l = l} (λ t q. Requests.go_out Waited conn q t) (filter (Requests.waits_for peer) s.requests) (λ m t q k. go_out_given Waited conn q k)
    (taken_given {s = Requests.without_waiting peer s} (Requests.without_waiting peer s) (filter (Requests.waits_for peer) s.requests) (all-filter (λ (q : Request). HasGivenId s.tasks_made q.asked) (Requests.waits_for peer) s.requests h.parts.requests) refl (fewer_given (λ q. not (Requests.waits_for peer q)) h))

make_group_given : {g : Setting} {l : List Asked} {s : State} (b : Group) → Given g l s → Given g l (Requests.make_group s b)
unfolding Requests.make_group
make_group_given {s = s} b h = ask_given (record { peer = b.peer; asked = Tells (s.groups_made + 1) b; stage = Waits }) (taken_given {s = s} (record s { groups_made = s.groups_made + 1; leases = client.made b (s.groups_made + 1) s.leases }) (record { peer = b.peer; asked = Tells (s.groups_made + 1) b; stage = Waits } ∷ []) (tt, tt) refl h)

settle_given : {g : Setting} {s : State} → Given g [] s → Given g [] (Requests.settle s)
unfolding Requests.settle Requests.make_due Requests.ask_fresh
settle_given {g} {s} h = asks (Requests.make_due s) (each_given _ _ (λ t b k. make_group_given b k) h)
  where
    asks : (t : State) → Given g [] t → Given g [] (each Requests.ask t.fresh (record t { fresh = [] }))
    asks t k = each_removed {l = []} Requests.ask t.fresh (λ m u q j. ask_given q j) (now {l = []} {s = t} (record t { fresh = [] }) t.tasks t.requests [] t.results refl k.parts.tasks k.parts.requests tt k.parts.results (taken_given {s = t} t t.fresh k.parts.fresh refl k).parts.removed k)

-- ---- tasks

add_task_given : {g : Setting} {l : List Asked} {s : State} (origin : Origin) (method : ℕ) (arguments : List Value) (fuel : ℕ) → Given g l s → Given g l (LivingTasks.add_task g origin method arguments fuel s)
unfolding LivingTasks.add_task
add_task_given {g} {l} {s} origin method arguments fuel h = quiet _ refl (hold_given _ (quiet _ refl (begun (more {s = s} (record s { tasks_made = s.tasks_made + 1 }) refl h))))
  where
    row : Living
    row = Rattle.sp_rules.proofs.Stable.new_row g origin method arguments fuel s

    begun : Given g l (record s { tasks_made = s.tasks_made + 1 }) → Given g l (record s { tasks_made = s.tasks_made + 1; tasks = s.tasks ++ row ∷ [] })
    begun k = record { parts = record { tasks = all-more (λ (u : Living). u.id ≤ s.tasks_made + 1) s.tasks row k.parts.tasks (omega arith); requests = k.parts.requests; fresh = k.parts.fresh; results = k.parts.results; removed = k.parts.removed } }

keep_given : {g : Setting} {l : List Asked} {s : State} (until : Until) (value : Option Value) → WaitsForGiven s.tasks_made until → Given g l s → Given g l (LivingTasks.keep g until value s)
keep_given {s = s} until value ok h = hold_given _ (record { parts = record { tasks = h.parts.tasks; requests = h.parts.requests; fresh = h.parts.fresh; results = all-more (λ (k : KeptResult). WaitsForGiven s.tasks_made k.until) s.results (record { until = until; value = value }) h.parts.results ok; removed = h.parts.removed } })

keep_result_given : {g : Setting} {l : List Asked} {s : State} (until : Until) (outcome : Outcome) → WaitsForGiven s.tasks_made until → Given g l s → Given g l (LivingTasks.keep_result g until outcome s)
keep_result_given until (Returned value) ok h = keep_given until value ok h
keep_result_given until (Threw class) ok h = h
keep_result_given until Spent ok h = h

report_given : {g : Setting} {l : List Asked} {s : State} (origin : Origin) (id fuel : ℕ) (outcome : Outcome) → id ≤ s.tasks_made → Given g l s → Given g l (LivingTasks.report g origin id fuel outcome s)
report_given OfRoot id fuel outcome le h = keep_result_given (state.RootAcked id) outcome le h
report_given {s = s} (OfCall conn number) id fuel outcome le h = if_given (is_open s conn) (send_given _ conn _ (keep_result_given (state.Acked conn number) outcome tt h)) h

end_with_given : {g : Setting} {l : List Asked} {s : State} (id : ℕ) (t : Living) (outcome : Outcome) → id ≤ s.tasks_made → Given g l s → Given g l (LivingTasks.end_with g id t outcome s)
end_with_given {s = s} id t outcome le h = drop_given _ (report_given t.origin id t.task.fuel outcome le (now {s = s} _ (filter (λ (u : Living). not (u.id == id)) s.tasks) s.requests s.fresh s.results refl (all-filter (λ (u : Living). u.id ≤ s.tasks_made) (λ (u : Living). not (u.id == id)) s.tasks h.parts.tasks) h.parts.requests h.parts.fresh h.parts.results h.parts.removed h))

row_given : {g : Setting} {l : List Asked} {s : State} (id : ℕ) (f : Living → Living) → ((u : Living) → (f u).id ≡ u.id) → Given g l s → Given g l (state.set_task f id s)
row_given {s = s} id f same h = now {s = s} _ (at_first (λ (u : Living). u.id == id) f s.tasks) s.requests s.fresh s.results refl (all-first (λ (u : Living). u.id ≤ s.tasks_made) (λ (u : Living). u.id == id) f s.tasks (λ u le. subst (λ (n : ℕ). n ≤ s.tasks_made) (sym (same u)) le) h.parts.tasks) h.parts.requests h.parts.fresh h.parts.results h.parts.removed h

-- the call or lookup of the event waits to be asked
fresh_given : {g : Setting} {l : List Asked} {s : State} (t : State) (qs : List Request) → given_parts t ≡ record { made = s.tasks_made; tasks = s.tasks; requests = s.requests; fresh = qs; results = s.results } → AllOf (λ (q : Request). HasGivenId s.tasks_made q.asked) qs → Given g l s → Given g l t
fresh_given {s = s} t qs e ok h = now {s = s} t s.tasks s.requests qs s.results e h.parts.tasks h.parts.requests ok h.parts.results h.parts.removed h

call_gone : {g : Setting} {l : List Asked} {s : State} (conn number : ℕ) → Given g l s → Given g l (ParkedFrames.remove_requests (ParkedFrames.is_call_on conn number) s)
call_gone conn number h = fewer_given (λ q. not (ParkedFrames.is_call_on conn number q)) h

reply_task_given : {g : Setting} {l : List Asked} {s : State} (id : ℕ) (reply : Reply) → Given g l s → Given g l (LivingTasks.reply_task g id reply s)
unfolding LivingTasks.reply_task
reply_task_given {g} {s = s} id reply h = some_given (task_at s id) _ h (λ t is. quiet _ refl (hold_given _ (row_given id (LivingTasks.after_reply g reply) (λ u. refl) h)))

reply_to_given : {g : Setting} {l : List Asked} {s : State} (asked : Asked) (reply : Reply) → HasGivenId s.tasks_made asked → Given g l s → Given g l (LivingTasks.reply_to g asked reply s)
unfolding LivingTasks.reply_to
reply_to_given (Calls number task lent kind m) reply ok h = reply_task_given task reply h
reply_to_given (LooksUp number task name) reply ok h = keep_result_given (state.RootAcked task) (LivingTasks.outcome_of reply) ok (quiet _ refl h)
reply_to_given (Tells call group) reply ok h = h

-- the request that is answered is acknowledged and ends
reply_sent : {g : Setting} {l : List Asked} {s : State} (conn : ℕ) (m : Message) (asked : Asked) (reply : Reply) → HasGivenId s.tasks_made asked → Given g l s → Given g l (LivingTasks.reply_to g asked reply (send Rattle.sp_rules.specs.Events.Acks conn m s))
unfolding send
reply_sent {g} {l} {s} conn m asked reply ok h = at (send Rattle.sp_rules.specs.Events.Acks conn m s) (same (is_open s conn)) (send_given Rattle.sp_rules.specs.Events.Acks conn m h)
  where
    same : (b : Bool) → (if b then record s { notes = s.notes ++ Rattle.sp_rules.specs.Events.Sends Rattle.sp_rules.specs.Events.Acks conn m ∷ [] } else s).tasks_made ≡ s.tasks_made
    same true = refl
    same false = refl

    at : (t : State) → t.tasks_made ≡ s.tasks_made → Given g l t → Given g l (LivingTasks.reply_to g asked reply t)
    at t e k = reply_to_given asked reply (subst (λ n. HasGivenId n asked) (sym e) ok) k

after_op_given : {g : Setting} {l : List Asked} {s : State} (op : Op) → Given g l s → Given g l (LivingTasks.after_op g op s)
unfolding LivingTasks.after_op
after_op_given {s = s} (Create class) h = if_given (LivingTasks.is_full s) h (quiet _ refl h)
after_op_given (Get id slot) h = h
after_op_given (Put id slot value) h = drop_given _ (hold_given _ (quiet _ refl h))
after_op_given (Call target method arguments) h = h

commit_given : {g : Setting} {l : List Asked} {s : State} (id k : ℕ) (op : Op) → Given g l s → Given g l (LivingTasks.commit g id k op s)
unfolding LivingTasks.commit
commit_given {g} {s = s} id k op h = some_given (ready_at s id) _ h (λ t is. after_op_given op (hold_given _ (row_given id (λ (u : Living). LivingTasks.after_reply g (LivingTasks.op_reply g op s) (LivingTasks.after_steps k u)) (λ u. refl) h)))

park_given : {g : Setting} {l : List Asked} {s : State} (id k : ℕ) → Given g l s → Given g l (LivingTasks.park_call g id k s)
unfolding LivingTasks.park_call
park_given {g} {l} {s} id k h = some_given (ready_at s id) _ h (λ t is. at t (stand (steps k t.task)))
  where
    parks : (t : Living) (op : Op) → Given g l (LivingTasks.park_op g id k t op s)
    parks t (Create class) = h
    parks t (Get o slot) = h
    parks t (Put o slot value) = h
    parks t (Call target method arguments) = fresh_given {s = state.set_task (LivingTasks.waiting k) id s} _ _ refl (tt, tt) (row_given id (LivingTasks.waiting k) (λ u. refl) h)

    at : (t : Living) (stands : Stand) → Given g l (LivingTasks.park_at g id k t stands s)
    at t Runs = h
    at t (AsksFor op) = parks t op
    at t (HasEnded outcome) = h

give_back_given : {g : Setting} {l : List Asked} {s : State} (id k : ℕ) → Given g l s → Given g l (LivingTasks.give_back id k s)
unfolding LivingTasks.give_back
give_back_given {s = s} id k h = some_given (ready_at s id) _ h (λ t is. row_given id (LivingTasks.after_steps k) (λ u. refl) h)

finish_given : {g : Setting} {l : List Asked} {s : State} (id k : ℕ) → Given g l s → Given g l (LivingTasks.finish_task g id k s)
unfolding LivingTasks.finish_task
finish_given {g} {l} {s} id k h = some_given (ready_at s id) _ h (λ t is. at (known t (ready-is (task_at s id) t is).0) (LivingTasks.after_steps k t) (stand (steps k t.task)))
  where
    known : (t : Living) → task_at s id ≡ Some t → id ≤ s.tasks_made
    known t is = subst (λ (n : ℕ). n ≤ s.tasks_made) (Rattle.std.proofs.lemmas.Bool.eqb-true t.id id (Rattle.sp_rules.proofs.AllLemmas.found-is (λ (u : Living). u.id == id) s.tasks t is)) (all-found (λ (u : Living). u.id ≤ s.tasks_made) (λ (u : Living). u.id == id) s.tasks t is h.parts.tasks)

    at : id ≤ s.tasks_made → (t : Living) (stands : Stand) → Given g l (LivingTasks.end_at g id t stands s)
    at le t Runs = h
    at le t (AsksFor op) = h
    at le t (HasEnded outcome) = end_with_given {g = g} id t outcome le h

-- ---- parked frames

start_call_given : {g : Setting} {l : List Asked} {s : State} (p : ParkedFrame) (target : ObjId) (method fuel : ℕ) (arguments : List Value) → Given g l s → Given g l (ParkedFrames.start_call g p target method fuel arguments s)
unfolding ParkedFrames.start_call
start_call_given {g} {l} {s} p target method fuel arguments h = some_given (object_at s target) _ h (λ o is. selected (record { space = g.id; id = target; class = o.class }) (g.classes.selected o.class method))
  where
    selected : (receiver : Ref) (found : Option ℕ) → Given g l (ParkedFrames.start_selected g p.conn p.number receiver found fuel arguments s)
    selected receiver None = send_given _ p.conn _ h
    selected receiver (Some m) = add_task_given (OfCall p.conn p.number) m _ fuel h

answer_parked_given : {g : Setting} {l : List Asked} {s : State} (p : ParkedFrame) (reply : Reply) → Given g l s → Given g l (ParkedFrames.answer_parked g p reply s)
unfolding ParkedFrames.answer_parked
answer_parked_given {s = s} p reply h = some_given (find (ParkedFrames.is_call_on p.conn p.number) s.requests) _ h (λ q is. reply_sent p.conn (message.Ack p.number) q.asked reply (all-found (λ (x : Request). HasGivenId s.tasks_made x.asked) (ParkedFrames.is_call_on p.conn p.number) s.requests q is h.parts.requests) (call_gone p.conn p.number h))

go_given : {g : Setting} {l : List Asked} {s : State} (p : ParkedFrame) → Given g l s → Given g l (ParkedFrames.go g s p)
unfolding ParkedFrames.go
go_given {g} {l} {s} p h = some_given (find (ParkedFrames.is_parked_at p.conn p.number) s.parked) _ h (λ q is. let_go_given p s.parked (frame q q.frame))
  where
    frame : (q : ParkedFrame) (f : Frame) → Given g l (ParkedFrames.go_frame g q f (ParkedFrames.take_parked p s))
    frame q (CallFrame target method fuel arguments) = start_call_given q target method fuel arguments (quiet _ refl h)
    frame q (ReturnedFrame value fuel) = answer_parked_given q (GivesBack value fuel) (quiet _ refl h)

go_all_given : {g : Setting} {l : List Asked} {s : State} → Given g l s → Given g l (ParkedFrames.go_all g s)
unfolding ParkedFrames.go_all
go_all_given h = each_given _ _ (λ t p k. go_given p k) h

park_frame_given : {g : Setting} {l : List Asked} {s : State} (conn number : ℕ) (frame : Frame) (references : List ForeignId) → Given g l s → Given g l (ParkedFrames.park_frame g conn number frame references s)
unfolding ParkedFrames.park_frame
park_frame_given conn number frame references h = go_all_given (hold_given references (quiet _ refl h))

fail_parked_given : {g : Setting} {l : List Asked} {s : State} (p : ParkedFrame) → Given g l s → Given g l (ParkedFrames.fail_parked g s p)
unfolding ParkedFrames.fail_parked
fail_parked_given {g} {l} {s} p h = frame p.frame
  where
    frame : (f : Frame) → Given g l (ParkedFrames.fail_frame g p f (ParkedFrames.let_go_parked p s.parked (ParkedFrames.take_parked p s)))
    frame (CallFrame target method fuel arguments) = send_given _ p.conn _ (let_go_given p s.parked (quiet _ refl h))
    frame (ReturnedFrame value fuel) = answer_parked_given p (Throws g.classes.unmarshal) (let_go_given p s.parked (quiet _ refl h))

-- ---- endings

fail_dirty_given : {g : Setting} {l : List Asked} {s : State} (call : ℕ) (x : ForeignId) → Given g l s → Given g l (Endings.fail_dirty g call s x)
unfolding Endings.fail_dirty
fail_dirty_given {s = s} call x h = if_given (lease.is_made (Holders.lease_now s x).dirty call && is_none (Holders.lease_now s x).lease) (each_given _ (filter (ParkedFrames.names x) s.parked) (λ t p k. fail_parked_given p k) (quiet _ refl h)) (quiet _ refl h)

fail_group_given : {g : Setting} {l : List Asked} {s : State} (kind : Due) (b : Group) (call : ℕ) → Given g l s → Given g l (Endings.fail_group g kind b call s)
fail_group_given due.Dirty b call h = each_given _ _ (λ t x k. fail_dirty_given call x k) h
fail_group_given (due.Clean strong) b call h = each_given _ _ (λ t x k. quiet _ refl k) h

end_asked_given : {g : Setting} {l : List Asked} {s : State} (class : ClassId) (asked : Asked) → Given g (asked ∷ l) s → Given g l (Endings.end_asked g class asked s)
end_asked_given class (Calls number task lent kind m) h = reply_to_given (Calls number task lent kind m) (Throws class) tt (drop_asked (Calls number task lent kind m) h)
end_asked_given class (LooksUp number task name) h = reply_to_given (LooksUp number task name) (Throws class) h.parts.removed.0 (drop_asked (LooksUp number task name) h)
end_asked_given class (Tells call group) h = fail_group_given group.kind group call (drop_asked (Tells call group) h)

end_requests_given : {g : Setting} {s : State} (is : Request → Bool) (why : Asked → ClassId) → Given g [] s → Given g [] (Endings.end_requests g is why s)
unfolding Endings.end_requests
end_requests_given {g} {s} is why h =
    each_removed {l = []} _ (filter (λ (q : Request). is_group q.asked) (filter is s.requests)) (λ m t q k. end_asked_given (why q.asked) q.asked k)
    (each_removed {l = map (λ (q : Request). q.asked) (filter (λ (q : Request). is_group q.asked) (filter is s.requests)) ++ []} _ (filter (λ (q : Request). not (is_group q.asked)) (filter is s.requests)) (λ m t q k. end_asked_given (why q.asked) q.asked k)
    (taken_given {l = map (λ (q : Request). q.asked) (filter (λ (q : Request). is_group q.asked) (filter is s.requests)) ++ []} {s = rest} rest (filter (λ (q : Request). not (is_group q.asked)) (filter is s.requests)) (all-filter (λ (q : Request). HasGivenId s.tasks_made q.asked) (λ (q : Request). not (is_group q.asked)) (filter is s.requests) ending) refl
    (taken_given {l = []} {s = rest} rest (filter (λ (q : Request). is_group q.asked) (filter is s.requests)) (all-filter (λ (q : Request). HasGivenId s.tasks_made q.asked) (λ (q : Request). is_group q.asked) (filter is s.requests) ending) refl (fewer_given (λ q. not (is q)) h))))
  where
    rest : State
    rest = ParkedFrames.remove_requests is s

    ending : AllOf (λ (q : Request). HasGivenId s.tasks_made q.asked) (filter is s.requests)
    ending = all-filter (λ (q : Request). HasGivenId s.tasks_made q.asked) is s.requests h.parts.requests

orphan-given : (made conn moment : ℕ) (k : KeptResult) → WaitsForGiven made k.until → WaitsForGiven made (Endings.orphan conn moment k).until
orphan-given made conn moment k h = at k.until refl h
  where
    at : (until : Until) → k.until ≡ until → WaitsForGiven made until → WaitsForGiven made (Endings.orphan conn moment (record k { until = until })).until
    at (state.RootAcked task) e x = x
    at (state.Acked c number) e x = both (c == conn)
      where
        both : (b : Bool) → WaitsForGiven made (if b then record k { until = state.Passed (moment + 600000) } else record k { until = state.Acked c number }).until
        both true = tt
        both false = tt
    at (state.Passed m) e x = tt

shut_given : {g : Setting} {l : List Asked} {s : State} (conn : ℕ) → Given g l s → Given g l (Endings.without_connection conn s)
shut_given {s = s} conn h = now {s = s} _ s.tasks s.requests s.fresh (map (Endings.orphan conn s.moment) s.results) refl h.parts.tasks h.parts.requests h.parts.fresh (all-map (λ (k : KeptResult). WaitsForGiven s.tasks_made k.until) (λ (k : KeptResult). WaitsForGiven s.tasks_made k.until) (Endings.orphan conn s.moment) s.results (λ k x. orphan-given s.tasks_made conn s.moment k x) h.parts.results) h.parts.removed h

let_connection_go_given : {g : Setting} {s : State} (conn : ℕ) → Given g [] s → Given g [] (Endings.let_connection_go conn s)
let_connection_go_given conn h = each_given _ _ (λ t p k. let_go_given p t.parked (quiet _ refl k)) (shut_given conn h)

end_connection_given : {g : Setting} {s : State} (why : Asked → ClassId) (conn : ℕ) → Given g [] s → Given g [] (Endings.end_connection g why conn s)
unfolding Endings.end_connection
end_connection_given {s = s} why conn h = some_given (connection_at s conn) _ h (λ c is. end_requests_given _ why (let_connection_go_given conn h))

redial_given : {g : Setting} {s : State} (peer : Uuid) (conn : ℕ) → Given g [] s → Given g [] (Endings.redial peer conn s)
unfolding Endings.redial
redial_given {s = s} peer conn h = dial_given peer (quiet _ refl (let_connection_go_given {s = Endings.note_peer peer s} conn (quiet _ refl h)))

close_given : {g : Setting} {s : State} (class : ClassId) (conn : ℕ) → Given g [] s → Given g [] (Endings.close g class conn s)
unfolding Endings.close
close_given class conn h = quiet _ refl (end_connection_given _ conn h)

-- ---- frames that come

say_hello_given : {g : Setting} {s : State} (version conn : ℕ) → Given g [] s → Given g [] (Frames.say_hello g version conn s)
say_hello_given {g} version conn h = quiet _ refl (send_given Rattle.sp_rules.specs.Events.Hellos conn (message.Hello version g.id g.digest) h)

first_given : {g : Setting} {s : State} (c : Connection) (m : Message) → Given g [] s → Given g [] (Frames.first_frame g c m s)
unfolding Frames.first_frame
first_given {g} {s} c (message.Hello version space digest) h = some_given c.dialled _ (if_given _ (if_given (nat_le 2 g.version) (say_hello_given _ c.number known) known) (close_given _ c.number h))
    (λ peer is. if_given _ (if_given (version == c.version) (flush_given peer c.number known) (if_given (nat_le 2 c.version && version == 1) (redial_given peer c.number h) (close_given _ c.number h))) (close_given _ c.number h))
  where
    known : Given g [] (Frames.greeted space c.number s)
    known = quiet _ refl h
first_given c _ h = close_given _ c.number h

call_of_given : {g : Setting} {s : State} (conn number : ℕ) (o : Object) (method fuel : ℕ) (arguments : List Value) → Given g [] s → Given g [] (Frames.call_of g conn number o method fuel arguments s)
call_of_given {g} {s = s} conn number o method fuel arguments h =
    if_given (not (g.classes.may_call o.class method) || (not (fit_kinds (g.classes.parameters method) arguments) || list_any (Holders.is_refused g s) (references_of arguments))) (send_given _ conn _ h)
    (if_given (Frames.is_busy s) (send_given _ conn _ h) (park_frame_given conn number _ _ h))

got_call_given : {g : Setting} {s : State} (c : Connection) (number : ℕ) (target : ObjId) (method fuel : ℕ) (arguments : List Value) → Given g [] s → Given g [] (Frames.got_call g c number target method fuel arguments s)
unfolding Frames.got_call
got_call_given {g} {s} c number target method fuel arguments h = if_given (nat_le number c.last) (close_given _ c.number h) (on (object_at s target))
  where
    on : (o : Option Object) → Given g [] (Frames.call_on g c.number number o method fuel arguments (Frames.counted c.number number s))
    on None = send_given Rattle.sp_rules.specs.Events.Replies c.number (message.Threw number g.classes.no_such_object) (quiet (Frames.counted c.number number s) refl h)
    on (Some o) = call_of_given c.number number o method fuel arguments (quiet (Frames.counted c.number number s) refl h)

found_given : {g : Setting} {s : State} (conn number : ℕ) (o : Option Object) → Given g [] s → Given g [] (Frames.found g conn number o s)
found_given conn number None h = send_given _ conn _ h
found_given {g} conn number (Some o) h = send_given _ conn _ (keep_given (state.Acked conn number) (Some (values.Ref (record { space = g.id; id = o.id; class = o.class }))) tt h)

got_lookup_given : {g : Setting} {s : State} (c : Connection) (number : ℕ) (name : List ℕ) → Given g [] s → Given g [] (Frames.got_lookup g c number name s)
unfolding Frames.got_lookup
got_lookup_given {s = s} c number name h = if_given (nat_le number c.last) (close_given _ c.number h) (found_given c.number number (Frames.object_of s (registry.lookup s.owner.names name)) (quiet (Frames.counted c.number number s) refl h))

release_given : {g : Setting} {s : State} (is : KeptResult → Bool) → Given g [] s → Given g [] (Frames.release g is s)
unfolding Frames.release
release_given {s = s} is h = each_given _ _ (λ t q k. drop_given _ k) (now {s = s} _ s.tasks s.requests s.fresh (filter (λ k. not (is k)) s.results) refl h.parts.tasks h.parts.requests h.parts.fresh (all-filter (λ (k : KeptResult). WaitsForGiven s.tasks_made k.until) (λ k. not (is k)) s.results h.parts.results) h.parts.removed h)

got_ack_given : {g : Setting} {s : State} (c : Connection) (number : ℕ) → Given g [] s → Given g [] (Frames.got_ack g c number s)
unfolding Frames.got_ack
got_ack_given {s = s} c number h = if_given (list_any (Frames.is_acked_by c.number number) s.results) (release_given _ h) (close_given _ c.number h)

returned_given : {g : Setting} {s : State} (c : Connection) (number fuel : ℕ) (value : Option Value) (asked : Asked) → HasGivenId s.tasks_made asked → Given g [] s → Given g [] (Frames.returned_for g c number fuel value asked s)
returned_given {g} {s} c number fuel value asked ok h = if_given _ (reply_sent c.number (message.Ack number) asked (Throws g.classes.unmarshal) ok (call_gone c.number number h)) (park_frame_given c.number number _ _ answered)
  where
    same : (q : Request) → HasGivenId s.tasks_made q.asked → HasGivenId s.tasks_made (Frames.answered_on c.number number q).asked
    same q x = pick (ParkedFrames.is_call_on c.number number q)
      where
        pick : (b : Bool) → HasGivenId s.tasks_made (if b then record q { stage = Answered c.number } else q).asked
        pick true = x
        pick false = x

    answered : Given g [] (record s { requests = map (Frames.answered_on c.number number) s.requests })
    answered = now {s = s} _ s.tasks (map (Frames.answered_on c.number number) s.requests) s.fresh s.results refl h.parts.tasks (all-map (λ (q : Request). HasGivenId s.tasks_made q.asked) (λ (q : Request). HasGivenId s.tasks_made q.asked) (Frames.answered_on c.number number) s.requests same h.parts.requests) h.parts.fresh h.parts.results tt h

answered_by_given : {g : Setting} {s : State} (c : Connection) (number : ℕ) (next : Asked → State → State) → ((asked : Asked) → HasGivenId s.tasks_made asked → Given g [] (next asked s)) → Given g [] s → Given g [] (Frames.answered_by g c number next s)
unfolding Frames.answered_by
answered_by_given {s = s} c number next k h = some_given (find (ParkedFrames.is_asked_on c.number number) s.requests) _ (close_given _ c.number h) (λ q is. k q.asked (all-found (λ (x : Request). HasGivenId s.tasks_made x.asked) (ParkedFrames.is_asked_on c.number number) s.requests q is h.parts.requests))

ends_as_given : {g : Setting} {s : State} (c : Connection) (number : ℕ) (reply : Asked → Reply) (asked : Asked) → HasGivenId s.tasks_made asked → Given g [] s → Given g [] (Frames.ends_as g c number reply asked s)
ends_as_given c number reply asked ok h = reply_to_given asked (reply asked) ok (call_gone c.number number h)

told_by_given : {g : Setting} {s : State} (c : Connection) (d : Bool) (sequence : ℕ) (event : ℕ → lease_events.Event) → Given g [] s → Given g [] (Frames.told_by g c d sequence event s)
unfolding Frames.told_by
told_by_given {g} {s} c d sequence event h = some_given (find (Frames.tells_on d c.number sequence) s.requests) _ (close_given _ c.number h) (λ q is. go_all_given (tells q.asked (fewer_given (λ p. not (Frames.tells_on d c.number sequence p)) h)))
  where
    tells : (asked : Asked) {t : State} → Given g [] t → Given g [] (Frames.group_told event asked t)
    tells (Calls n task lent kind m) k = k
    tells (LooksUp n task name) k = k
    tells (Tells call group) k = quiet _ refl k

got_given : {g : Setting} {s : State} (c : Connection) (m : Message) → Given g [] s → Given g [] (Frames.got g c m s)
unfolding Frames.got Frames.got_dirty Frames.got_clean
got_given c (message.Hello version space digest) h = close_given _ c.number h
got_given c (message.Call number object method fuel arguments) h = got_call_given c number object method fuel arguments h
got_given c (message.Returned number fuel value) h = answered_by_given c number _ (λ asked ok. returned_given c number fuel value asked ok h) h
got_given {g} c (message.Threw number class) h = answered_by_given c number _ (λ asked ok. ends_as_given c number (λ a. Frames.thrown_reply g class) asked ok h) h
got_given {g} c (message.Spent number) h = answered_by_given c number _ (λ asked ok. ends_as_given c number (Frames.spent_reply g) asked ok h) h
got_given c (message.Ack number) h = got_ack_given c number h
got_given c (message.Dirty sequence period objects) h = if_given (Frames.fit_frame c objects) (send_given _ c.number _ (quiet _ refl h)) (close_given _ c.number h)
got_given c (message.Lease sequence period) h = told_by_given c true sequence (λ call. lease_events.DirtyAnswered call period) h
got_given c (message.Clean sequence strong objects) h = if_given (Frames.fit_frame c objects) (send_given _ c.number _ (quiet _ refl h)) (close_given _ c.number h)
got_given c (message.Cleaned sequence) h = told_by_given c false sequence lease_events.CleanAnswered h
got_given c (message.Lookup number name) h = got_lookup_given c number name h

received_given : {g : Setting} {s : State} (c : Option Connection) (m : Message) → Given g [] s → Given g [] (OwnEvents.received_on g c m s)
unfolding Frames.receive
received_given None m h = h
received_given {g} {s = s} (Some c) m h = if_given (is_none c.peer) (first_given c m h) (if_given (Frames.is_wrong_way (Frames.is_asking m) (is_some c.dialled)) (close_given _ c.number h) (got_given c m h))

-- ---- own events

moment_given : {g : Setting} {s : State} (moment : ℕ) → Given g [] s → Given g [] (OwnEvents.on_moment g moment s)
unfolding OwnEvents.on_moment
moment_given {s = s} moment h = if_given (nat_lt moment s.moment) h (release_given _ (quiet _ refl h))

sweep_given : {g : Setting} {s : State} → Given g [] s → Given g [] (OwnEvents.on_sweep g s)
unfolding OwnEvents.on_sweep
sweep_given {g} {s} h = sweeps (OwnEvents.without_reason g s)
  where
    sweeps : (gone : List Object) → Given g [] (OwnEvents.sweep_of g s gone)
    sweeps [] = h
    sweeps (o ∷ os) = quiet _ refl (each_given _ (o ∷ os) (λ t p k. drop_given _ k) (each_given _ _ (λ t id k. quiet _ refl k) (quiet _ refl h)))

names_given : {g : Setting} {s : State} (x : Result (List Binding) RegistryFault) → Given g [] s → Given g [] (OwnEvents.set_names x s)
unfolding OwnEvents.set_names
names_given (Ok names) h = quiet _ refl h
names_given (Err why) h = quiet _ refl h

lookup_given : {g : Setting} {s : State} (peer : Uuid) (name : List ℕ) → Given g [] s → Given g [] (OwnEvents.on_lookup g peer name s)
unfolding OwnEvents.on_lookup
lookup_given {s = s} peer name h = if_given (is_name name) (fresh_given {s = record s { tasks_made = s.tasks_made + 1 }} _ _ refl (le, tt) (more {s = s} (record s { tasks_made = s.tasks_made + 1 }) refl h)) (quiet _ refl h)
  where
    le : s.tasks_made + 1 ≤ s.tasks_made + 1
    le = omega arith

opened_given : {g : Setting} {s : State} (conn : ℕ) (dialled : Option Uuid) → Given g [] s → Given g [] (OwnEvents.on_opened g conn dialled s)
unfolding OwnEvents.on_opened
opened_given {g} conn None h = if_given (nat_le 2 g.version) (quiet _ refl h) (say_hello_given 1 conn (quiet _ refl h))
opened_given conn (Some peer) h = say_hello_given _ conn (quiet _ refl h)

refused_given : {g : Setting} {s : State} (peer : Uuid) → Given g [] s → Given g [] (OwnEvents.on_refused g peer s)
unfolding OwnEvents.on_refused
refused_given peer h = end_requests_given (Requests.waits_for peer) _ (quiet _ refl h)

-- ---- events

happen_given : {g : Setting} {s : State} (e : Event) → Given g [] s → Given g [] (Space.happen g e s)
unfolding Space.happen Endings.fail_write
happen_given (Moment moment) h = moment_given moment h
happen_given Sweep h = sweep_given h
happen_given (Root method arguments fuel) h = add_task_given OfRoot method arguments fuel h
happen_given (RootAck task) h = release_given _ h
happen_given (Bind name value) h = names_given _ h
happen_given (Rebind name value) h = names_given _ h
happen_given (Unbind name) h = names_given _ h
happen_given {g} (Lookup peer name) h = lookup_given {g = g} peer name h
happen_given (Opened conn dialled) h = opened_given conn dialled h
happen_given (Refused peer) h = refused_given peer h
happen_given {s = s} (Received conn m) h = received_given (connection_at s conn) m h
happen_given (Closed conn) h = end_connection_given _ conn h
happen_given (ReadFailed conn) h = end_connection_given _ conn h
happen_given (Bad conn) h = end_connection_given _ conn h
happen_given (WriteFailed conn unsent) h = end_connection_given _ conn h
happen_given (Committed task k op) h = commit_given task k op h
happen_given (Parked task k) h = park_given task k h
happen_given {g} (GivenBack task k) h = give_back_given {g = g} task k h
happen_given (Finished task k) h = finish_given task k h

sent_given : {g : Setting} {s : State} (o : Output) → Given g [] s → Given g [] (Space.record_sent s o)
sent_given (Started task) h = h
sent_given (Ended task outcome) h = h
sent_given (Withdrawn ids) h = h
sent_given (Denied why) h = h
sent_given (Send conn m) h = quiet _ refl h
sent_given (Dial peer) h = h
sent_given (Close conn) h = h
sent_given (Ready task) h = h

finish_event_given : {g : Setting} {s : State} (answers : Bool) → Given g [] s → Given g [] (Space.finish_event answers s).0
finish_event_given true h = each_given _ _ (λ u o j. sent_given o j) (quiet _ refl (settle_given h))
finish_event_given false h = h

on_given : (g : Setting) (s : State) (e : Event) → Given g [] s → Given g [] (Space.on g e s).0
unfolding Space.on
on_given g s e h = finish_event_given (Space.answers_outputs e) (happen_given e h)

given-of : (g : Setting) (h : List Event) → Given g [] (Space.state_of g h)
unfolding Space.state_of opening
given-of g [] = record { parts = record { tasks = tt; requests = tt; fresh = tt; results = tt; removed = tt } }
given-of g (e ∷ h) = on_given g (Space.state_of g h) e (given-of g h)

pub ids_are_given : IdsAreGiven
ids_are_given g h = record { tasks = (given-of g h).parts.tasks; requests = (given-of g h).parts.requests; results = (given-of g h).parts.results }
