-- What is asked of peers and what peers ask, as the rules of a space move it. If a property keeps count of requests, of calls that came and
-- of what is under way between them, and the few moves keep it, each rule keeps it.
use mathlib.Core.Path.{sym, ap, subst}
use Rattle.std.proofs.lemmas.Bool.{true≢false, eqb-true}
use Rattle.std.specs.List.{list_any}
use Rattle.std.specs.Prelude.{◌≡◌, refl, ℕ, ◌+◌, ◌==◌, ◌&&◌, ◌||◌, not, nat_le, nat_lt, is_some, is_none, Bool, true, false, List, [], ◌∷◌, ◌++◌, Option, None, Some, Result, Ok, Err, filter, find, map, if◌then◌else◌}
use Rattle.space_ids.specs.declared.ids.ClassId.{ClassId}
use Rattle.dgc_client.specs.History as lease_events
use Rattle.dgc_client.specs.Lease as lease
use Rattle.dgc_client.specs.Table as client
use Rattle.dgc_client.specs.declared.groups.Group.{Group}
use Rattle.dgc_client.specs.declared.lease.Due.TheVariants as due
use Rattle.dgc_client.specs.declared.lease.Due.{Due}
use Rattle.space_ids.specs.declared.ids.ForeignId.{ForeignId}
use Rattle.net_message.specs.declared.message.Message.TheVariants as message
use Rattle.net_message.specs.declared.message.Message.{Message}
use Rattle.sp_registry.specs.Bindings as registry
use Rattle.sp_registry.specs.Names.{is_name}
use Rattle.sp_registry.specs.declared.fault.RegistryFault.{RegistryFault}
use Rattle.sp_registry.specs.declared.registry.Binding.{Binding}
use Rattle.uuid.specs.declared.Uuid.{Uuid}
use Rattle.space_ids.specs.declared.ids.ObjId.{ObjId}
use Rattle.space_ids.specs.declared.ids.Ref.{Ref}
use Rattle.space_ids.specs.declared.value.Value.TheVariants as values
use Rattle.space_ids.specs.declared.value.Value.{Value}
use Rattle.sp_rules.specs.Behaviours.{Outcome, Returned, Threw, Spent, Op, Create, Get, Put, Call, Reply, Throws}
use Rattle.sp_rules.specs.Classes.{Setting, blank, field_kind, fit_kinds, fits_field}
use Rattle.sp_rules.specs.Endings
use Rattle.sp_rules.specs.Events.{Started, Ended, Turn, Replies, Acks, Event, Moment, Sweep, Root, RootAck, Bind, Rebind, Unbind, Lookup, Opened, Refused, Received, Closed, ReadFailed, Bad, WriteFailed, Committed, Parked, GivenBack, Finished, Output, Withdrawn, Denied, Send, Dial, Close, Ready}
use Rattle.sp_rules.specs.Frames
use Rattle.sp_rules.specs.Holders
use Rattle.sp_rules.specs.Holders.{hold_ids, drop_ids, times_in, has_reason}
use Rattle.sp_rules.specs.Lists.{each, with_some}
use Rattle.sp_rules.specs.LivingTasks
use Rattle.sp_rules.specs.OwnEvents
use Rattle.sp_rules.specs.ParkedFrames
use Rattle.sp_rules.specs.References.{references_of, references_in, foreign_ids}
use Rattle.sp_rules.specs.Requests
use Rattle.sp_rules.specs.Space
use Rattle.sp_rules.specs.State as state
use Rattle.sp_rules.specs.State.{State, Object, Stored, Made, Written, Gone, Living, Origin, OfRoot, OfCall, Until, Request, Asked, Calls, LooksUp, Tells, Connection, KeptResult, Frame, CallFrame, ReturnedFrame, ParkedFrame, standing, last_written, task_at, ready_at, object_at, connection_at, connection_to, is_open, set_task, send, opening}
use Rattle.sp_rules.specs.Tasks.{Stand, Runs, AsksFor, HasEnded, stand, steps, answer, gained}
use Rattle.sp_rules.proofs.AllLemmas.{found-is}
use Rattle.sp_rules.proofs.ReadyLemmas.{ready-is}
use Rattle.sp_rules.proofs.Stable.{new_row}

-- ---- what is under way

-- A request that was removed and is not ended yet, or a call that came and is neither parked nor started nor answered yet.
pub data Owed : Type 0 where
  Removed : (peer : Uuid) (asked : Asked) → Owed
  Inbound : (conn number : ℕ) → Owed

abbrev pub removed : List Request → List Owed
removed rs = map (λ (q : Request). Removed q.peer q.asked) rs

abbrev pub of_origin : Origin → List Owed
of_origin OfRoot = []
of_origin (OfCall conn number) = Inbound conn number ∷ []

abbrev pub of_until : Until → List Owed
of_until (state.RootAcked task) = []
of_until (state.Acked conn number) = Inbound conn number ∷ []
of_until (state.Passed moment) = []

-- the parts that a property may look at
pub record FlowParts : Type 0 where
  pub calls_made : ℕ
  pub tasks_made : ℕ
  pub tasks : List Living
  pub requests : List Request
  pub fresh : List Request
  pub results : List KeptResult
  pub connections : List Connection
  pub parked : List ParkedFrame

abbrev pub flow_parts : State → FlowParts
flow_parts s = record { calls_made = s.calls_made; tasks_made = s.tasks_made; tasks = s.tasks; requests = s.requests; fresh = s.fresh; results = s.results; connections = s.connections; parked = s.parked }

-- a task that is changed keeps its id and its origin
pub record IsSameRow (f : Living → Living) : Type 0 where
  pub id : (t : Living) → (f t).id ≡ t.id
  pub origin : (t : Living) → (f t).origin ≡ t.origin

-- The moves that keep a property of a state and of what is under way.
pub record Flows (g : Setting) (P : List Owed → State → Type 0) : Type 0 where
  pub quiet : (l : List Owed) (s t : State) → flow_parts t ≡ flow_parts s → P l s → P l t
  pub adds : (l : List Owed) (s : State) (q : Request) → P (Removed q.peer q.asked ∷ l) s → P l (Requests.add_request q s)
  pub tells : (l : List Owed) (s : State) (q : Request) (call : ℕ) (group : Group) → q.asked ≡ Tells call group → P l s → P l (Requests.add_request q s)
  pub told : (l : List Owed) (s : State) (peer : Uuid) (call : ℕ) (group : Group) → P (Removed peer (Tells call group) ∷ l) s → P l s
  pub unfresh : (l : List Owed) (s : State) → P l s → P (removed s.fresh ++ l) (record s { fresh = [] })
  pub removes : (l : List Owed) (s : State) (is : Request → Bool) → P l s → P (removed (filter is s.requests) ++ l) (record s { requests = filter (λ q. not (is q)) s.requests })
  pub sorts : (l : List Owed) (s : State) (is : Request → Bool) (rs : List Request) → P (removed rs ++ l) s → P (removed (filter (λ q. not (is q)) rs) ++ (removed (filter is rs) ++ l)) s
  pub removes_one : (l : List Owed) (s : State) (finds is : Request → Bool) (k : ℕ) (q : Request) → find finds s.requests ≡ Some q → ((p : Request) → finds p ≡ true → is p ≡ true) → ((p : Request) → is p ≡ true → ParkedFrames.has_number k p.asked ≡ true) → P l s
      → P (Removed q.peer q.asked ∷ l) (record s { requests = filter (λ p. not (is p)) s.requests })
  pub removes_told : (l : List Owed) (s : State) (dirty : Bool) (conn sequence : ℕ) → P l s → P l (record s { requests = filter (λ q. not (Frames.tells_on dirty conn sequence q)) s.requests })
  pub begins : (l : List Owed) (s : State) (origin : Origin) (method : ℕ) (arguments : List Value) (fuel : ℕ) → P (of_origin origin ++ l) s → P l (record s { tasks_made = s.tasks_made + 1; tasks = s.tasks ++ new_row g origin method arguments fuel s ∷ [] })
  pub ends : (l : List Owed) (s : State) (id : ℕ) (t : Living) → ready_at s id ≡ Some t → P l s → P (of_origin t.origin ++ l) (record s { tasks = filter (λ (u : Living). not (u.id == id)) s.tasks })
  pub replies : (l : List Owed) (s : State) (peer : Uuid) (number task lent : ℕ) (kind : Rattle.sp_rules.specs.Classes.Kind) (m : Message) (reply : Reply) (t : Living) → task_at s task ≡ Some t → P (Removed peer (Calls number task lent kind m) ∷ l) s → P l (set_task (LivingTasks.after_reply g reply) task s)
  pub replies_none : (l : List Owed) (s : State) (peer : Uuid) (number task lent : ℕ) (kind : Rattle.sp_rules.specs.Classes.Kind) (m : Message) → task_at s task ≡ None → P (Removed peer (Calls number task lent kind m) ∷ l) s → P l s
  pub looked_up : (l : List Owed) (s : State) (peer : Uuid) (number task : ℕ) (name : List ℕ) → P (Removed peer (LooksUp number task name) ∷ l) s → P l s
  pub works : (l : List Owed) (s : State) (id : ℕ) (t : Living) (f : Living → Living) → IsSameRow f → (f t).waits ≡ false → ready_at s id ≡ Some t → P l s → P l (set_task f id s)
  pub keeps : (l : List Owed) (s : State) (until : Until) (value : Option Value) → P (of_until until ++ l) s → P l (record s { results = s.results ++ record { until = until; value = value } ∷ [] })
  pub results_go : (l : List Owed) (s : State) (is : KeptResult → Bool) → P l s → P l (record s { results = filter is s.results })
  pub falls : (l : List Owed) (s : State) (conn number : ℕ) → P (Inbound conn number ∷ l) s → P l s
  pub row : (l : List Owed) (s : State) (conn : ℕ) (f : Connection → Connection) → ((c : Connection) → (f c).number ≡ c.number) → ((c : Connection) → (f c).last ≡ c.last) → ((c : Connection) → (f c).dialled ≡ c.dialled) → P l s → P l (state.set_connection f conn s)
  pub counts : (l : List Owed) (s : State) (conn number : ℕ) (c : Connection) → connection_at s conn ≡ Some c → nat_le number c.last ≡ false → P l s → P (Inbound conn number ∷ l) (Frames.counted conn number s)
  pub parks_call : (l : List Owed) (s : State) (p : ParkedFrame) → Frames.is_call_frame p.frame ≡ true → P (Inbound p.conn p.number ∷ l) s → P l (record s { parked = s.parked ++ p ∷ [] })
  pub parks_result : (l : List Owed) (s : State) (p : ParkedFrame) → Frames.is_call_frame p.frame ≡ false → P l s → P l (record s { parked = s.parked ++ p ∷ [] })
  pub answers : (l : List Owed) (s : State) (conn number : ℕ) → P l s → P l (record s { requests = map (Frames.answered_on conn number) s.requests })
  pub takes : (l : List Owed) (s : State) (p : ParkedFrame) → P l s → P l (ParkedFrames.take_parked p s)
  pub takes_call : (l : List Owed) (s : State) (p q : ParkedFrame) → find (ParkedFrames.is_parked_at p.conn p.number) s.parked ≡ Some q → Frames.is_call_frame q.frame ≡ true → P l s → P (Inbound q.conn q.number ∷ l) (ParkedFrames.take_parked p s)
  pub closes : (l : List Owed) (s : State) (conn : ℕ) → P l s → P l (Endings.without_connection conn s)

-- the events that begin something: an Opened, a parked call, a lookup
pub record Begins (g : Setting) (P : List Owed → State → Type 0) (s : State) (e : Event) : Type 0 where
  pub opens : (conn : ℕ) (dialled : Option Uuid) → e ≡ Opened conn dialled → P [] s → P [] (OwnEvents.add_connection conn dialled s)
  pub parks : (id k : ℕ) (t : Living) (target : Ref) (method : ℕ) (arguments : List Value) → e ≡ Parked id k → ready_at s id ≡ Some t → stand (steps k t.task) ≡ AsksFor (Call target method arguments) → P [] s → P [] (LivingTasks.park_op g id k t (Call target method arguments) s)
  pub looks : (peer : Uuid) (name : List ℕ) → e ≡ Lookup peer name
      → P [] s → P [] (record s { tasks_made = s.tasks_made + 1; calls_made = s.calls_made + 1; fresh = record { peer = peer; asked = LooksUp (s.calls_made + 1) (s.tasks_made + 1) name; stage = state.Waits } ∷ [] })

-- ---- small steps

if_flow : {g : Setting} {P : List Owed → State → Type 0} (F : Flows g P) {l : List Owed} {t u : State} (b : Bool) → P l t → P l u → P l (if b then t else u)
if_flow F true h k = h
if_flow F false h k = k

some_flow : {g : Setting} {P : List Owed → State → Type 0} (F : Flows g P) {l : List Owed} {A : Type 0} {t : State} (x : Option A) (f : A → State) → P l t → ((a : A) → x ≡ Some a → P l (f a)) → P l (with_some x t f)
some_flow F None f h k = h
some_flow F (Some a) f h k = k a refl

pub each_flow : {g : Setting} {P : List Owed → State → Type 0} (F : Flows g P) {l : List Owed} {A : Type 0} {s : State} (f : State → A → State) (xs : List A) → ((t : State) (x : A) → P l t → P l (f t x)) → P l s → P l (each f xs s)
unfolding each
each_flow F f [] k h = h
each_flow F {s = s} f (x ∷ xs) k h = each_flow F f xs k (k s x h)

-- each ends one that was removed
pub each_removed : {g : Setting} {P : List Owed → State → Type 0} (F : Flows g P) {l : List Owed} {s : State} (f : State → Request → State) (rs : List Request) → ((m : List Owed) (t : State) (q : Request) → P (Removed q.peer q.asked ∷ m) t → P m (f t q)) → P (removed rs ++ l) s → P l (each f rs s)
unfolding each
each_removed F f [] k h = h
each_removed F {l} {s = s} f (q ∷ rs) k h = each_removed F f rs k (k (removed rs ++ l) s q h)

send_flow : {g : Setting} {P : List Owed → State → Type 0} (F : Flows g P) {l : List Owed} {s : State} (turn : Turn) (conn : ℕ) (m : Message) → P l s → P l (send turn conn m s)
unfolding send
send_flow {P = P} F {l} {s} turn conn m h = if_flow F (is_open s conn) (F.quiet l s _ refl h) h

hold_flow : {g : Setting} {P : List Owed → State → Type 0} (F : Flows g P) {l : List Owed} {s : State} (ids : List ForeignId) → P l s → P l (hold_ids ids s)
unfolding hold_ids
hold_flow {P = P} F {l} ids h = each_flow F Holders.holder_comes ids (λ t x k. F.quiet l t _ refl k) h

drop_flow : {g : Setting} {P : List Owed → State → Type 0} (F : Flows g P) {l : List Owed} {s : State} (ids : List ForeignId) → P l s → P l (drop_ids ids s)
unfolding drop_ids
drop_flow {P = P} F {l} ids h = each_flow F Holders.holder_goes ids (λ t x k. F.quiet l t _ refl k) h

pub let_go_flow : {g : Setting} {P : List Owed → State → Type 0} (F : Flows g P) {l : List Owed} {s : State} (p : ParkedFrame) (parked : List ParkedFrame) → P l s → P l (ParkedFrames.let_go_parked p parked s)
let_go_flow {P = P} F p parked h = each_flow F _ (filter (ParkedFrames.is_parked_at p.conn p.number) parked) (λ t q k. drop_flow F q.references k) h

-- ---- requests

part_flow : {g : Setting} {P : List Owed → State → Type 0} (F : Flows g P) {l : List Owed} {s : State} (turn : Turn) (conn call : ℕ) (part : Group) → P l s → P l (Requests.part_goes_out turn conn call s part)
unfolding Requests.part_goes_out
part_flow F {l} {s} turn conn call part h = send_flow F turn conn _ (F.tells l _ _ call part refl (F.quiet l s (record s { leases = client.sent part call s.leases }) refl h))

go_out_flow : {g : Setting} {P : List Owed → State → Type 0} (F : Flows g P) {l : List Owed} {s : State} (turn : Turn) (conn : ℕ) (q : Request) → P (Removed q.peer q.asked ∷ l) s → P l (Requests.go_out turn conn q s)
unfolding Requests.go_out
go_out_flow {g} {P} F {l} {s} turn conn q h = goes q.asked h
  where
    goes : (asked : Asked) → P (Removed q.peer asked ∷ l) s → P l (Requests.goes_out turn conn q.peer asked s)
    goes (Calls number task lent kind m) k = send_flow F turn conn m (F.adds l s (record { peer = q.peer; asked = Calls number task lent kind m; stage = state.Out conn 0 }) k)
    goes (LooksUp number task name) k = send_flow F turn conn _ (F.adds l s (record { peer = q.peer; asked = LooksUp number task name; stage = state.Out conn 0 }) k)
    goes (Tells call group) k = each_flow F _ _ (λ t part j. part_flow F turn conn call part j) (F.told l s q.peer call group k)

dial_flow : {g : Setting} {P : List Owed → State → Type 0} (F : Flows g P) {l : List Owed} {s : State} (peer : Uuid) → P l s → P l (Requests.dial peer s)
unfolding Requests.dial
dial_flow {P = P} F {l} {s} peer h = if_flow F (is_some (connection_to s peer) || state.is_dialling s peer) h (F.quiet l s _ refl h)

pub ask_flow : {g : Setting} {P : List Owed → State → Type 0} (F : Flows g P) {l : List Owed} {s : State} (q : Request) → P (Removed q.peer q.asked ∷ l) s → P l (Requests.ask s q)
unfolding Requests.ask
ask_flow {P = P} F {l} {s} q h = some_flow F (Requests.hello_came (connection_to s q.peer)) _ (dial_flow F q.peer (F.adds l s q h)) (λ conn is. go_out_flow F _ conn q h)

flush_flow : {g : Setting} {P : List Owed → State → Type 0} (F : Flows g P) {l : List Owed} {s : State} (peer : Uuid) (conn : ℕ) → P l s → P l (Requests.flush_waiting peer conn s)
unfolding Requests.flush_waiting
flush_flow {P = P} F {l} {s} peer conn h = each_removed F _ (filter (Requests.waits_for peer) s.requests) (λ m t q k. go_out_flow F _ conn q k) (F.removes l s (Requests.waits_for peer) h)

make_group_flow : {g : Setting} {P : List Owed → State → Type 0} (F : Flows g P) {l : List Owed} {s : State} (b : Group) → P l s → P l (Requests.make_group s b)
unfolding Requests.make_group Requests.ask Requests.go_out
make_group_flow {g} {P} F {l} {s} b h = some_flow F (Requests.hello_came (connection_to made b.peer)) _ (dial_flow F b.peer (F.tells l made _ (s.groups_made + 1) b refl kept)) (λ conn is. outs conn)
  where
    made : State
    made = record s { groups_made = s.groups_made + 1; leases = client.made b (s.groups_made + 1) s.leases }

    kept : P l made
    kept = F.quiet l s _ refl h

    outs : (conn : ℕ) → P l (Requests.go_out (Requests.turn_of b.kind) conn (record { peer = b.peer; asked = Tells (s.groups_made + 1) b; stage = state.Waits }) made)
    outs conn = each_flow F _ _ (λ t part j. part_flow F _ conn (s.groups_made + 1) part j) kept

pub settle_flow : {g : Setting} {P : List Owed → State → Type 0} (F : Flows g P) {s : State} → P [] s → P [] (Requests.settle s)
unfolding Requests.settle Requests.make_due Requests.ask_fresh
settle_flow {g} {P} F {s} h = asks (Requests.make_due s) (each_flow F _ _ (λ t b k. make_group_flow F b k) h)
  where
    asks : (t : State) → P [] t → P [] (each Requests.ask t.fresh (record t { fresh = [] }))
    asks t k = each_removed F {l = []} Requests.ask t.fresh (λ m u q j. ask_flow F q j) (F.unfresh [] t k)

-- ---- tasks

add_task_flow : {g : Setting} {P : List Owed → State → Type 0} (F : Flows g P) {l : List Owed} {s : State} (origin : Origin) (method : ℕ) (arguments : List Value) (fuel : ℕ) → P (of_origin origin ++ l) s → P l (LivingTasks.add_task g origin method arguments fuel s)
unfolding LivingTasks.add_task
add_task_flow {g} F {l} {s} origin method arguments fuel h = F.quiet l _ _ refl (hold_flow F _ (F.quiet l _ _ refl (F.begins l s origin method arguments fuel h)))

keep_flow : {g : Setting} {P : List Owed → State → Type 0} (F : Flows g P) {l : List Owed} {s : State} (until : Until) (value : Option Value) → P (of_until until ++ l) s → P l (LivingTasks.keep g until value s)
keep_flow F {l} {s} until value h = hold_flow F _ (F.keeps l s until value h)

-- what is not kept falls away
until_falls : {g : Setting} {P : List Owed → State → Type 0} (F : Flows g P) {l : List Owed} {s : State} (until : Until) → P (of_until until ++ l) s → P l s
until_falls F (state.RootAcked task) h = h
until_falls F {l} {s} (state.Acked conn number) h = F.falls l s conn number h
until_falls F (state.Passed moment) h = h

keep_result_flow : {g : Setting} {P : List Owed → State → Type 0} (F : Flows g P) {l : List Owed} {s : State} (until : Until) (outcome : Outcome) → P (of_until until ++ l) s → P l (LivingTasks.keep_result g until outcome s)
keep_result_flow F until (Returned value) h = keep_flow F until value h
keep_result_flow F until (Threw class) h = until_falls F until h
keep_result_flow F until Spent h = until_falls F until h

report_flow : {g : Setting} {P : List Owed → State → Type 0} (F : Flows g P) {l : List Owed} {s : State} (origin : Origin) (id fuel : ℕ) (outcome : Outcome) → P (of_origin origin ++ l) s → P l (LivingTasks.report g origin id fuel outcome s)
report_flow F OfRoot id fuel outcome h = keep_result_flow F (state.RootAcked id) outcome h
report_flow {P = P} F {l} {s} (OfCall conn number) id fuel outcome h = if_flow F (is_open s conn) (send_flow F _ conn _ (keep_result_flow F (state.Acked conn number) outcome h)) (F.falls l s conn number h)

end_with_flow : {g : Setting} {P : List Owed → State → Type 0} (F : Flows g P) {l : List Owed} {s : State} (id : ℕ) (t u : Living) (outcome : Outcome) → ready_at s id ≡ Some u → t.origin ≡ u.origin → P l s → P l (LivingTasks.end_with g id t outcome s)
end_with_flow {P = P} F {l} {s} id t u outcome is same h = drop_flow F _ (report_flow F t.origin id t.task.fuel outcome
    (F.quiet _ _ _ refl (subst (λ o. P (of_origin o ++ l) (record s { tasks = filter (λ (v : Living). not (v.id == id)) s.tasks })) (sym same) (F.ends l s id u is h))))

reply_to_flow : {g : Setting} {P : List Owed → State → Type 0} (F : Flows g P) {l : List Owed} {s : State} {peer : Uuid} (asked : Asked) (reply : Reply) → P (Removed peer asked ∷ l) s → P l (LivingTasks.reply_to g asked reply s)
unfolding LivingTasks.reply_to LivingTasks.reply_task
reply_to_flow {g} {P} F {l} {s} {peer} (Calls number task lent kind m) reply h = pick (task_at s task) refl
  where
    pick : (found : Option Living) → task_at s task ≡ found
        → P l (with_some found s (λ t. state.say (Ready task) (Holders.hold g (gained t.task (answer g reply t.task)) (set_task (LivingTasks.after_reply g reply) task s))))
    pick None is = F.replies_none l s peer number task lent kind m is h
    pick (Some t) is = F.quiet l _ _ refl (hold_flow F _ (F.replies l s peer number task lent kind m reply t is h))
reply_to_flow F {l} {s} {peer} (LooksUp number task name) reply h = keep_result_flow F (state.RootAcked task) (LivingTasks.outcome_of reply) (F.quiet l s _ refl (F.looked_up l s peer number task name h))
reply_to_flow F {l} {s} {peer} (Tells call group) reply h = F.told l s peer call group h

after_op_flow : {g : Setting} {P : List Owed → State → Type 0} (F : Flows g P) {l : List Owed} {s : State} (op : Op) → P l s → P l (LivingTasks.after_op g op s)
unfolding LivingTasks.after_op
after_op_flow {P = P} F {l} {s} (Create class) h = if_flow F (LivingTasks.is_full s) h (F.quiet l s _ refl h)
after_op_flow F (Get id slot) h = h
after_op_flow F {l} {s} (Put id slot value) h = drop_flow F _ (hold_flow F _ (F.quiet l s _ refl h))
after_op_flow F (Call target method arguments) h = h

pub commit_flow : {g : Setting} {P : List Owed → State → Type 0} (F : Flows g P) {l : List Owed} {s : State} (id k : ℕ) (op : Op) → P l s → P l (LivingTasks.commit g id k op s)
unfolding LivingTasks.commit
commit_flow {g} {P} F {l} {s} id k op h = some_flow F (ready_at s id) _ h (λ t is. after_op_flow F op (hold_flow F _
    (F.works l s id t (λ (u : Living). LivingTasks.after_reply g (LivingTasks.op_reply g op s) (LivingTasks.after_steps k u)) (record { id = λ u. refl; origin = λ u. refl }) refl is h)))

pub give_back_flow : {g : Setting} {P : List Owed → State → Type 0} (F : Flows g P) {l : List Owed} {s : State} (id k : ℕ) → P l s → P l (LivingTasks.give_back id k s)
unfolding LivingTasks.give_back
give_back_flow {P = P} F {l} {s} id k h = some_flow F (ready_at s id) _ h (λ t is. F.works l s id t (LivingTasks.after_steps k) (record { id = λ u. refl; origin = λ u. refl }) (ready-is (task_at s id) t is).1 is h)

park_flow : {g : Setting} {P : List Owed → State → Type 0} (F : Flows g P) {s : State} (id k : ℕ) → Begins g P s (Parked id k) → P [] s → P [] (LivingTasks.park_call g id k s)
unfolding LivingTasks.park_call
park_flow {g} {P} F {s} id k B h = some_flow F (ready_at s id) _ h (λ t is. at t is (stand (steps k t.task)) refl)
  where
    parks : (t : Living) → ready_at s id ≡ Some t → (op : Op) → stand (steps k t.task) ≡ AsksFor op → P [] (LivingTasks.park_op g id k t op s)
    parks t is (Create class) e = h
    parks t is (Get o slot) e = h
    parks t is (Put o slot value) e = h
    parks t is (Call target method arguments) e = B.parks id k t target method arguments refl is e h

    at : (t : Living) → ready_at s id ≡ Some t → (stands : Stand) → stand (steps k t.task) ≡ stands → P [] (LivingTasks.park_at g id k t stands s)
    at t is Runs e = h
    at t is (AsksFor op) e = parks t is op e
    at t is (HasEnded outcome) e = h

finish_flow : {g : Setting} {P : List Owed → State → Type 0} (F : Flows g P) {l : List Owed} {s : State} (id k : ℕ) → P l s → P l (LivingTasks.finish_task g id k s)
unfolding LivingTasks.finish_task
finish_flow {g} {P} F {l} {s} id k h = some_flow F (ready_at s id) _ h (λ t is. at t is (stand (steps k t.task)))
  where
    at : (t : Living) → ready_at s id ≡ Some t → (stands : Stand) → P l (LivingTasks.end_at g id (LivingTasks.after_steps k t) stands s)
    at t is Runs = h
    at t is (AsksFor op) = h
    at t is (HasEnded outcome) = end_with_flow F id (LivingTasks.after_steps k t) t outcome is refl h

-- ---- parked frames

start_call_flow : {g : Setting} {P : List Owed → State → Type 0} (F : Flows g P) {l : List Owed} {s : State} (p : ParkedFrame) (target : ObjId) (method fuel : ℕ) (arguments : List Value) → P (Inbound p.conn p.number ∷ l) s → P l (ParkedFrames.start_call g p target method fuel arguments s)
unfolding ParkedFrames.start_call
start_call_flow {g} {P} F {l} {s} p target method fuel arguments h = some_flow F (object_at s target) _ (F.falls l s p.conn p.number h) (λ o is. selected (record { space = g.id; id = target; class = o.class }) (g.classes.selected o.class method))
  where
    selected : (receiver : Ref) (found : Option ℕ) → P l (ParkedFrames.start_selected g p.conn p.number receiver found fuel arguments s)
    selected receiver None = send_flow F _ p.conn _ (F.falls l s p.conn p.number h)
    selected receiver (Some m) = add_task_flow F (OfCall p.conn p.number) m _ fuel h

both-right : (a b : Bool) → a && b ≡ true → b ≡ true
both-right true b e = e
both-right false b e = absurd (true≢false (sym e))

answer_parked_flow : {g : Setting} {P : List Owed → State → Type 0} (F : Flows g P) {l : List Owed} {s : State} (p : ParkedFrame) (reply : Reply) → P l s → P l (ParkedFrames.answer_parked g p reply s)
unfolding ParkedFrames.answer_parked
answer_parked_flow {P = P} F {l} {s} p reply h = some_flow F (find (ParkedFrames.is_call_on p.conn p.number) s.requests) _ h (λ q is. reply_to_flow F q.asked reply (send_flow F _ p.conn _
    (F.removes_one l s (ParkedFrames.is_call_on p.conn p.number) (ParkedFrames.is_call_on p.conn p.number) p.number q is (λ x e. e) (λ x e. both-right (ParkedFrames.is_out_on p.conn x.stage) _ e) h)))

go_flow : {g : Setting} {P : List Owed → State → Type 0} (F : Flows g P) {l : List Owed} {s : State} (p : ParkedFrame) → P l s → P l (ParkedFrames.go g s p)
unfolding ParkedFrames.go
go_flow {g} {P} F {l} {s} p h = some_flow F (find (ParkedFrames.is_parked_at p.conn p.number) s.parked) _ h (λ q is. let_go_flow F p s.parked (frame q q.frame refl is))
  where
    frame : (q : ParkedFrame) (f : Frame) → q.frame ≡ f → find (ParkedFrames.is_parked_at p.conn p.number) s.parked ≡ Some q → P l (ParkedFrames.go_frame g q f (ParkedFrames.take_parked p s))
    frame q (CallFrame target method fuel arguments) e is = start_call_flow F q target method fuel arguments (F.takes_call l s p q is (ap Frames.is_call_frame e) h)
    frame q (ReturnedFrame value fuel) e is = answer_parked_flow F q _ (F.takes l s p h)

go_all_flow : {g : Setting} {P : List Owed → State → Type 0} (F : Flows g P) {l : List Owed} {s : State} → P l s → P l (ParkedFrames.go_all g s)
unfolding ParkedFrames.go_all
go_all_flow {P = P} F h = each_flow F _ _ (λ t p k. go_flow F p k) h

park_call_flow : {g : Setting} {P : List Owed → State → Type 0} (F : Flows g P) {l : List Owed} {s : State} (conn number : ℕ) (target : ObjId) (method fuel : ℕ) (arguments : List Value) (references : List ForeignId) → P (Inbound conn number ∷ l) s → P l (ParkedFrames.park_frame g conn number (CallFrame target method fuel arguments) references s)
unfolding ParkedFrames.park_frame
park_call_flow F {l} {s} conn number target method fuel arguments references h = go_all_flow F (hold_flow F references (F.parks_call l s (record { conn = conn; number = number; frame = CallFrame target method fuel arguments; references = references }) refl h))

park_result_flow : {g : Setting} {P : List Owed → State → Type 0} (F : Flows g P) {l : List Owed} {s : State} (conn number : ℕ) (value : Option Value) (fuel : ℕ) (references : List ForeignId) → P l s → P l (ParkedFrames.park_frame g conn number (ReturnedFrame value fuel) references s)
unfolding ParkedFrames.park_frame
park_result_flow F {l} {s} conn number value fuel references h = go_all_flow F (hold_flow F references (F.parks_result l s (record { conn = conn; number = number; frame = ReturnedFrame value fuel; references = references }) refl h))

fail_parked_flow : {g : Setting} {P : List Owed → State → Type 0} (F : Flows g P) {l : List Owed} {s : State} (p : ParkedFrame) → P l s → P l (ParkedFrames.fail_parked g s p)
unfolding ParkedFrames.fail_parked
fail_parked_flow {g} {P} F {l} {s} p h = frame p.frame (let_go_flow F p s.parked (F.takes l s p h))
  where
    frame : (f : Frame) {t : State} → P l t → P l (ParkedFrames.fail_frame g p f t)
    frame (CallFrame target method fuel arguments) k = send_flow F _ p.conn _ k
    frame (ReturnedFrame value fuel) k = answer_parked_flow F p (Throws g.classes.unmarshal) k

-- ---- endings

fail_dirty_flow : {g : Setting} {P : List Owed → State → Type 0} (F : Flows g P) {l : List Owed} {s : State} (call : ℕ) (id : ForeignId) → P l s → P l (Endings.fail_dirty g call s id)
unfolding Endings.fail_dirty
fail_dirty_flow {g} {P} F {l} {s} call id h = if_flow F (lease.is_made (Holders.lease_now s id).dirty call && is_none (Holders.lease_now s id).lease) (each_flow F _ (filter (ParkedFrames.names id) s.parked) (λ t p k. fail_parked_flow F p k) failed) failed
  where
    failed : P l (record s { leases = client.On id (lease_events.DirtyFailed call) ∷ s.leases })
    failed = F.quiet l s _ refl h

fail_group_flow : {g : Setting} {P : List Owed → State → Type 0} (F : Flows g P) {l : List Owed} {s : State} (kind : Due) (b : Group) (call : ℕ) → P l s → P l (Endings.fail_group g kind b call s)
fail_group_flow {P = P} F due.Dirty b call h = each_flow F _ _ (λ t x k. fail_dirty_flow F call x k) h
fail_group_flow {P = P} F {l} (due.Clean strong) b call h = each_flow F _ _ (λ t x k. F.quiet l t _ refl k) h

end_asked_flow : {g : Setting} {P : List Owed → State → Type 0} (F : Flows g P) {l : List Owed} {s : State} {peer : Uuid} (class : ClassId) (asked : Asked) → P (Removed peer asked ∷ l) s → P l (Endings.end_asked g class asked s)
end_asked_flow F class (Calls number task lent kind m) h = reply_to_flow F (Calls number task lent kind m) (Throws class) h
end_asked_flow F class (LooksUp number task name) h = reply_to_flow F (LooksUp number task name) (Throws class) h
end_asked_flow F {l} {s} {peer} class (Tells call group) h = fail_group_flow F group.kind group call (F.told l s peer call group h)

pub end_requests_flow : {g : Setting} {P : List Owed → State → Type 0} (F : Flows g P) {l : List Owed} {s : State} (is : Request → Bool) (why : Asked → ClassId) → P l s → P l (Endings.end_requests g is why s)
unfolding Endings.end_requests
end_requests_flow {P = P} F {l} {s} is why h =
    each_removed F _ (filter (λ (q : Request). Endings.is_group q.asked) (filter is s.requests)) (λ m t q k. end_asked_flow F (why q.asked) q.asked k)
    (each_removed F _ (filter (λ (q : Request). not (Endings.is_group q.asked)) (filter is s.requests)) (λ m t q k. end_asked_flow F (why q.asked) q.asked k)
    (F.sorts l _ (λ (q : Request). Endings.is_group q.asked) (filter is s.requests) (F.removes l s is h)))

pub let_connection_go_flow : {g : Setting} {P : List Owed → State → Type 0} (F : Flows g P) {l : List Owed} {s : State} (conn : ℕ) → P l s → P l (Endings.let_connection_go conn s)
let_connection_go_flow F {l = l} {s} conn h = each_flow F _ _ (λ t p k. let_go_flow F p t.parked (F.takes l t p k)) (F.closes l s conn h)

end_connection_flow : {g : Setting} {P : List Owed → State → Type 0} (F : Flows g P) {l : List Owed} {s : State} (why : Asked → ClassId) (conn : ℕ) → P l s → P l (Endings.end_connection g why conn s)
unfolding Endings.end_connection
end_connection_flow F {l} {s} why conn h = some_flow F (connection_at s conn) _ h (λ c is. end_requests_flow F _ why (let_connection_go_flow F {l = l} conn h))

redial_flow : {g : Setting} {P : List Owed → State → Type 0} (F : Flows g P) {l : List Owed} {s : State} (peer : Uuid) (conn : ℕ) → P l s → P l (Endings.redial peer conn s)
unfolding Endings.redial
redial_flow F {l} {s} peer conn h = dial_flow F peer (F.quiet l _ _ refl (let_connection_go_flow F {l = l} {s = Endings.note_peer peer s} conn (F.quiet l s _ refl h)))

close_flow : {g : Setting} {P : List Owed → State → Type 0} (F : Flows g P) {l : List Owed} {s : State} (class : ClassId) (conn : ℕ) → P l s → P l (Endings.close g class conn s)
unfolding Endings.close
close_flow F {l} class conn h = F.quiet l _ _ refl (end_connection_flow F _ conn h)

-- ---- frames that come

say_hello_flow : {g : Setting} {P : List Owed → State → Type 0} (F : Flows g P) {l : List Owed} {s : State} (version conn : ℕ) → P l s → P l (Frames.say_hello g version conn s)
say_hello_flow {g} F {l} {s} version conn h =
    F.row l (send Rattle.sp_rules.specs.Events.Hellos conn (message.Hello version g.id g.digest) s) conn (λ (d : Connection). record d { version = version }) (λ d. refl) (λ d. refl) (λ d. refl) (send_flow F Rattle.sp_rules.specs.Events.Hellos conn (message.Hello version g.id g.digest) h)

first_flow : {g : Setting} {P : List Owed → State → Type 0} (F : Flows g P) {l : List Owed} {s : State} (c : Connection) (m : Message) → P l s → P l (Frames.first_frame g c m s)
unfolding Frames.first_frame
first_flow {g} {P} F {l} {s} c (message.Hello version space digest) h = some_flow F c.dialled _ (if_flow F _ (if_flow F (nat_le 2 g.version) (say_hello_flow F _ c.number known) known) (close_flow F _ c.number h))
    (λ peer is. if_flow F _ (if_flow F (version == c.version) (flush_flow F peer c.number known) (if_flow F (nat_le 2 c.version && version == 1) (redial_flow F peer c.number h) (close_flow F _ c.number h))) (close_flow F _ c.number h))
  where
    known : P l (Frames.greeted space c.number s)
    known = F.row l s c.number (λ (d : Connection). record d { peer = Some space }) (λ d. refl) (λ d. refl) (λ d. refl) h
first_flow F c _ h = close_flow F _ c.number h

call_of_flow : {g : Setting} {P : List Owed → State → Type 0} (F : Flows g P) {l : List Owed} {s : State} (conn number : ℕ) (o : Object) (method fuel : ℕ) (arguments : List Value) → P (Inbound conn number ∷ l) s → P l (Frames.call_of g conn number o method fuel arguments s)
call_of_flow {g} {P} F {l} {s} conn number o method fuel arguments h =
    if_flow F (not (g.classes.may_call o.class method) || (not (fit_kinds (g.classes.parameters method) arguments) || list_any (Holders.is_refused g s) (references_of arguments))) (send_flow F _ conn _ (F.falls l s conn number h))
    (if_flow F (Frames.is_busy s) (send_flow F _ conn _ (F.falls l s conn number h)) (park_call_flow F conn number o.id method fuel arguments _ h))

found_flow : {g : Setting} {P : List Owed → State → Type 0} (F : Flows g P) {l : List Owed} {s : State} (conn number : ℕ) (o : Option Object) → P (Inbound conn number ∷ l) s → P l (Frames.found g conn number o s)
found_flow F {l} {s} conn number None h = send_flow F _ conn _ (F.falls l s conn number h)
found_flow {g} F conn number (Some o) h = send_flow F _ conn _ (keep_flow F (state.Acked conn number) (Some (values.Ref (record { space = g.id; id = o.id; class = o.class }))) h)

got_call_flow : {g : Setting} {P : List Owed → State → Type 0} (F : Flows g P) {l : List Owed} {s : State} (c : Connection) (number : ℕ) (target : ObjId) (method fuel : ℕ) (arguments : List Value) → connection_at s c.number ≡ Some c → P l s → P l (Frames.got_call g c number target method fuel arguments s)
unfolding Frames.got_call
got_call_flow {g} {P} F {l} {s} c number target method fuel arguments is h = pick (nat_le number c.last) refl
  where
    on : nat_le number c.last ≡ false → (o : Option Object) → P l (Frames.call_on g c.number number o method fuel arguments (Frames.counted c.number number s))
    on e None = send_flow F Replies c.number (message.Threw number g.classes.no_such_object) (F.falls l _ c.number number (F.counts l s c.number number c is e h))
    on e (Some o) = call_of_flow F c.number number o method fuel arguments (F.counts l s c.number number c is e h)

    pick : (b : Bool) → nat_le number c.last ≡ b → P l (if b then Endings.close g g.classes.unmarshal c.number s else Frames.call_on g c.number number (object_at s target) method fuel arguments (Frames.counted c.number number s))
    pick true e = close_flow F _ c.number h
    pick false e = on e (object_at s target)

got_lookup_flow : {g : Setting} {P : List Owed → State → Type 0} (F : Flows g P) {l : List Owed} {s : State} (c : Connection) (number : ℕ) (name : List ℕ) → connection_at s c.number ≡ Some c → P l s → P l (Frames.got_lookup g c number name s)
unfolding Frames.got_lookup
got_lookup_flow {g} {P} F {l} {s} c number name is h = pick (nat_le number c.last) refl
  where
    pick : (b : Bool) → nat_le number c.last ≡ b → P l (if b then Endings.close g g.classes.unmarshal c.number s else Frames.found g c.number number (Frames.object_of s (registry.lookup s.owner.names name)) (Frames.counted c.number number s))
    pick true e = close_flow F _ c.number h
    pick false e = found_flow F c.number number (Frames.object_of s (registry.lookup s.owner.names name)) (F.counts l s c.number number c is e h)

release_flow : {g : Setting} {P : List Owed → State → Type 0} (F : Flows g P) {l : List Owed} {s : State} (is : KeptResult → Bool) → P l s → P l (Frames.release g is s)
unfolding Frames.release
release_flow {P = P} F {l} {s} is h = each_flow F _ _ (λ t q k. drop_flow F _ k) (F.results_go l s (λ q. not (is q)) h)

got_ack_flow : {g : Setting} {P : List Owed → State → Type 0} (F : Flows g P) {l : List Owed} {s : State} (c : Connection) (number : ℕ) → P l s → P l (Frames.got_ack g c number s)
unfolding Frames.got_ack
got_ack_flow {P = P} F {s = s} c number h = if_flow F (list_any (Frames.is_acked_by c.number number) s.results) (release_flow F _ h) (close_flow F _ c.number h)

-- a call that has no answer is out
asked-out : (conn number : ℕ) (q : Request) → ParkedFrames.is_asked_on conn number q ≡ true → ParkedFrames.is_call_on conn number q ≡ true
asked-out conn number q e = pick q.stage e
  where
    pick : (stage : state.Stage) → ParkedFrames.is_unanswered_on conn stage && ParkedFrames.has_number number q.asked ≡ true → ParkedFrames.is_out_on conn stage && ParkedFrames.has_number number q.asked ≡ true
    pick state.Waits f = f
    pick (state.Out c sequence) f = f
    pick (state.Answered c) f = absurd (true≢false (sym f))

-- the request that an answer is for, with all under its number on the connection
answered_flow : {g : Setting} {P : List Owed → State → Type 0} (F : Flows g P) {l : List Owed} {s : State} (conn number : ℕ) (q : Request) → find (ParkedFrames.is_asked_on conn number) s.requests ≡ Some q → P l s
    → P (Removed q.peer q.asked ∷ l) (ParkedFrames.remove_requests (ParkedFrames.is_call_on conn number) s)
answered_flow F {l} {s} conn number q is h = F.removes_one l s (ParkedFrames.is_asked_on conn number) (ParkedFrames.is_call_on conn number) number q is (asked-out conn number) (λ x e. both-right (ParkedFrames.is_out_on conn x.stage) _ e) h

returned_flow : {g : Setting} {P : List Owed → State → Type 0} (F : Flows g P) {l : List Owed} {s : State} (c : Connection) (number fuel : ℕ) (value : Option Value) (q : Request) → find (ParkedFrames.is_asked_on c.number number) s.requests ≡ Some q → P l s → P l (Frames.returned_for g c number fuel value q.asked s)
returned_flow {g} {P} F {l} {s} c number fuel value q is h = if_flow F _ (reply_to_flow F q.asked (Throws g.classes.unmarshal) (send_flow F Acks c.number (message.Ack number) (answered_flow F c.number number q is h)))
    (park_result_flow F c.number number value fuel (foreign_ids g.id (references_in value)) (F.answers l s c.number number h))

answered_by_flow : {g : Setting} {P : List Owed → State → Type 0} (F : Flows g P) {l : List Owed} {s : State} (c : Connection) (number : ℕ) (next : Asked → State → State) → ((q : Request) → find (ParkedFrames.is_asked_on c.number number) s.requests ≡ Some q → P l (next q.asked s)) → P l s → P l (Frames.answered_by g c number next s)
unfolding Frames.answered_by
answered_by_flow {P = P} F {s = s} c number next k h = some_flow F (find (ParkedFrames.is_asked_on c.number number) s.requests) _ (close_flow F _ c.number h) (λ q is. k q is)

ends_as_flow : {g : Setting} {P : List Owed → State → Type 0} (F : Flows g P) {l : List Owed} {s : State} (c : Connection) (number : ℕ) (reply : Asked → Reply) (q : Request) → find (ParkedFrames.is_asked_on c.number number) s.requests ≡ Some q → P l s → P l (Frames.ends_as g c number reply q.asked s)
ends_as_flow F c number reply q is h = reply_to_flow F q.asked (reply q.asked) (answered_flow F c.number number q is h)

told_by_flow : {g : Setting} {P : List Owed → State → Type 0} (F : Flows g P) {l : List Owed} {s : State} (c : Connection) (dirty : Bool) (sequence : ℕ) (event : ℕ → lease_events.Event) → P l s → P l (Frames.told_by g c dirty sequence event s)
unfolding Frames.told_by
told_by_flow {g} {P} F {l} {s} c dirty sequence event h = some_flow F (find (Frames.tells_on dirty c.number sequence) s.requests) _ (close_flow F _ c.number h) (λ q is. go_all_flow F (tells q.asked (F.removes_told l s dirty c.number sequence h)))
  where
    tells : (asked : Asked) {t : State} → P l t → P l (Frames.group_told event asked t)
    tells (Calls number task lent kind m) k = k
    tells (LooksUp number task name) k = k
    tells (Tells call group) {t = t} k = F.quiet l t _ refl k

got_flow : {g : Setting} {P : List Owed → State → Type 0} (F : Flows g P) {l : List Owed} {s : State} (c : Connection) (m : Message) → connection_at s c.number ≡ Some c → P l s → P l (Frames.got g c m s)
unfolding Frames.got Frames.got_dirty Frames.got_clean
got_flow F c (message.Hello version space digest) is h = close_flow F _ c.number h
got_flow F c (message.Call number object method fuel arguments) is h = got_call_flow F c number object method fuel arguments is h
got_flow F c (message.Returned number fuel value) is h = answered_by_flow F c number _ (λ q asked. returned_flow F c number fuel value q asked h) h
got_flow {g} F c (message.Threw number class) is h = answered_by_flow F c number _ (λ q asked. ends_as_flow F c number (λ a. Frames.thrown_reply g class) q asked h) h
got_flow {g} F c (message.Spent number) is h = answered_by_flow F c number _ (λ q asked. ends_as_flow F c number (Frames.spent_reply g) q asked h) h
got_flow F c (message.Ack number) is h = got_ack_flow F c number h
got_flow F {l} {s} c (message.Dirty sequence period objects) is h = if_flow F (Frames.fit_frame c objects) (send_flow F _ c.number _ (F.quiet l s _ refl h)) (close_flow F _ c.number h)
got_flow F c (message.Lease sequence period) is h = told_by_flow F c true sequence (λ call. lease_events.DirtyAnswered call period) h
got_flow F {l} {s} c (message.Clean sequence strong objects) is h = if_flow F (Frames.fit_frame c objects) (send_flow F _ c.number _ (F.quiet l s _ refl h)) (close_flow F _ c.number h)
got_flow F c (message.Cleaned sequence) is h = told_by_flow F c false sequence lease_events.CleanAnswered h
got_flow F c (message.Lookup number name) is h = got_lookup_flow F c number name is h

received_flow : {g : Setting} {P : List Owed → State → Type 0} (F : Flows g P) {l : List Owed} {s : State} (conn : ℕ) (c : Option Connection) (m : Message) → connection_at s conn ≡ c → P l s → P l (OwnEvents.received_on g c m s)
unfolding Frames.receive
received_flow F conn None m e h = h
received_flow {P = P} F {s = s} conn (Some c) m e h = if_flow F (is_none c.peer) (first_flow F c m h) (if_flow F _ (close_flow F _ c.number h)
    (got_flow F c m (subst (λ n. connection_at s n ≡ Some c) (sym (eqb-true c.number conn (found-is (λ (d : Connection). d.number == conn) s.connections c e))) e) h))

-- ---- own events

moment_flow : {g : Setting} {P : List Owed → State → Type 0} (F : Flows g P) {l : List Owed} {s : State} (moment : ℕ) → P l s → P l (OwnEvents.on_moment g moment s)
unfolding OwnEvents.on_moment
moment_flow {P = P} F {l} {s} moment h = if_flow F (nat_lt moment s.moment) h (release_flow F _ (F.quiet l s _ refl h))

sweep_flow : {g : Setting} {P : List Owed → State → Type 0} (F : Flows g P) {l : List Owed} {s : State} → P l s → P l (OwnEvents.on_sweep g s)
unfolding OwnEvents.on_sweep
sweep_flow {g} {P} F {l} {s} h = sweeps (OwnEvents.without_reason g s)
  where
    sweeps : (gone : List Object) → P l (OwnEvents.sweep_of g s gone)
    sweeps [] = h
    sweeps (o ∷ os) = F.quiet l _ _ refl (each_flow F _ (o ∷ os) (λ t p k. drop_flow F _ k) (each_flow F _ _ (λ t id k. F.quiet l t _ refl k) (F.quiet l s _ refl h)))

names_flow : {g : Setting} {P : List Owed → State → Type 0} (F : Flows g P) {l : List Owed} {s : State} (x : Result (List Binding) RegistryFault) → P l s → P l (OwnEvents.set_names x s)
unfolding OwnEvents.set_names
names_flow F {l} {s} (Ok names) h = F.quiet l s _ refl h
names_flow F {l} {s} (Err why) h = F.quiet l s _ refl h

lookup_flow : {g : Setting} {P : List Owed → State → Type 0} (F : Flows g P) {s : State} (peer : Uuid) (name : List ℕ) → Begins g P s (Lookup peer name) → P [] s → P [] (OwnEvents.on_lookup g peer name s)
unfolding OwnEvents.on_lookup
lookup_flow {P = P} F {s} peer name B h = if_flow F (is_name name) (F.quiet [] _ _ refl (B.looks peer name refl h)) (F.quiet [] s _ refl h)

opened_flow : {g : Setting} {P : List Owed → State → Type 0} (F : Flows g P) {s : State} (conn : ℕ) (dialled : Option Uuid) → Begins g P s (Opened conn dialled) → P [] s → P [] (OwnEvents.on_opened g conn dialled s)
unfolding OwnEvents.on_opened
opened_flow {g} F conn None B h = if_flow F (nat_le 2 g.version) (B.opens conn None refl h) (say_hello_flow F {l = []} 1 conn (B.opens conn None refl h))
opened_flow F {s} conn (Some peer) B h = say_hello_flow F {l = []} {s = OwnEvents.dialled_no_more (Some peer) (OwnEvents.add_connection conn (Some peer) s)} _ conn (F.quiet [] _ _ refl (B.opens conn (Some peer) refl h))

refused_flow : {g : Setting} {P : List Owed → State → Type 0} (F : Flows g P) {l : List Owed} {s : State} (peer : Uuid) → P l s → P l (OwnEvents.on_refused g peer s)
unfolding OwnEvents.on_refused
refused_flow F {l} {s} peer h = end_requests_flow F (Requests.waits_for peer) _ (F.quiet l s _ refl h)

-- ---- events

happen_flow : {g : Setting} {P : List Owed → State → Type 0} (F : Flows g P) {s : State} (e : Event) → Begins g P s e → P [] s → P [] (Space.happen g e s)
unfolding Space.happen Endings.fail_write
happen_flow F (Moment moment) B h = moment_flow F moment h
happen_flow F Sweep B h = sweep_flow F h
happen_flow F (Root method arguments fuel) B h = add_task_flow F OfRoot method arguments fuel h
happen_flow F (RootAck task) B h = release_flow F _ h
happen_flow F (Bind name value) B h = names_flow F _ h
happen_flow F (Rebind name value) B h = names_flow F _ h
happen_flow F (Unbind name) B h = names_flow F _ h
happen_flow F (Lookup peer name) B h = lookup_flow F peer name B h
happen_flow F (Opened conn dialled) B h = opened_flow F conn dialled B h
happen_flow F (Refused peer) B h = refused_flow F peer h
happen_flow F {s} (Received conn m) B h = received_flow F conn (connection_at s conn) m refl h
happen_flow F (Closed conn) B h = end_connection_flow F _ conn h
happen_flow F (ReadFailed conn) B h = end_connection_flow F _ conn h
happen_flow F (Bad conn) B h = end_connection_flow F _ conn h
happen_flow F (WriteFailed conn unsent) B h = end_connection_flow F _ conn h
happen_flow F (Committed task k op) B h = commit_flow F task k op h
happen_flow F (Parked task k) B h = park_flow F task k B h
happen_flow F (GivenBack task k) B h = give_back_flow F task k h
happen_flow F (Finished task k) B h = finish_flow F task k h

pub sent_flow : {g : Setting} {P : List Owed → State → Type 0} (F : Flows g P) {l : List Owed} {s : State} (o : Output) → P l s → P l (Space.record_sent s o)
sent_flow F (Started task) h = h
sent_flow F (Ended task outcome) h = h
sent_flow F (Withdrawn ids) h = h
sent_flow F (Denied why) h = h
sent_flow F {l} {s} (Send conn m) h = F.row l s conn (λ (c : Connection). record c { sent = m ∷ c.sent }) (λ c. refl) (λ c. refl) (λ c. refl) h
sent_flow F (Dial peer) h = h
sent_flow F (Close conn) h = h
sent_flow F (Ready task) h = h

pub finish_event_flow : {g : Setting} {P : List Owed → State → Type 0} (F : Flows g P) {s : State} (answers : Bool) → P [] s → P [] (Space.finish_event answers s).0
finish_event_flow {P = P} F true h = each_flow F _ _ (λ u o j. sent_flow F o j) (F.quiet [] _ _ refl (settle_flow F h))
finish_event_flow F false h = h

-- what the moves keep, an event keeps
pub on_flow : {g : Setting} {P : List Owed → State → Type 0} (F : Flows g P) (s : State) (e : Event) → Begins g P s e → P [] s → P [] (Space.on g e s).0
unfolding Space.on
on_flow F s e B h = finish_event_flow F (Space.answers_outputs e) (happen_flow F e B h)
