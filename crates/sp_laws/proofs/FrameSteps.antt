-- Requests, tasks and parked frames, and connections that end: each rule keeps what the moves keep.
use mathlib.Core.Path.{sym, ap, subst}
use Rattle.std.proofs.Common.{inl, inr, arith, length-take}
use Rattle.std.proofs.lemmas.Bool.{true≢false}
use Rattle.std.specs.Prelude.{◌≡◌, ◌≤◌, refl, ℕ, zero, suc, ◌+◌, ◌==◌, ◌&&◌, ◌||◌, not, nat_le, length, take, drop, map, is_some, is_none, Bool, true, false, List, [], ◌∷◌, ◌++◌, Option, None, Some, filter, find, if◌then◌else◌}
use Rattle.space_ids.specs.declared.ids.ClassId.{ClassId}
use Rattle.dgc_client.specs.Groups as groups
use Rattle.dgc_client.specs.History as lease_events
use Rattle.dgc_client.specs.Lease as lease
use Rattle.dgc_client.specs.Table as client
use Rattle.dgc_client.specs.declared.groups.Group.{Group}
use Rattle.dgc_client.specs.declared.lease.Due.TheVariants as due
use Rattle.dgc_client.specs.declared.lease.Due.{Due}
use Rattle.space_ids.specs.declared.ids.ForeignId.{ForeignId}
use Rattle.net_message.specs.declared.message.Message.TheVariants as message
use Rattle.uuid.specs.declared.Uuid.{Uuid}
use Rattle.space_ids.specs.declared.ids.ObjId.{ObjId}
use Rattle.space_ids.specs.declared.value.Value.{Value}
use Rattle.sp_rules.specs.Behaviours.{Outcome, Returned, Threw, Spent, Op, Create, Get, Put, Call, Reply, Throws}
use Rattle.sp_rules.specs.Classes.{Setting}
use Rattle.sp_rules.specs.Endings
use Rattle.sp_rules.specs.Events.{Ended, Turn, Received, Parked, Finished, Dial, Close, Ready}
use Rattle.sp_rules.specs.Frames
use Rattle.sp_rules.specs.Holders
use Rattle.sp_rules.specs.Holders.{hold_ids, drop_ids}
use Rattle.sp_rules.specs.Laws.{AllOf}
use Rattle.sp_rules.specs.Lists.{each, with_some}
use Rattle.sp_rules.specs.LivingTasks
use Rattle.sp_rules.specs.ParkedFrames
use Rattle.sp_rules.specs.References.{references_in, foreign_ids}
use Rattle.sp_rules.specs.Requests
use Rattle.sp_rules.specs.Space
use Rattle.sp_rules.specs.State as state
use Rattle.sp_rules.specs.State.{State, Object, Made, Written, Living, Origin, OfRoot, OfCall, Until, Request, Asked, Calls, LooksUp, Tells, Connection, KeptResult, Frame, CallFrame, ReturnedFrame, ParkedFrame, task_at, ready_at, object_at, connection_at, connection_to, is_open, set_task, say, send}
use Rattle.sp_rules.specs.Tasks.{Stand, Runs, AsksFor, HasEnded, stand, steps, answer, gained}
use Rattle.sp_rules.proofs.AllLemmas.{found-is, all-found, all-filter, all-weaken}
use Rattle.sp_rules.proofs.OwnLemmas.{some-same}
use Rattle.sp_rules.proofs.ReadyLemmas.{ready-is}
use Rattle.sp_laws.proofs.FlowRules.{Owed, Removed, Inbound, of_origin, of_until}
use Rattle.sp_laws.proofs.ShutLemmas.{connection-ends, connection-goes}
use Rattle.sp_laws.specs.Sent.{IsCallRefusal}
use Rattle.sp_laws.proofs.FrameFlows.{HasComeOn, View, IsFrom, CanSend, IsKeptIn, IsHeldFor, is_finish, is_ending, is_storing, ending-goes, ending-apart, out, Flows, Begins, if_flow, some_flow, each_flow, each_known_flow, each_removed, send_flow, hold_flow, drop_flow, let_go_flow}

-- ---- requests

-- a dirty or clean call goes to the space that was dialled
pub group-goes : (V : View) (conn sequence : ℕ) (ids : List ObjId) → V.Dialled conn true → V.Fits conn ids → (kind : Due) → CanSend V conn (Requests.group_frame kind sequence ids)
group-goes V conn sequence ids there fits due.Dirty = (there, fits)
group-goes V conn sequence ids there fits (due.Clean strong) = (there, fits)

pieces-fit : (count most : ℕ) (group : Group) (ids : List ObjId) → AllOf (λ (part : Group). length part.ids ≤ most) (map (groups.part_of group) (groups.pieces_within count most ids))
pieces-fit zero most group ids = tt
pieces-fit (suc count) most group [] = tt
pieces-fit (suc count) most group (id ∷ ids) =
    let short : length (take most (id ∷ ids)) ≤ most = omega (arith, length-take most (id ∷ ids)) in
    (short, pieces-fit count most group (drop most (id ∷ ids)))

-- each part of a group fits a frame of the connection
parts-fit : {V : View} (F : Flows V) {l : List Owed} {s : State} (conn : ℕ) (group : Group) → V.Keeps l s → AllOf (λ (part : Group). V.Fits conn part.ids) (groups.parts_of (Requests.most_on s conn) group)
parts-fit {V} F {l} {s} conn group h = all-weaken (λ (part : Group). length part.ids ≤ Requests.most_on s conn) (λ (part : Group). V.Fits conn part.ids) (groups.parts_of (Requests.most_on s conn) group)
    (λ part few. F.fits l s conn part.ids few h) (pieces-fit (length group.ids) (Requests.most_on s conn) group group.ids)

-- a dirty or clean call is no result
pub group-held : (results : List KeptResult) (conn sequence : ℕ) (ids : List ObjId) (kind : Due) → IsHeldFor results conn (Requests.group_frame kind sequence ids)
group-held results conn sequence ids due.Dirty = tt
group-held results conn sequence ids (due.Clean strong) = tt

pub part_flow : {V : View} (F : Flows V) {l : List Owed} {s : State} (turn : Turn) (conn call : ℕ) (part : Group) → V.Dialled conn true → V.Fits conn part.ids → V.Keeps l s → V.Keeps l (Requests.part_goes_out turn conn call s part)
unfolding Requests.part_goes_out
part_flow {V} F {l} {s} turn conn call part there fits h = send_flow F turn conn _ (group-goes V conn (client.numbers_of s.leases + 1) part.ids there fits part.kind) (group-held s.results conn (client.numbers_of s.leases + 1) part.ids part.kind) (F.tells l _ _ call part refl (F.quiet l s (record s { leases = client.sent part call s.leases }) refl h))

pub go_out_flow : {V : View} (F : Flows V) {l : List Owed} {s : State} (turn : Turn) (conn : ℕ) (q : Request) → V.Dialled conn true → V.Keeps (Removed q.peer q.asked ∷ l) s → V.Keeps l (Requests.go_out turn conn q s)
unfolding Requests.go_out send
go_out_flow {V} F {l} {s} turn conn q there h = goes q.asked h
  where
    goes : (asked : Asked) → V.Keeps (Removed q.peer asked ∷ l) s → V.Keeps l (Requests.goes_out turn conn q.peer asked s)
    goes (Calls number task lent kind m) k = by (is_open s conn) refl
      where
        by : (b : Bool) → is_open s conn ≡ b → V.Keeps l (if b then out turn conn m (record { peer = q.peer; asked = Calls number task lent kind m; stage = state.Out conn 0 }) s else Requests.add_request (record { peer = q.peer; asked = Calls number task lent kind m; stage = state.Out conn 0 }) s)
        by true e = F.calls_out l s turn conn q.peer number task lent kind m there e k
        by false e = F.adds l s (record { peer = q.peer; asked = Calls number task lent kind m; stage = state.Out conn 0 }) k
    goes (LooksUp number task name) k = by (is_open s conn) refl
      where
        by : (b : Bool) → is_open s conn ≡ b → V.Keeps l (if b then out turn conn (message.Lookup number name) (record { peer = q.peer; asked = LooksUp number task name; stage = state.Out conn 0 }) s else Requests.add_request (record { peer = q.peer; asked = LooksUp number task name; stage = state.Out conn 0 }) s)
        by true e = F.looks_out l s turn conn q.peer number task name there e k
        by false e = F.adds l s (record { peer = q.peer; asked = LooksUp number task name; stage = state.Out conn 0 }) k
    goes (Tells call group) k =
        let told : V.Keeps l s = F.told l s q.peer call group k in
        each_known_flow F (λ (part : Group). V.Fits conn part.ids) _ _ (parts-fit F conn group told) (λ t part fits j. part_flow F turn conn call part there fits j) told

pub dial_flow : {V : View} (F : Flows V) {l : List Owed} {s : State} (peer : Uuid) → V.Keeps l s → V.Keeps l (Requests.dial peer s)
unfolding Requests.dial
dial_flow {V} F {l} {s} peer h = if_flow F (is_some (connection_to s peer) || state.is_dialling s peer) h (F.says l _ (Dial peer) refl tt (F.quiet l s (record s { dialling = s.dialling ++ peer ∷ [] }) refl h))

-- if a Hello came from a space that was dialled, this space dialled it
pub hello-row : (o : Option Connection) (conn : ℕ) → Requests.hello_came o ≡ Some conn → (c : Connection) × ((o ≡ Some c) × ((c.number ≡ conn) × (is_some c.peer ≡ true)))
hello-row None conn e = absurd (Rattle.sp_rules.proofs.AllLemmas.some-none conn (sym e))
hello-row (Some c) conn e = pick (is_some c.peer) refl e
  where
    pick : (b : Bool) → is_some c.peer ≡ b → (if b then Some c.number else None) ≡ Some conn → (d : Connection) × ((Some c ≡ Some d) × ((d.number ≡ conn) × (is_some d.peer ≡ true)))
    pick true g f = (c, (refl, (some-same f, g)))
    pick false g f = absurd (Rattle.sp_rules.proofs.AllLemmas.some-none conn (sym f))

pub is-dialled : (peer : Uuid) (o : Option Uuid) → state.is_to peer o ≡ true → is_some o ≡ true
is-dialled peer None e = absurd (true≢false (sym e))
is-dialled peer (Some d) e = refl

pub hello-there : {V : View} (F : Flows V) {l : List Owed} {s : State} (peer : Uuid) (conn : ℕ) → Requests.hello_came (connection_to s peer) ≡ Some conn → V.Keeps l s → V.Dialled conn true
hello-there {V} F {l} {s} peer conn e h =
    let x = hello-row (connection_to s peer) conn e in
    let d : is_some x.0.dialled ≡ true = is-dialled peer x.0.dialled (found-is (λ (c : Connection). state.is_to peer c.dialled) s.connections x.0 x.1.0) in
    subst (λ n. V.Dialled n true) x.1.1.0 (subst (V.Dialled x.0.number) d
    (all-found (λ (c : Connection). is_some c.peer ≡ true → V.Dialled c.number (is_some c.dialled)) (λ (c : Connection). state.is_to peer c.dialled) s.connections x.0 x.1.0 (F.dialled l s h) x.1.1.1))

pub ask_flow : {V : View} (F : Flows V) {l : List Owed} {s : State} (q : Request) → V.Keeps (Removed q.peer q.asked ∷ l) s → V.Keeps l (Requests.ask s q)
unfolding Requests.ask
ask_flow {V} F {l} {s} q h = some_flow F (Requests.hello_came (connection_to s q.peer)) _ (dial_flow F q.peer (F.adds l s q h)) (λ conn is. go_out_flow F _ conn q (hello-there F q.peer conn is h) h)

pub flush_flow : {V : View} (F : Flows V) {l : List Owed} {s : State} (peer : Uuid) (conn : ℕ) → V.Dialled conn true → V.Keeps l s → V.Keeps l (Requests.flush_waiting peer conn s)
unfolding Requests.flush_waiting
flush_flow {V} F {l} {s} peer conn there h = each_removed F _ (filter (Requests.waits_for peer) s.requests) (λ m t q k. go_out_flow F _ conn q there k) (F.removes l s (Requests.waits_for peer) h)

pub make_group_flow : {V : View} (F : Flows V) {l : List Owed} {s : State} (b : Group) → V.Keeps l s → V.Keeps l (Requests.make_group s b)
unfolding Requests.make_group Requests.ask Requests.go_out
make_group_flow {V} F {l} {s} b h = some_flow F (Requests.hello_came (connection_to made b.peer)) _ (dial_flow F b.peer (F.tells l made _ (s.groups_made + 1) b refl kept)) (λ conn is. outs conn (hello-there F b.peer conn is kept))
  where
    made : State
    made = record s { groups_made = s.groups_made + 1; leases = client.made b (s.groups_made + 1) s.leases }

    kept : V.Keeps l made
    kept = F.quiet l s _ refl h

    outs : (conn : ℕ) → V.Dialled conn true → V.Keeps l (Requests.go_out (Requests.turn_of b.kind) conn (record { peer = b.peer; asked = Tells (s.groups_made + 1) b; stage = state.Waits }) made)
    outs conn there = each_known_flow F (λ (part : Group). V.Fits conn part.ids) _ _ (parts-fit F conn b kept) (λ t part fits j. part_flow F _ conn (s.groups_made + 1) part there fits j) kept

pub settle_flow : {V : View} (F : Flows V) {s : State} → V.Keeps [] s → V.Keeps [] (Requests.settle s)
unfolding Requests.settle Requests.make_due Requests.ask_fresh
settle_flow {V} F {s} h = asks (Requests.make_due s) (each_flow F _ _ (λ t b k. make_group_flow F b k) h)
  where
    asks : (t : State) → V.Keeps [] t → V.Keeps [] (each Requests.ask t.fresh (record t { fresh = [] }))
    asks t k = each_removed F {l = []} Requests.ask t.fresh (λ m u q j. ask_flow F q j) (F.unfresh [] t k)

-- ---- tasks

pub add_task_flow : {V : View} (F : Flows V) {l : List Owed} {s : State} (origin : Origin) (method : ℕ) (arguments : List Value) (fuel : ℕ) → is_finish V.event ≡ false → V.Starts origin method arguments → V.Keeps (of_origin origin ++ l) s → V.Keeps l (LivingTasks.add_task V.setting origin method arguments fuel s)
unfolding LivingTasks.add_task
add_task_flow {V} F {l} {s} origin method arguments fuel going at h = F.says l _ _ refl tt (hold_flow F _ (F.says l _ _ refl tt (F.begins l s origin method arguments fuel going at h)))

pub keep_flow : {V : View} (F : Flows V) {l : List Owed} {s : State} (until : Until) (value : Option Value) → V.Keeps (of_until until ++ l) s → V.Keeps l (LivingTasks.keep V.setting until value s)
keep_flow F {l} {s} until value h = hold_flow F _ (F.keeps l s until value h)

-- what is not kept falls away
pub until_falls : {V : View} (F : Flows V) {l : List Owed} {s : State} (until : Until) → V.Keeps (of_until until ++ l) s → V.Keeps l s
until_falls F (state.RootAcked task) h = h
until_falls F {l} {s} (state.Acked conn number) h = F.falls l s conn number h
until_falls F (state.Passed moment) h = h

pub keep_result_flow : {V : View} (F : Flows V) {l : List Owed} {s : State} (until : Until) (outcome : Outcome) → V.Keeps (of_until until ++ l) s → V.Keeps l (LivingTasks.keep_result V.setting until outcome s)
keep_result_flow F until (Returned value) h = keep_flow F until value h
keep_result_flow F until (Threw class) h = until_falls F until h
keep_result_flow F until Spent h = until_falls F until h

-- an outcome is answered on a connection that a peer dialled
pub reply-goes : (V : View) (conn number fuel : ℕ) → V.Dialled conn false → (outcome : Outcome) → V.Answers conn (LivingTasks.reply_frame V.setting number fuel outcome) → CanSend V conn (LivingTasks.reply_frame V.setting number fuel outcome)
reply-goes V conn number fuel there (Returned value) answers = (there, answers)
reply-goes V conn number fuel there (Threw class) answers = (there, answers)
reply-goes V conn number fuel there Spent answers = (there, answers)

-- what is known of the answer to a task of this origin
abbrev pub AnswersTo : View → Origin → ℕ → Outcome → Type 0
AnswersTo V origin fuel outcome = (conn number : ℕ) → origin ≡ OfCall conn number → V.Answers conn (LivingTasks.reply_frame V.setting number fuel outcome)

-- as a result is answered it is held
pub kept-last : (xs : List KeptResult) (k : KeptResult) → IsKeptIn k (xs ++ k ∷ [])
kept-last [] k = inl refl
kept-last (x ∷ xs) k = inr (kept-last xs k)

pub hold-results : (ids : List ForeignId) (s : State) → (hold_ids ids s).results ≡ s.results
unfolding hold_ids each
hold-results [] s = refl
hold-results (r ∷ ids) s = hold-results ids (Holders.holder_comes s r)

pub keep-held : (g : Setting) (conn number : ℕ) (value : Option Value) (s : State) → IsKeptIn (record { until = state.Acked conn number; value = value }) (LivingTasks.keep g (state.Acked conn number) value s).results
keep-held g conn number value s = subst (IsKeptIn (record { until = state.Acked conn number; value = value })) (sym (hold-results (foreign_ids g.id (references_in value)) (record s { results = s.results ++ record { until = state.Acked conn number; value = value } ∷ [] })))
    (kept-last s.results (record { until = state.Acked conn number; value = value }))

pub outcome-held : (g : Setting) (conn number fuel : ℕ) (outcome : Outcome) (s : State) → IsHeldFor (LivingTasks.keep_result g (state.Acked conn number) outcome s).results conn (LivingTasks.reply_frame g number fuel outcome)
outcome-held g conn number fuel (Returned value) s = keep-held g conn number value s
outcome-held g conn number fuel (Threw class) s = tt
outcome-held g conn number fuel Spent s = tt

pub report_flow : {V : View} (F : Flows V) {l : List Owed} {s : State} (origin : Origin) (id fuel : ℕ) (outcome : Outcome) → IsFrom V origin → AnswersTo V origin fuel outcome → V.Keeps (of_origin origin ++ l) s → V.Keeps l (LivingTasks.report V.setting origin id fuel outcome s)
report_flow F OfRoot id fuel outcome from says h = keep_result_flow F (state.RootAcked id) outcome h
report_flow {V} F {l} {s} (OfCall conn number) id fuel outcome from says h = if_flow F (is_open s conn) (send_flow F _ conn _ (reply-goes V conn number fuel from outcome (says conn number refl)) (outcome-held V.setting conn number fuel outcome s) (keep_result_flow F (state.Acked conn number) outcome h)) (F.falls l s conn number h)

pub end_with_flow : {V : View} (F : Flows V) {l : List Owed} {s : State} (id : ℕ) (t u : Living) (outcome : Outcome) → AnswersTo V t.origin t.task.fuel outcome → is_finish V.event ≡ true → ((made : ℕ) × (V.event ≡ Finished id made)) → ready_at s id ≡ Some u → t.origin ≡ u.origin → V.Keeps l s → V.Keeps l (LivingTasks.end_with V.setting id t outcome s)
end_with_flow {V} F {l} {s} id t u outcome says over ended is same h = drop_flow F _ (report_flow F t.origin id t.task.fuel outcome
    (subst (IsFrom V) (sym same) (all-found (λ (v : Living). IsFrom V v.origin) (λ (v : Living). v.id == id) s.tasks u (ready-is (task_at s id) u is).0 (F.origins l s h))) says
    (F.says _ _ (Ended id outcome) refl ended (F.quiet _ (record s { tasks = filter (λ (v : Living). not (v.id == id)) s.tasks }) (record s { tasks = filter (λ (v : Living). not (v.id == id)) s.tasks; retired = s.retired + t.task.made }) refl (subst (λ o. V.Keeps (of_origin o ++ l) (record s { tasks = filter (λ (v : Living). not (v.id == id)) s.tasks })) (sym same) (F.ends l s id u over is h)))))

pub reply_to_flow : {V : View} (F : Flows V) {l : List Owed} {s : State} {peer : Uuid} (asked : Asked) (reply : Reply) → V.Ends asked reply → V.Keeps (Removed peer asked ∷ l) s → V.Keeps l (LivingTasks.reply_to V.setting asked reply s)
unfolding LivingTasks.reply_to LivingTasks.reply_task
reply_to_flow {V} F {l} {s} {peer} (Calls number task lent kind m) reply may h = pick (task_at s task) refl
  where
    pick : (found : Option Living) → task_at s task ≡ found
        → V.Keeps l (with_some found s (λ t. state.say (Ready task) (Holders.hold V.setting (gained t.task (answer V.setting reply t.task)) (set_task (LivingTasks.after_reply V.setting reply) task s))))
    pick None is = F.replies_none l s peer number task lent kind m is h
    pick (Some t) is = F.says l _ _ refl tt (hold_flow F _ (F.replies l s peer number task lent kind m reply t may is h))
reply_to_flow F {l} {s} {peer} (LooksUp number task name) reply may h = keep_result_flow F (state.RootAcked task) (LivingTasks.outcome_of reply) (F.looked_up l s peer number task name reply may h)
reply_to_flow F {l} {s} {peer} (Tells call group) reply may h = F.told l s peer call group h

pub after_op_flow : {V : View} (F : Flows V) {l : List Owed} {s : State} (op : Op) → is_storing V.event ≡ true → V.Keeps l s → V.Keeps l (LivingTasks.after_op V.setting op s)
unfolding LivingTasks.after_op
after_op_flow {V} F {l} {s} (Create class) storing h = if_flow F (LivingTasks.is_full s) h (F.quiet l (record s { store = Made (LivingTasks.next_object s) class ∷ s.store }) _ refl (F.stores l s (Made (LivingTasks.next_object s) class ∷ s.store) storing h))
after_op_flow F (Get id slot) storing h = h
after_op_flow F {l} {s} (Put id slot value) storing h = drop_flow F _ (hold_flow F _ (F.stores l s (Written id slot value ∷ s.store) storing h))
after_op_flow F (Call target method arguments) storing h = h

pub commit_flow : {V : View} (F : Flows V) {l : List Owed} {s : State} (id k : ℕ) (op : Op) → Space.answers_outputs V.event ≡ false → is_storing V.event ≡ true → V.Keeps l s → V.Keeps l (LivingTasks.commit V.setting id k op s)
unfolding LivingTasks.commit
commit_flow {V} F {l} {s} id k op lent storing h = some_flow F (ready_at s id) _ h (λ t is. after_op_flow F op storing (hold_flow F _
    (F.works l s id t (λ (u : Living). LivingTasks.after_reply V.setting (LivingTasks.op_reply V.setting op s) (LivingTasks.after_steps k u)) lent (record { id = λ u. refl; origin = λ u. refl }) refl is h)))

pub give_back_flow : {V : View} (F : Flows V) {l : List Owed} {s : State} (id k : ℕ) → Space.answers_outputs V.event ≡ false → V.Keeps l s → V.Keeps l (LivingTasks.give_back id k s)
unfolding LivingTasks.give_back
give_back_flow {V} F {l} {s} id k lent h = some_flow F (ready_at s id) _ h (λ t is. F.works l s id t (LivingTasks.after_steps k) lent (record { id = λ u. refl; origin = λ u. refl }) (ready-is (task_at s id) t is).1 is h)

pub park_flow : {V : View} (F : Flows V) {s : State} (id k : ℕ) → V.event ≡ Parked id k → Begins V s → V.Keeps [] s → V.Keeps [] (LivingTasks.park_call V.setting id k s)
unfolding LivingTasks.park_call
park_flow {V} F {s} id k same B h = some_flow F (ready_at s id) _ h (λ t is. at t is (stand (steps k t.task)) refl)
  where
    parks : (t : Living) → ready_at s id ≡ Some t → (op : Op) → stand (steps k t.task) ≡ AsksFor op → V.Keeps [] (LivingTasks.park_op V.setting id k t op s)
    parks t is (Create class) e = h
    parks t is (Get o slot) e = h
    parks t is (Put o slot value) e = h
    parks t is (Call target method arguments) e = B.parks id k t target method arguments same is e h

    at : (t : Living) → ready_at s id ≡ Some t → (stands : Stand) → stand (steps k t.task) ≡ stands → V.Keeps [] (LivingTasks.park_at V.setting id k t stands s)
    at t is Runs e = h
    at t is (AsksFor op) e = parks t is op e
    at t is (HasEnded outcome) e = h

pub finish_flow : {V : View} (F : Flows V) {s : State} (id k : ℕ) → V.event ≡ Finished id k → Begins V s → V.Keeps [] s → V.Keeps [] (LivingTasks.finish_task V.setting id k s)
unfolding LivingTasks.finish_task
finish_flow {V} F {s} id k same B h = some_flow F (ready_at s id) _ h (λ t is. at t is (stand (steps k t.task)) refl)
  where
    at : (t : Living) → ready_at s id ≡ Some t → (stands : Stand) → stand (steps k t.task) ≡ stands → V.Keeps [] (LivingTasks.end_at V.setting id (LivingTasks.after_steps k t) stands s)
    at t is Runs e = h
    at t is (AsksFor op) e = h
    at t is (HasEnded outcome) e = end_with_flow F id (LivingTasks.after_steps k t) t outcome (λ conn number origin. B.finished id k t outcome conn number same is e origin) (ap is_finish same) (k, same) is refl h

-- ---- parked frames

-- a call is answered by an exception
pub refused : {V : View} (F : Flows V) → is_ending V.event ≡ true → (conn number : ℕ) (class : ClassId) → IsCallRefusal V.setting class → V.Answers conn (message.Threw number class)
refused {V} F going conn number class why = F.refuses conn number class (record { apart = ending-apart V.event going; why = inl why })

pub start_call_flow : {V : View} (F : Flows V) {l : List Owed} {s : State} (p : ParkedFrame) (target : ObjId) (method fuel : ℕ) (arguments : List Value) → is_ending V.event ≡ true → V.Dialled p.conn false → V.Known p → p.frame ≡ CallFrame target method fuel arguments → V.Keeps (Inbound p.conn p.number ∷ l) s
    → V.Keeps l (ParkedFrames.start_call V.setting p target method fuel arguments s)
unfolding ParkedFrames.start_call
start_call_flow {V} F {l} {s} p target method fuel arguments going there known e h = some_flow F (object_at s target) _ (F.falls l s p.conn p.number h) (λ o is. selected o is (V.setting.classes.selected o.class method) refl)
  where
    selected : (o : Object) → object_at s target ≡ Some o → (found : Option ℕ) → V.setting.classes.selected o.class method ≡ found
        → V.Keeps l (ParkedFrames.start_selected V.setting p.conn p.number (record { space = V.setting.id; id = target; class = o.class }) found fuel arguments s)
    selected o is None x = send_flow F _ p.conn _ (there, refused F going p.conn p.number _ (inr (inr refl))) tt (F.falls l s p.conn p.number h)
    selected o is (Some m) x = add_task_flow F (OfCall p.conn p.number) m _ fuel (ending-goes V.event going) (F.starts (Inbound p.conn p.number ∷ l) s p target method fuel arguments o m going h known e is x) h

pub both-right : (a b : Bool) → a && b ≡ true → b ≡ true
both-right true b e = e
both-right false b e = absurd (true≢false (sym e))

pub answer_parked_flow : {V : View} (F : Flows V) {l : List Owed} {s : State} (p : ParkedFrame) (reply : Reply) → V.Dialled p.conn true → ((asked : Asked) → ParkedFrames.has_number p.number asked ≡ true → V.Ends asked reply) → V.Keeps l s → V.Keeps l (ParkedFrames.answer_parked V.setting p reply s)
unfolding ParkedFrames.answer_parked
answer_parked_flow {V} F {l} {s} p reply there may h = some_flow F (find (ParkedFrames.is_call_on p.conn p.number) s.requests) _ h (λ q is. reply_to_flow F q.asked reply (may q.asked (both-right (ParkedFrames.is_out_on p.conn q.stage) _ (found-is (ParkedFrames.is_call_on p.conn p.number) s.requests q is))) (send_flow F _ p.conn (message.Ack p.number) there tt
    (F.removes_one l s (ParkedFrames.is_call_on p.conn p.number) (ParkedFrames.is_call_on p.conn p.number) p.number q is (λ x e. e) (λ x e. both-right (ParkedFrames.is_out_on p.conn x.stage) _ e) h)))

pub go_flow : {V : View} (F : Flows V) {l : List Owed} {s : State} (p : ParkedFrame) → is_ending V.event ≡ true → V.Keeps l s → V.Keeps l (ParkedFrames.go V.setting s p)
unfolding ParkedFrames.go
go_flow {V} F {l} {s} p going h = some_flow F (find (ParkedFrames.is_parked_at p.conn p.number) s.parked) _ h (λ q is. let_go_flow F p s.parked (frame q q.frame refl is))
  where
    known : (q : ParkedFrame) → find (ParkedFrames.is_parked_at p.conn p.number) s.parked ≡ Some q → V.Known q
    known q is = all-found V.Known (ParkedFrames.is_parked_at p.conn p.number) s.parked q is (F.known l s h)

    sided : (q : ParkedFrame) {f : Frame} → q.frame ≡ f → V.Known q → V.Dialled q.conn (not (Frames.is_call_frame f))
    sided q e k = subst (λ f. V.Dialled q.conn (not (Frames.is_call_frame f))) e (F.sided q k)

    frame : (q : ParkedFrame) (f : Frame) → q.frame ≡ f → find (ParkedFrames.is_parked_at p.conn p.number) s.parked ≡ Some q → V.Keeps l (ParkedFrames.go_frame V.setting q f (ParkedFrames.take_parked p s))
    frame q (CallFrame target method fuel arguments) e is = start_call_flow F q target method fuel arguments going (sided q e (known q is)) (known q is) e (F.takes_call l s p q is (ap Frames.is_call_frame e) h)
    frame q (ReturnedFrame value fuel) e is = answer_parked_flow F q _ (sided q e (known q is)) (λ asked has. F.gives q value fuel asked going (known q is) e has) (F.takes l s p h)

pub go_all_flow : {V : View} (F : Flows V) {l : List Owed} {s : State} → is_ending V.event ≡ true → V.Keeps l s → V.Keeps l (ParkedFrames.go_all V.setting s)
unfolding ParkedFrames.go_all
go_all_flow {V} F going h = each_flow F _ _ (λ t p k. go_flow F p going k) h

pub park_call_flow : {V : View} (F : Flows V) {l : List Owed} {s : State} (conn number : ℕ) (target : ObjId) (method fuel : ℕ) (arguments : List Value) (references : List ForeignId) → is_ending V.event ≡ true → V.Known (record { conn = conn; number = number; frame = CallFrame target method fuel arguments; references = references }) → V.Keeps (Inbound conn number ∷ l) s → V.Keeps l (ParkedFrames.park_frame V.setting conn number (CallFrame target method fuel arguments) references s)
unfolding ParkedFrames.park_frame
park_call_flow {V} F {l} {s} conn number target method fuel arguments references going known h = go_all_flow F going (hold_flow F references (F.parks_call l s (record { conn = conn; number = number; frame = CallFrame target method fuel arguments; references = references }) (ending-goes V.event going) known refl h))

pub park_result_flow : {V : View} (F : Flows V) {l : List Owed} {s : State} (conn number : ℕ) (value : Option Value) (fuel : ℕ) (references : List ForeignId) → is_ending V.event ≡ true → V.Known (record { conn = conn; number = number; frame = ReturnedFrame value fuel; references = references }) → V.Keeps l s → V.Keeps l (ParkedFrames.park_frame V.setting conn number (ReturnedFrame value fuel) references s)
unfolding ParkedFrames.park_frame
park_result_flow F {l} {s} conn number value fuel references going known h = go_all_flow F going (hold_flow F references (F.parks_result l s (record { conn = conn; number = number; frame = ReturnedFrame value fuel; references = references }) known refl h))

pub fail_parked_flow : {V : View} (F : Flows V) {l : List Owed} {s : State} (p : ParkedFrame) → is_ending V.event ≡ true → V.Fails V.setting.classes.unmarshal → V.Known p → V.Keeps l s → V.Keeps l (ParkedFrames.fail_parked V.setting s p)
unfolding ParkedFrames.fail_parked
fail_parked_flow {V} F {l} {s} p going may known h = frame p.frame refl (let_go_flow F p s.parked (F.takes l s p h))
  where
    sided : {f : Frame} → p.frame ≡ f → V.Dialled p.conn (not (Frames.is_call_frame f))
    sided e = subst (λ f. V.Dialled p.conn (not (Frames.is_call_frame f))) e (F.sided p known)

    frame : (f : Frame) → p.frame ≡ f → {t : State} → V.Keeps l t → V.Keeps l (ParkedFrames.fail_frame V.setting p f t)
    frame (CallFrame target method fuel arguments) e k = send_flow F _ p.conn _ (sided e, refused F going p.conn p.number _ (inr (inl refl))) tt k
    frame (ReturnedFrame value fuel) e k = answer_parked_flow F p (Throws V.setting.classes.unmarshal) (sided e) (λ asked has. F.fails asked V.setting.classes.unmarshal may) k

-- ---- endings

pub fail_dirty_flow : {V : View} (F : Flows V) {l : List Owed} {s : State} (call : ℕ) (id : ForeignId) → is_ending V.event ≡ true → V.Fails V.setting.classes.unmarshal → V.Keeps l s → V.Keeps l (Endings.fail_dirty V.setting call s id)
unfolding Endings.fail_dirty each
fail_dirty_flow {V} F {l} {s} call id going may h = if_flow F (lease.is_made (Holders.lease_now s id).dirty call && is_none (Holders.lease_now s id).lease) (each_known (filter (ParkedFrames.names id) s.parked) (all-filter V.Known (ParkedFrames.names id) s.parked (F.known l s h)) failed) failed
  where
    failed : V.Keeps l (record s { leases = client.On id (lease_events.DirtyFailed call) ∷ s.leases })
    failed = F.quiet l s _ refl h

    each_known : (ps : List ParkedFrame) → AllOf V.Known ps → {t : State} → V.Keeps l t → V.Keeps l (each (ParkedFrames.fail_parked V.setting) ps t)
    each_known [] a k = k
    each_known (p ∷ ps) a {t} k = each_known ps a.1 (fail_parked_flow F p going may a.0 k)

pub fail_group_flow : {V : View} (F : Flows V) {l : List Owed} {s : State} (kind : Due) (b : Group) (call : ℕ) → is_ending V.event ≡ true → V.Fails V.setting.classes.unmarshal → V.Keeps l s → V.Keeps l (Endings.fail_group V.setting kind b call s)
fail_group_flow {V} F due.Dirty b call going may h = each_flow F _ _ (λ t x k. fail_dirty_flow F call x going may k) h
fail_group_flow {V} F {l} (due.Clean strong) b call going may h = each_flow F _ _ (λ t x k. F.quiet l t _ refl k) h

pub end_asked_flow : {V : View} (F : Flows V) {l : List Owed} {s : State} {peer : Uuid} (class : ClassId) (asked : Asked) → is_ending V.event ≡ true → V.Fails V.setting.classes.unmarshal → V.Fails class → V.Keeps (Removed peer asked ∷ l) s → V.Keeps l (Endings.end_asked V.setting class asked s)
end_asked_flow F class (Calls number task lent kind m) going may why h = reply_to_flow F (Calls number task lent kind m) (Throws class) (F.fails _ class why) h
end_asked_flow F class (LooksUp number task name) going may why h = reply_to_flow F (LooksUp number task name) (Throws class) (F.fails _ class why) h
end_asked_flow F {l} {s} {peer} class (Tells call group) going may why h = fail_group_flow F group.kind group call going may (F.told l s peer call group h)

pub end_requests_flow : {V : View} (F : Flows V) {l : List Owed} {s : State} (is : Request → Bool) (why : Asked → ClassId) → is_ending V.event ≡ true → V.Fails V.setting.classes.unmarshal → ((asked : Asked) → V.Fails (why asked)) → V.Keeps l s → V.Keeps l (Endings.end_requests V.setting is why s)
unfolding Endings.end_requests
end_requests_flow {V} F {l} {s} is why going may all h =
    each_removed F _ (filter (λ (q : Request). Endings.is_group q.asked) (filter is s.requests)) (λ m t q k. end_asked_flow F (why q.asked) q.asked going may (all q.asked) k)
    (each_removed F _ (filter (λ (q : Request). not (Endings.is_group q.asked)) (filter is s.requests)) (λ m t q k. end_asked_flow F (why q.asked) q.asked going may (all q.asked) k)
    (F.sorts l _ (λ (q : Request). Endings.is_group q.asked) (filter is s.requests) (F.removes l s is h)))

pub let_connection_go_flow : {V : View} (F : Flows V) {l : List Owed} {s : State} (conn : ℕ) (c : Connection) → connection_at s conn ≡ Some c → V.Fails V.setting.classes.unmarshal → V.Keeps l s → V.Keeps l (Endings.let_connection_go conn s)
let_connection_go_flow F {l = l} {s} conn c is may h = each_flow F _ _ (λ t p k. let_go_flow F p t.parked (F.takes l t p k)) (F.closes l s conn c is may h)

pub end_connection_flow : {V : View} (F : Flows V) {l : List Owed} {s : State} (why : Asked → ClassId) (conn : ℕ) → is_ending V.event ≡ true → V.Fails V.setting.classes.unmarshal → ((asked : Asked) → V.Fails (why asked)) → V.Keeps l s → V.Keeps l (Endings.end_connection V.setting why conn s)
unfolding Endings.end_connection
end_connection_flow {V} F {l} {s} why conn going may all h = some_flow F (connection_at s conn) _ h (λ c is. end_requests_flow F _ why going may all (let_connection_go_flow F {l = l} conn c is may h))

pub close_flow : {V : View} (F : Flows V) {l : List Owed} {s : State} (class : ClassId) (conn : ℕ) → HasComeOn V conn → V.Fails V.setting.classes.unmarshal → V.Fails class → V.Keeps l s → V.Keeps l (Endings.close V.setting class conn s)
unfolding Endings.close
close_flow {V} F {l} {s} class conn came may why h = F.says l _ (Close conn) refl (came, connection-ends V.setting (λ asked. class) conn s) (end_connection_flow F _ conn (ap is_ending came.1) may (λ asked. why) h)

pub redial_flow : {V : View} (F : Flows V) {l : List Owed} {s : State} (peer : Uuid) (conn : ℕ) (c : Connection) (space : Uuid) (digest : List ℕ) → V.event ≡ Received conn (message.Hello 1 space digest) → nat_le 2 c.version ≡ true → V.Fails V.setting.classes.unmarshal → connection_at s conn ≡ Some c → V.Keeps l s
    → V.Keeps l (Endings.redial peer conn s)
unfolding Endings.redial
redial_flow {V} F {l} {s} peer conn c space digest came higher may is h = dial_flow F peer (F.says l _ (Close conn) refl ((message.Hello 1 space digest, came), connection-goes V.setting conn (Endings.note_peer peer s))
    (let_connection_go_flow F {l = l} {s = Endings.note_peer peer s} conn c is may (F.notes_peer l s conn c peer space digest came is higher h)))
