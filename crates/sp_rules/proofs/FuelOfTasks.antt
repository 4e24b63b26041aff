-- No rule of tasks and requests makes fuel.
use Rattle.std.specs.Prelude.{◌≡◌, refl, zero, suc, ℕ, ◌+◌, ◌≤◌, ◌==◌, Bool, true, false, List, [], ◌∷◌, ◌++◌, Option, None, Some, filter, not, ◌||◌, ◌&&◌, is_some, if◌then◌else◌}
use Rattle.std.proofs.Common.{arith}
use Rattle.std.specs.List.{list_all, list_any}
use Rattle.dgc_client.specs.declared.groups.Group.{Group}
use Rattle.dgc_client.specs.declared.lease.Due.{Due}
use Rattle.dgc_client.specs.declared.lease.Due.TheVariants as due
use Rattle.space_ids.specs.declared.ids.ForeignId.{ForeignId}
use Rattle.net_message.specs.declared.message.Message.{Message}
use Rattle.uuid.specs.declared.Uuid.{Uuid}
use Rattle.space_ids.specs.declared.ids.ObjId.{ObjId}
use Rattle.space_ids.specs.declared.value.Value.{Value}
use Rattle.sp_rules.specs.Behaviours.{Behaviour, Plain, Asks, Ends, Over, Outcome, Returned, Threw, Spent, Op, Create, Get, Put, Call, Reply, Gives, GivesBack, Throws, RunsOut}
use Rattle.sp_rules.specs.Classes.{Setting}
use Rattle.sp_rules.specs.Events.{Output, Started, Ended, Dial, Ready, Turn, Waited, Says, Sends}
use Rattle.sp_rules.specs.Fuel.{units, task_units, message_units, asked_units, request_units, parked_units, output_units, note_units, fresh_units, in_stage}
use Rattle.sp_rules.specs.Holders.{hold_ids, drop_ids}
use Rattle.sp_rules.specs.Lists.{each, with_some, at_first, total}
use Rattle.sp_rules.specs.LivingTasks
use Rattle.sp_rules.specs.Requests
use Rattle.sp_rules.specs.Requests.{go_out, goes_out, dial, ask, flush_waiting, make_group, settle, waits_for}
use Rattle.sp_rules.specs.State
use Rattle.sp_rules.specs.State.{State, Request, Asked, Calls, LooksUp, Tells, Stage, Waits, Out, Answered, Origin, OfRoot, OfCall, Living, Until, Connection, Frame, CallFrame, ReturnedFrame, ParkedFrame, task_at, ready_at, set_task, send, is_open, object_at, connection_at, connection_to}
use Rattle.sp_rules.specs.Tasks
use Rattle.sp_rules.specs.Tasks.{Task, Stand, Runs, AsksFor, HasEnded}
use Rattle.sp_rules.proofs.FuelSums.{total-snoc, total-parts, value_in, total-find, found-value, total-first}
use Rattle.sp_rules.proofs.ReadyLemmas.{ready-is}
use Rattle.sp_rules.proofs.Stable.{new_row}

-- ---- the bound

pub record Within (n : ℕ) (s : State) : Type 0 where
  pub bound : units s ≤ n

pub if_within : {n : ℕ} {t u : State} (b : Bool) → Within n t → Within n u → Within n (if b then t else u)
if_within true e f = e
if_within false e f = f

pub more : {n : ℕ} {s : State} (k : ℕ) → Within n s → Within (n + k) s
more {n} {s} k e = let b : units s ≤ n = e.bound in record { bound = omega arith }

pub some_within : {A : Type 0} {n : ℕ} {t : State} (x : Option A) (f : A → State) → Within n t → ((a : A) → x ≡ Some a → Within n (f a)) → Within n (with_some x t f)
some_within None f e g = e
some_within (Some a) f e g = g a refl

pub each_within : {A : Type 0} (f : State → A → State) (v : A → ℕ) (xs : List A) {n : ℕ} {s : State}
    → ((m : ℕ) (t : State) (x : A) → Within m t → Within (m + v x) (f t x)) → Within n s → Within (n + total v xs) (each f xs s)
unfolding each
each_within f v [] g e = more 0 e
each_within f v (x ∷ xs) {n} {s} g e =
    let b : units (each f xs (f s x)) ≤ n + v x + total v xs = (each_within f v xs g (g n s x e)).bound in record { bound = omega arith }

pub each_same : {A : Type 0} (f : State → A → State) (xs : List A) {n : ℕ} {s : State} → ((t : State) (x : A) → Within n t → Within n (f t x)) → Within n s → Within n (each f xs s)
unfolding each
each_same f [] g e = e
each_same f (x ∷ xs) {n} {s} g e = each_same f xs g (g s x e)

pub say_within : {n : ℕ} {s : State} (o : Output) → Within n s → Within (n + output_units o) (State.say o s)
say_within {n} {s} o e =
    let b : units s ≤ n = e.bound in
    let q : total note_units (s.notes ++ Says o ∷ []) ≡ total note_units s.notes + output_units o = total-snoc note_units s.notes (Says o) in
    record { bound = omega arith }

pub send_within : {n : ℕ} {s : State} (turn : Turn) (conn : ℕ) (m : Message) → Within n s → Within (n + message_units m) (send turn conn m s)
unfolding send
send_within {n} {s} turn conn m e =
    let b : units s ≤ n = e.bound in
    let q : total note_units (s.notes ++ Sends turn conn m ∷ []) ≡ total note_units s.notes + message_units m = total-snoc note_units s.notes (Sends turn conn m) in
    if_within (is_open s conn) (record { bound = omega arith }) (more (message_units m) e)

pub hold_within : {n : ℕ} {s : State} (refs : List ForeignId) → Within n s → Within n (hold_ids refs s)
unfolding hold_ids
hold_within refs e = each_same _ _ (λ t x h. record { bound = h.bound }) e

pub drop_within : {n : ℕ} {s : State} (refs : List ForeignId) → Within n s → Within n (drop_ids refs s)
unfolding drop_ids
drop_within refs e = each_same _ _ (λ t x h. record { bound = h.bound }) e

-- ---- requests

-- a request is added
pub add_within : {n : ℕ} {s : State} (q : Request) → Within n s → Within (n + request_units q) (Requests.add_request q s)
add_within {n} {s} q e =
    let b : units s ≤ n = e.bound in
    let k : total request_units (s.requests ++ q ∷ []) ≡ total request_units s.requests + request_units q = total-snoc request_units s.requests q in
    record { bound = omega arith }

pub plus-zero : {n : ℕ} {s : State} → Within (n + 0) s → Within n s
plus-zero {n} {s} e = let b : units s ≤ n + 0 = e.bound in record { bound = omega arith }

pub group_units : (kind : Due) (sequence : ℕ) (ids : List ObjId) → message_units (Requests.group_frame kind sequence ids) ≡ 0
group_units due.Dirty sequence ids = refl
group_units (due.Clean strong) sequence ids = refl

pub send_nothing : {n : ℕ} {s : State} (turn : Turn) (conn : ℕ) (m : Message) → message_units m ≡ 0 → Within n s → Within n (send turn conn m s)
send_nothing {n} {s} turn conn m z e =
    let b : units (send turn conn m s) ≤ n + message_units m = (send_within turn conn m e).bound in record { bound = omega arith }

pub part_within : {n : ℕ} {s : State} (turn : Turn) (conn call : ℕ) (part : Group) → Within n s → Within n (Requests.part_goes_out turn conn call s part)
unfolding Requests.part_goes_out
part_within {n} turn conn call part e =
    send_nothing turn conn _ (group_units part.kind _ part.ids) (plus-zero (add_within {n = n} _ (record { bound = e.bound })))

pub goes_within : {n : ℕ} {s : State} (turn : Turn) (conn : ℕ) (peer : Uuid) (a : Asked) → Within n s → Within (n + asked_units a) (goes_out turn conn peer a s)
goes_within turn conn peer (Calls number task lent kind m) e = send_within turn conn m (plus-zero (add_within _ e))
goes_within turn conn peer (LooksUp number task name) e = more 0 (send_nothing turn conn _ refl (plus-zero (add_within _ e)))
goes_within turn conn peer (Tells call group) e = more 0 (each_same _ _ (λ t part h. part_within turn conn call part h) e)

pub go_out_within : {n : ℕ} {s : State} (turn : Turn) (conn : ℕ) (q : Request) → Within n s → Within (n + asked_units q.asked) (go_out turn conn q s)
unfolding go_out
go_out_within turn conn q e = goes_within turn conn q.peer q.asked e

pub dial_within : {n : ℕ} {s : State} (peer : Uuid) → Within n s → Within n (dial peer s)
unfolding dial
dial_within {n} {s} peer e = if_within (is_some (connection_to s peer) || State.is_dialling s peer) e (plus-zero (say_within {n = n} {s = record s { dialling = s.dialling ++ peer ∷ [] }} (Dial peer) (record { bound = e.bound })))

pub weaken : (n k m : ℕ) {s : State} → k ≤ m → Within (n + k) s → Within (n + m) s
weaken n k m {s} le e = let b : units s ≤ n + k = e.bound in record { bound = omega arith }

pub stage-le : (at : Stage) (u : ℕ) → in_stage at u ≤ u
stage-le Waits u = omega arith
stage-le (Out conn sequence) u = omega arith
stage-le (Answered conn) u = omega arith

pub ask_within : {n : ℕ} {s : State} (q : Request) → Within n s → Within (n + asked_units q.asked) (ask s q)
unfolding ask
ask_within {n} {s} q e = some_within (Requests.hello_came (connection_to s q.peer)) _
    (dial_within q.peer (weaken n (request_units q) (asked_units q.asked) (stage-le q.stage (asked_units q.asked)) (add_within q e)))
    (λ conn is. go_out_within _ conn q e)

pub make_group_within : {n : ℕ} {s : State} (b : Group) → Within n s → Within n (make_group s b)
unfolding make_group
make_group_within {n} b e = plus-zero (ask_within {n = n} _ (record { bound = e.bound }))

pub make_due_within : {n : ℕ} {s : State} → Within n s → Within n (Requests.make_due s)
unfolding Requests.make_due
make_due_within e = each_same _ _ (λ t b h. make_group_within b h) e

pub ask_fresh_within : {n : ℕ} {s : State} → Within n s → Within n (Requests.ask_fresh s)
unfolding Requests.ask_fresh
ask_fresh_within {n} {s} e =
    let b : units s ≤ n = e.bound in
    let t : State = record s { fresh = [] } in
    let le : units t ≤ units t = omega arith in
    let own : Within (units t) t = record { bound = le } in
    let k : units (each ask s.fresh t) ≤ units t + total fresh_units s.fresh = (each_within ask fresh_units s.fresh (λ m u q h. ask_within q h) own).bound in
    record { bound = omega arith }

pub settle_within : {n : ℕ} {s : State} → Within n s → Within n (settle s)
unfolding settle
settle_within e = ask_fresh_within (make_due_within e)

-- what waits for a peer has its units in it
pub waiting-units : (peer : Uuid) (qs : List Request) → total fresh_units (filter (waits_for peer) qs) ≤ total request_units (filter (waits_for peer) qs)
waiting-units peer [] = omega arith
waiting-units peer (q ∷ qs) = pick (Rattle.std.specs.Str.bytes_eq q.peer peer) q.stage (waiting-units peer qs)
  where
    pick : (b : Bool) (at : Stage) → total fresh_units (filter (waits_for peer) qs) ≤ total request_units (filter (waits_for peer) qs)
        → total fresh_units (if b && Requests.is_waiting at then record { peer = q.peer; asked = q.asked; stage = at } ∷ filter (waits_for peer) qs else filter (waits_for peer) qs)
        ≤ total request_units (if b && Requests.is_waiting at then record { peer = q.peer; asked = q.asked; stage = at } ∷ filter (waits_for peer) qs else filter (waits_for peer) qs)
    pick true Waits e = omega arith
    pick true (Out conn sequence) e = e
    pick true (Answered conn) e = e
    pick false Waits e = e
    pick false (Out conn sequence) e = e
    pick false (Answered conn) e = e

pub flush_within : {n : ℕ} {s : State} (peer : Uuid) (conn : ℕ) → Within n s → Within n (flush_waiting peer conn s)
unfolding flush_waiting
flush_within {n} {s} peer conn e =
    let b : units s ≤ n = e.bound in
    let t : State = Requests.without_waiting peer s in
    let le : units t ≤ units t = omega arith in
    let own : Within (units t) t = record { bound = le } in
    let w : total fresh_units (filter (waits_for peer) s.requests) ≤ total request_units (filter (waits_for peer) s.requests) = waiting-units peer s.requests in
    let parts : total request_units (filter (waits_for peer) s.requests) + total request_units (filter (λ q. not (waits_for peer q)) s.requests) ≡ total request_units s.requests = total-parts request_units (waits_for peer) s.requests in
    let k : units (flush_waiting peer conn s) ≤ units t + total fresh_units (filter (waits_for peer) s.requests) = (each_within (λ u q. go_out Waited conn q u) fresh_units (filter (waits_for peer) s.requests) (λ m u q h. go_out_within _ conn q h) own).bound in
    record { bound = omega arith }

-- ---- tasks

pub add_task_within : {n : ℕ} {s : State} (g : Setting) (origin : Origin) (method : ℕ) (arguments : List Value) (fuel : ℕ)
    → Within n s → Within (n + fuel) (LivingTasks.add_task g origin method arguments fuel s)
unfolding LivingTasks.add_task Tasks.start
add_task_within {n} {s} g origin method arguments fuel e =
    let id : ℕ = s.tasks_made + 1 in
    let row : Living = new_row g origin method arguments fuel s in
    let b : units s ≤ n = e.bound in
    let k : total task_units (s.tasks ++ row ∷ []) ≡ total task_units s.tasks + task_units row = total-snoc task_units s.tasks row in
    plus-zero (say_within (Ready id) (hold_within {n = n + fuel} _ (plus-zero (say_within {n = n + fuel} (Started id) (record { bound = omega arith })))))

pub keep_within : {n : ℕ} {s : State} (g : Setting) (until : Until) (value : Option Value) → Within n s → Within n (LivingTasks.keep g until value s)
keep_within {n} g until value e = hold_within {n = n} _ (record { bound = e.bound })

pub keep_result_within : {n : ℕ} {s : State} (g : Setting) (until : Until) (outcome : Outcome) → Within n s → Within n (LivingTasks.keep_result g until outcome s)
keep_result_within g until (Returned value) e = keep_within g until value e
keep_result_within g until (Threw class) e = e
keep_result_within g until Spent e = e

pub answer-units : (g : Setting) (number fuel : ℕ) (outcome : Outcome) → message_units (LivingTasks.reply_frame g number fuel outcome) ≤ fuel
answer-units g number fuel (Returned value) = omega arith
answer-units g number fuel (Threw class) = omega arith
answer-units g number fuel Spent = omega arith

pub report_within : {n : ℕ} {s : State} (g : Setting) (origin : Origin) (id fuel : ℕ) (outcome : Outcome) → Within n s → Within (n + fuel) (LivingTasks.report g origin id fuel outcome s)
report_within g OfRoot id fuel outcome e = more fuel (keep_result_within g _ outcome e)
report_within {n} {s} g (OfCall conn number) id fuel outcome e =
    if_within (is_open s conn) (weaken n _ fuel (answer-units g number fuel outcome) (send_within _ conn _ (keep_result_within g (State.Acked conn number) outcome e))) (more fuel e)

-- ---- what a task has made and has left

unfoldable pub units_of : Task → ℕ
units_of t = t.made + t.fuel

pub step-at-units : (b : Behaviour) (fuel : ℕ) (t : Task) → t.fuel ≡ fuel
    → (Tasks.step_at (Tasks.stand_at b fuel) t).made + (Tasks.step_at (Tasks.stand_at b fuel) t).fuel ≤ t.made + t.fuel
step-at-units (Over outcome) fuel t e = omega arith
step-at-units (Plain next) zero t e = omega arith
step-at-units (Plain next) (suc fuel) t e = omega arith
step-at-units (Asks op next) zero t e = omega arith
step-at-units (Asks op next) (suc fuel) t e = omega arith
step-at-units (Ends outcome) zero t e = omega arith
step-at-units (Ends outcome) (suc fuel) t e = omega arith

pub step-units : (t : Task) → units_of (Tasks.step t) ≤ units_of t
unfolding units_of Tasks.step Tasks.stand
step-units t = step-at-units t.behaviour t.fuel t refl

pub steps-units : (k : ℕ) (t : Task) → units_of (Tasks.steps k t) ≤ units_of t
unfolding Tasks.steps
steps-units zero t = omega arith
steps-units (suc k) t =
    let a : units_of (Tasks.steps k (Tasks.step t)) ≤ units_of (Tasks.step t) = steps-units k (Tasks.step t) in
    let b : units_of (Tasks.step t) ≤ units_of t = step-units t in
    omega arith

-- the fuel that a reply gives back
unfoldable pub back : Reply → ℕ
back (Gives value) = 0
back (GivesBack value fuel) = fuel
back (Throws class) = 0
back RunsOut = 0

pub pay-units : (left k : ℕ) (t : Task) → t.fuel ≡ left → (Tasks.pay_with left k t).made + (Tasks.pay_with left k t).fuel ≤ t.made + t.fuel + k
pay-units zero k t e = omega arith
pay-units (suc left) k t e = omega arith

pub answer-task-units : (g : Setting) (reply : Reply) (t : Task) → units_of (Tasks.answer g reply t) ≤ units_of t + back reply
unfolding units_of Tasks.answer back
answer-task-units g (Gives value) t = pay-units t.fuel 0 t refl
answer-task-units g (GivesBack value fuel) t = pay-units t.fuel fuel t refl
answer-task-units g (Throws class) t = pay-units t.fuel 0 t refl
answer-task-units g RunsOut t = pay-units t.fuel 0 t refl

pub lent-units : (t : Task) → units_of (Tasks.lend_fuel t) + Tasks.lent t ≤ units_of t
unfolding units_of Tasks.lend_fuel
lent-units t = omega arith

-- ---- a task's row changes

pub is_task : ℕ → Living → Bool
is_task id t = t.id == id

-- the tasks are others
pub tasks_within : {n : ℕ} (s : State) (rows : List Living)
    → s.retired + (total task_units rows + (total request_units s.requests + (total parked_units s.parked + (total fresh_units s.fresh + total note_units s.notes)))) ≤ n
    → Within n (record s { tasks = rows })
tasks_within s rows le = record { bound = le }

pub row_within : {n : ℕ} {s : State} (k id : ℕ) (t : Living) (f : Living → Living) → task_at s id ≡ Some t
    → task_units (f t) ≤ task_units t + k → Within n s → Within (n + k) (set_task f id s)
unfolding value_in
row_within {n} {s} k id t f is le e =
    let b : units s ≤ n = e.bound in
    let was : value_in task_units (task_at s id) ≡ task_units t = found-value task_units (task_at s id) t is in
    let now : value_in (λ u. task_units (f u)) (task_at s id) ≡ task_units (f t) = found-value (λ u. task_units (f u)) (task_at s id) t is in
    let q : total task_units (at_first (λ (u : Living). u.id == id) f s.tasks) + value_in task_units (task_at s id) ≡ total task_units s.tasks + value_in (λ u. task_units (f u)) (task_at s id)
    = total-first task_units (λ (u : Living). u.id == id) f s.tasks in
    tasks_within s (at_first (λ (u : Living). u.id == id) f s.tasks) (omega arith)

pub reply_task_within : {n : ℕ} {s : State} (g : Setting) (id : ℕ) (reply : Reply) → Within n s → Within (n + back reply) (LivingTasks.reply_task g id reply s)
unfolding LivingTasks.reply_task units_of
reply_task_within {n} {s} g id reply e = some_within (task_at s id) _ (more (back reply) e) (λ t is.
    plus-zero (say_within (Ready id) (hold_within _
    (row_within (back reply) id t (LivingTasks.after_reply g reply) is (answer-task-units g reply t.task) e))))

pub reply_to_within : {n : ℕ} {s : State} (g : Setting) (asked : Asked) (reply : Reply) → Within n s → Within (n + back reply) (LivingTasks.reply_to g asked reply s)
unfolding LivingTasks.reply_to
reply_to_within g (Calls number task lent kind m) reply e = reply_task_within g task reply e
reply_to_within g (LooksUp number task name) reply e =
    more (back reply) (keep_result_within g (State.RootAcked task) (LivingTasks.outcome_of reply) (plus-zero (say_within (Ended task (LivingTasks.outcome_of reply)) e)))
reply_to_within g (Tells call group) reply e = more (back reply) e

pub after_op_within : {n : ℕ} {s : State} (g : Setting) (op : Op) → Within n s → Within n (LivingTasks.after_op g op s)
unfolding LivingTasks.after_op
after_op_within {n} {s} g (Create class) e = if_within (LivingTasks.is_full s) e (record { bound = e.bound })
after_op_within g (Get id slot) e = e
after_op_within {n} {s} g (Put id slot value) e = drop_within _ (hold_within {n = n} _ (record { bound = e.bound }))
after_op_within g (Call target method arguments) e = e

pub give_back_within : {n : ℕ} {s : State} (id k : ℕ) → Within n s → Within n (LivingTasks.give_back id k s)
unfolding LivingTasks.give_back units_of
give_back_within {n} {s} id k e = some_within (ready_at s id) _ e (λ t is.
    plus-zero (row_within 0 id t (LivingTasks.after_steps k) (ready-is (task_at s id) t is).0 (weak t) e))
  where
    weak : (u : Living) → task_units (LivingTasks.after_steps k u) ≤ task_units u + 0
    weak u = let le : units_of (Tasks.steps k u.task) ≤ units_of u.task = steps-units k u.task in omega arith

pub if-back : (b : Bool) (x y : Reply) → back x ≡ 0 → back y ≡ 0 → back (if b then x else y) ≡ 0
if-back true x y e f = e
if-back false x y e f = f

pub reply-none : (g : Setting) (s : State) (op : Op) → back (LivingTasks.op_reply g op s) ≡ 0
unfolding LivingTasks.op_reply back
reply-none g s (Create class) = if-back (LivingTasks.is_full s) _ _ refl refl
reply-none g s (Get id slot) = refl
reply-none g s (Put id slot value) = refl
reply-none g s (Call target method arguments) = refl

pub committed-units : (g : Setting) (s : State) (op : Op) (k : ℕ) (t : Task) → units_of (Tasks.answer g (LivingTasks.op_reply g op s) (Tasks.steps k t)) ≤ units_of t + 0
committed-units g s op k t =
    let a : units_of (Tasks.answer g (LivingTasks.op_reply g op s) (Tasks.steps k t)) ≤ units_of (Tasks.steps k t) + back (LivingTasks.op_reply g op s) = answer-task-units g (LivingTasks.op_reply g op s) (Tasks.steps k t) in
    let z : back (LivingTasks.op_reply g op s) ≡ 0 = reply-none g s op in
    let le : units_of (Tasks.steps k t) ≤ units_of t = steps-units k t in omega arith

pub commit_within : {n : ℕ} {s : State} (g : Setting) (id k : ℕ) (op : Op) → Within n s → Within n (LivingTasks.commit g id k op s)
unfolding LivingTasks.commit units_of
commit_within {n} {s} g id k op e = some_within (ready_at s id) _ e (λ t is.
    after_op_within g op (hold_within _ (plus-zero (row_within 0 id t (λ (u : Living). LivingTasks.after_reply g (LivingTasks.op_reply g op s) (LivingTasks.after_steps k u))
    (ready-is (task_at s id) t is).0 (committed-units g s op k t.task) e))))

pub parked-units : (k : ℕ) (t : Task) → units_of (Tasks.lend_fuel (Tasks.steps k t)) + Tasks.lent (Tasks.steps k t) ≤ units_of t
parked-units k t =
    let a : units_of (Tasks.lend_fuel (Tasks.steps k t)) + Tasks.lent (Tasks.steps k t) ≤ units_of (Tasks.steps k t) = lent-units (Tasks.steps k t) in
    let le : units_of (Tasks.steps k t) ≤ units_of t = steps-units k t in omega arith

-- what is being made is one request
pub fresh_within : {n : ℕ} (s : State) (calls : ℕ) (q : Request)
    → s.retired + (total task_units s.tasks + (total request_units s.requests + (total parked_units s.parked + (fresh_units q + total note_units s.notes)))) ≤ n
    → Within n (record s { calls_made = calls; fresh = q ∷ [] })
fresh_within s calls q le = record { bound = omega arith }

pub park_op_within : {n : ℕ} {s : State} (g : Setting) (id k : ℕ) (t : Living) (op : Op) → task_at s id ≡ Some t → Within n s → Within n (LivingTasks.park_op g id k t op s)
unfolding units_of value_in
park_op_within g id k t (Create class) is e = e
park_op_within g id k t (Get o slot) is e = e
park_op_within g id k t (Put o slot value) is e = e
park_op_within {n} {s} g id k t (Call target method arguments) is e =
    let f : Living → Living = LivingTasks.waiting k in
    let b : units s ≤ n = e.bound in
    let was : value_in task_units (task_at s id) ≡ task_units t = found-value task_units (task_at s id) t is in
    let now : value_in (λ u. task_units (f u)) (task_at s id) ≡ task_units (f t) = found-value (λ u. task_units (f u)) (task_at s id) t is in
    let q : total task_units (at_first (λ (u : Living). u.id == id) f s.tasks) + value_in task_units (task_at s id) ≡ total task_units s.tasks + value_in (λ u. task_units (f u)) (task_at s id)
    = total-first task_units (λ (u : Living). u.id == id) f s.tasks in
    let le : units_of (Tasks.lend_fuel (Tasks.steps k t.task)) + Tasks.lent (Tasks.steps k t.task) ≤ units_of t.task = parked-units k t.task in
    fresh_within (record s { tasks = at_first (λ (u : Living). u.id == id) f s.tasks }) (s.calls_made + 1) _ (omega arith)

pub park_call_within : {n : ℕ} {s : State} (g : Setting) (id k : ℕ) → Within n s → Within n (LivingTasks.park_call g id k s)
unfolding LivingTasks.park_call
park_call_within {n} {s} g id k e = some_within (ready_at s id) _ e (λ t is. at t (ready-is (task_at s id) t is).0 (Tasks.stand (Tasks.steps k t.task)))
  where
    at : (t : Living) → task_at s id ≡ Some t → (stands : Stand) → Within n (LivingTasks.park_at g id k t stands s)
    at t is Runs = e
    at t is (AsksFor op) = park_op_within g id k t op is e
    at t is (HasEnded outcome) = e

pub end_with_within : {n : ℕ} {s : State} (g : Setting) (id : ℕ) (t u : Living) (outcome : Outcome) → task_at s id ≡ Some u → task_units t ≤ task_units u
    → Within n s → Within n (LivingTasks.end_with g id t outcome s)
unfolding value_in
end_with_within {n} {s} g id t u outcome is le e =
    let b : units s ≤ n = e.bound in
    let was : value_in task_units (task_at s id) ≡ task_units u = found-value task_units (task_at s id) u is in
    let q : value_in task_units (task_at s id) + total task_units (filter (λ (v : Living). not (v.id == id)) s.tasks) ≤ total task_units s.tasks = total-find task_units (λ (v : Living). v.id == id) s.tasks in
    let rows : List Living = filter (λ (v : Living). not (v.id == id)) s.tasks in
    let m : ℕ = units (record s { tasks = rows; retired = s.retired + t.task.made }) in
    let self : m ≤ m = omega arith in
    let out : Within (m + 0 + t.task.fuel) (LivingTasks.end_with g id t outcome s) =
    drop_within _ (report_within g t.origin id t.task.fuel outcome (say_within (Ended id outcome) (record { bound = self }))) in
    let bound : units (LivingTasks.end_with g id t outcome s) ≤ m + 0 + t.task.fuel = out.bound in
    record { bound = omega arith }

pub finish_within : {n : ℕ} {s : State} (g : Setting) (id k : ℕ) → Within n s → Within n (LivingTasks.finish_task g id k s)
unfolding LivingTasks.finish_task units_of
finish_within {n} {s} g id k e = some_within (ready_at s id) _ e (λ t is. ends t (ready-is (task_at s id) t is).0 (Tasks.stand (Tasks.steps k t.task)))
  where
    ends : (t : Living) → task_at s id ≡ Some t → (at : Stand) → Within n (LivingTasks.end_at g id (LivingTasks.after_steps k t) at s)
    ends t is Runs = e
    ends t is (AsksFor op) = e
    ends t is (HasEnded outcome) = end_with_within g id (LivingTasks.after_steps k t) t outcome is (steps-units k t.task) e
