-- No rule of tasks and requests makes fuel of a tree, and each call stays in the tree of its task.
use mathlib.Core.Path.{sym, ap, subst, ◌∙◌}
use Rattle.std.specs.Prelude.{◌≡◌, refl, ℕ, ◌+◌, ◌≤◌, ◌==◌, Bool, true, false, List, [], ◌∷◌, ◌++◌, Option, None, Some, filter, find, not, ◌||◌, ◌&&◌, is_some, if◌then◌else◌}
use Rattle.std.proofs.Common.{arith}
use Rattle.std.proofs.lemmas.Bool.{eqb-true}
use Rattle.std.specs.Str.{bytes_eq}
use Rattle.dgc_client.specs.declared.groups.Group.{Group}
use Rattle.dgc_client.specs.declared.lease.Due.{Due}
use Rattle.dgc_client.specs.declared.lease.Due.TheVariants as due
use Rattle.space_ids.specs.declared.ids.ForeignId.{ForeignId}
use Rattle.net_message.specs.declared.message.Message.{Message}
use Rattle.uuid.specs.declared.Uuid.{Uuid}
use Rattle.space_ids.specs.declared.ids.ObjId.{ObjId}
use Rattle.space_ids.specs.declared.value.Value.{Value}
use Rattle.sp_rules.specs.Behaviours.{Outcome, Returned, Threw, Spent, Op, Create, Get, Put, Call, Reply}
use Rattle.sp_rules.specs.Classes.{Setting}
use Rattle.sp_rules.specs.Events.{Output, Started, Ended, Dial, Ready, Turn, Waited, Says, Sends, Finished}
use Rattle.sp_rules.specs.Fuel.{task_units}
use Rattle.sp_rules.specs.Holders.{hold_ids, drop_ids}
use Rattle.sp_rules.specs.Laws.{AllOf}
use Rattle.sp_rules.specs.Lists.{each, with_some, at_first, total}
use Rattle.sp_rules.specs.LivingTasks
use Rattle.sp_rules.specs.Requests
use Rattle.sp_rules.specs.Requests.{go_out, goes_out, dial, ask, flush_waiting, make_group, settle, waits_for}
use Rattle.sp_rules.specs.State
use Rattle.sp_rules.specs.State.{State, Request, Asked, Calls, LooksUp, Tells, Stage, Waits, Out, Answered, Origin, OfRoot, OfCall, Living, Until, Connection, task_at, ready_at, set_task, send, is_open, connection_to, is_to}
use Rattle.sp_rules.specs.Tasks
use Rattle.sp_rules.specs.Tasks.{Task, Stand, Runs, AsksFor, HasEnded}
use Rattle.sp_rules.proofs.AllLemmas.{all-weaken, all-append, all-more, all-filter, all-first, all-found, some-none, found-is}
use Rattle.sp_rules.proofs.FuelSums.{total-snoc, total-parts, value_in, total-find, found-value, total-first}
use Rattle.sp_rules.proofs.FuelOfTasks.{stage-le, units_of, steps-units, back, answer-task-units, committed-units, parked-units}
use Rattle.sp_rules.proofs.OwnLemmas.{some-same}
use Rattle.sp_rules.proofs.ReadyLemmas.{ready-is}
use Rattle.sp_rules.proofs.Stable.{new_row}
use Rattle.sp_laws.specs.Trees.{Part, is_of, has_task, counted, task_part, carried, asked_part, request_part, fresh_part, output_part, note_part, left_in, ended_at, ended_part, is_call, stands_at_call}
use Rattle.sp_laws.proofs.RowLemmas.{counted-less, counted-both, carried-same, FirstIs, found-first, first-more, first-set, first-fewer}

-- ---- calls and their tasks

-- The task of a call was made, and is of the tree exactly if the call is.
abbrev pub Fits : Part → ℕ → List Living → Asked → Type 0
Fits p made tasks (Calls number task lent kind m) = (task ≤ made) × FirstIs (λ t. has_task p t ≡ p.calls number) task tasks
Fits p made tasks (LooksUp number task name) = Unit {0}
Fits p made tasks (Tells call group) = Unit {0}

-- The calls on a connection are those of this space.
abbrev pub HasOwn : Part → ℕ → Type 0
HasOwn p conn = (number : ℕ) → p.frames conn number ≡ p.calls number

abbrev pub StandsOwn : Part → Stage → Type 0
StandsOwn p Waits = Unit {0}
StandsOwn p (Out conn sequence) = HasOwn p conn
StandsOwn p (Answered conn) = HasOwn p conn

abbrev pub IsTagged : Part → ℕ → List Living → Request → Type 0
IsTagged p made tasks q = Fits p made tasks q.asked × StandsOwn p q.stage

abbrev pub IsDialler : Part → Connection → Type 0
IsDialler p c = is_some c.dialled ≡ true → HasOwn p c.number

pub record TagParts : Type 0 where
  pub calls : ℕ
  pub made : ℕ
  pub tasks : List Living
  pub requests : List Request
  pub fresh : List Request
  pub connections : List Connection

abbrev pub tag_parts : State → TagParts
tag_parts s = record { calls = s.calls_made; made = s.tasks_made; tasks = s.tasks; requests = s.requests; fresh = s.fresh; connections = s.connections }

-- Each call among the requests, and among these besides, is of the tree of its task; and what is out went on a connection that this space dialled.
pub record Tags (low : ℕ) (p : Part) (qs : List Request) (x : TagParts) : Type 0 where
  pub calls : low ≤ x.calls
  pub ids : AllOf (λ (t : Living). t.id ≤ x.made) x.tasks
  pub requests : AllOf (IsTagged p x.made x.tasks) x.requests
  pub fresh : AllOf (IsTagged p x.made x.tasks) x.fresh
  pub also : AllOf (IsTagged p x.made x.tasks) qs
  pub connections : AllOf (IsDialler p) x.connections

-- ---- the bound

pub record Within (low : ℕ) (p : Part) (qs : List Request) (n : ℕ) (s : State) : Type 0 where
  pub bound : left_in p s ≤ n
  pub tags : Tags low p qs (tag_parts s)

pub if_within : {low : ℕ} {p : Part} {qs : List Request} {n : ℕ} {t u : State} (b : Bool) → Within low p qs n t → Within low p qs n u → Within low p qs n (if b then t else u)
if_within true e f = e
if_within false e f = f

pub more : {low : ℕ} {p : Part} {qs : List Request} {n : ℕ} {s : State} (k : ℕ) → Within low p qs n s → Within low p qs (n + k) s
more {low} {p} {n = n} {s} k e = let b : left_in p s ≤ n = e.bound in record { bound = omega arith; tags = e.tags }

pub some_within : {low : ℕ} {p : Part} {qs : List Request} {A : Type 0} {n : ℕ} {t : State} (x : Option A) (f : A → State) → Within low p qs n t → ((a : A) → x ≡ Some a → Within low p qs n (f a)) → Within low p qs n (with_some x t f)
some_within None f e g = e
some_within (Some a) f e g = g a refl

-- each is one of those besides
pub each_within : {low : ℕ} {p : Part} (qs : List Request) (f : State → Request → State) (v : Request → ℕ) (xs : List Request) {n : ℕ} {s : State}
    → ((rs : List Request) (m : ℕ) (t : State) (x : Request) → Within low p (x ∷ rs) m t → Within low p rs (m + v x) (f t x)) → Within low p (xs ++ qs) n s → Within low p qs (n + total v xs) (each f xs s)
unfolding each
each_within qs f v [] g e = more 0 e
each_within {low} {p} qs f v (x ∷ xs) {n} {s} g e =
    let k : Within low p qs (n + v x + total v xs) (each f xs (f s x)) = each_within qs f v xs g (g (xs ++ qs) n s x e) in
    let b : left_in p (each f xs (f s x)) ≤ n + v x + total v xs = k.bound in record { bound = omega arith; tags = k.tags }

pub each_same : {low : ℕ} {p : Part} {qs : List Request} {A : Type 0} (f : State → A → State) (xs : List A) {n : ℕ} {s : State} → ((t : State) (x : A) → Within low p qs n t → Within low p qs n (f t x)) → Within low p qs n s → Within low p qs n (each f xs s)
unfolding each
each_same f [] g e = e
each_same f (x ∷ xs) {n} {s} g e = each_same f xs g (g s x e)

pub say_within : {low : ℕ} {p : Part} {qs : List Request} {n : ℕ} {s : State} (o : Output) → Within low p qs n s → Within low p qs (n + output_part p o) (State.say o s)
say_within {low} {p} {n = n} {s} o e =
    let b : left_in p s ≤ n = e.bound in
    let q : total (note_part p) (s.notes ++ Says o ∷ []) ≡ total (note_part p) s.notes + output_part p o = total-snoc (note_part p) s.notes (Says o) in
    record { bound = omega arith; tags = e.tags }

pub send_within : {low : ℕ} {p : Part} {qs : List Request} {n : ℕ} {s : State} (turn : Turn) (conn : ℕ) (m : Message) → Within low p qs n s → Within low p qs (n + carried (p.frames conn) m) (send turn conn m s)
unfolding send
send_within {low} {p} {n = n} {s} turn conn m e =
    let b : left_in p s ≤ n = e.bound in
    let q : total (note_part p) (s.notes ++ Sends turn conn m ∷ []) ≡ total (note_part p) s.notes + carried (p.frames conn) m = total-snoc (note_part p) s.notes (Sends turn conn m) in
    if_within (is_open s conn) (record { bound = omega arith; tags = e.tags }) (more (carried (p.frames conn) m) e)

pub hold_within : {low : ℕ} {p : Part} {qs : List Request} {n : ℕ} {s : State} (refs : List ForeignId) → Within low p qs n s → Within low p qs n (hold_ids refs s)
unfolding hold_ids
hold_within refs e = each_same _ _ (λ t x h. record { bound = h.bound; tags = h.tags }) e

pub drop_within : {low : ℕ} {p : Part} {qs : List Request} {n : ℕ} {s : State} (refs : List ForeignId) → Within low p qs n s → Within low p qs n (drop_ids refs s)
unfolding drop_ids
drop_within refs e = each_same _ _ (λ t x h. record { bound = h.bound; tags = h.tags }) e

pub plus-zero : {low : ℕ} {p : Part} {qs : List Request} {n : ℕ} {s : State} → Within low p qs (n + 0) s → Within low p qs n s
plus-zero {low} {p} {n = n} {s} e = let b : left_in p s ≤ n + 0 = e.bound in record { bound = omega arith; tags = e.tags }

pub weaken : {low : ℕ} {p : Part} {qs : List Request} (n k m : ℕ) {s : State} → k ≤ m → Within low p qs (n + k) s → Within low p qs (n + m) s
weaken {low} {p} n k m {s} le e = let b : left_in p s ≤ n + k = e.bound in record { bound = omega arith; tags = e.tags }

-- ---- requests besides

pub push : {low : ℕ} {p : Part} {qs : List Request} {n : ℕ} {s : State} (q : Request) → IsTagged p s.tasks_made s.tasks q → Within low p qs n s → Within low p (q ∷ qs) n s
push q tag e = record { bound = e.bound; tags = record { calls = e.tags.calls; ids = e.tags.ids; requests = e.tags.requests; fresh = e.tags.fresh; also = (tag, e.tags.also); connections = e.tags.connections } }

pub pop : {low : ℕ} {p : Part} {qs : List Request} {n : ℕ} {s : State} (q : Request) → Within low p (q ∷ qs) n s → Within low p qs n s
pop q e = record { bound = e.bound; tags = record { calls = e.tags.calls; ids = e.tags.ids; requests = e.tags.requests; fresh = e.tags.fresh; also = e.tags.also.1; connections = e.tags.connections } }

-- a request is added
pub add_within : {low : ℕ} {p : Part} {qs : List Request} {n : ℕ} {s : State} (q : Request) → IsTagged p s.tasks_made s.tasks q → Within low p qs n s → Within low p qs (n + request_part p q) (Requests.add_request q s)
add_within {low} {p} {n = n} {s} q tag e =
    let b : left_in p s ≤ n = e.bound in
    let k : total (request_part p) (s.requests ++ q ∷ []) ≡ total (request_part p) s.requests + request_part p q = total-snoc (request_part p) s.requests q in
    record { bound = omega arith; tags = record { calls = e.tags.calls; ids = e.tags.ids; requests = all-more (IsTagged p s.tasks_made s.tasks) s.requests q e.tags.requests tag; fresh = e.tags.fresh; also = e.tags.also; connections = e.tags.connections } }

group-carried : (has : ℕ → Bool) (kind : Due) (sequence : ℕ) (ids : List ObjId) → carried has (Requests.group_frame kind sequence ids) ≡ 0
group-carried has due.Dirty sequence ids = refl
group-carried has (due.Clean strong) sequence ids = refl

pub send_nothing : {low : ℕ} {p : Part} {qs : List Request} {n : ℕ} {s : State} (turn : Turn) (conn : ℕ) (m : Message) → carried (p.frames conn) m ≡ 0 → Within low p qs n s → Within low p qs n (send turn conn m s)
send_nothing {low} {p} {qs} {n} {s} turn conn m z e =
    let k : Within low p qs (n + carried (p.frames conn) m) (send turn conn m s) = send_within turn conn m e in
    let b : left_in p (send turn conn m s) ≤ n + carried (p.frames conn) m = k.bound in record { bound = omega arith; tags = k.tags }

pub part_within : {low : ℕ} {p : Part} {qs : List Request} {n : ℕ} {s : State} (turn : Turn) (conn call : ℕ) (part : Group) → HasOwn p conn → Within low p qs n s → Within low p qs n (Requests.part_goes_out turn conn call s part)
unfolding Requests.part_goes_out
part_within {low} {p} {n = n} turn conn call part own e =
    send_nothing turn conn _ (group-carried (p.frames conn) part.kind _ part.ids) (plus-zero (add_within {n = n} _ (tt, own) (record { bound = e.bound; tags = e.tags })))

pub goes_within : {low : ℕ} {p : Part} {qs : List Request} {n : ℕ} {s : State} (turn : Turn) (conn : ℕ) (peer : Uuid) (a : Asked) → HasOwn p conn → Fits p s.tasks_made s.tasks a → Within low p qs n s → Within low p qs (n + asked_part p a) (goes_out turn conn peer a s)
goes_within {low} {p} {qs} {n} {s} turn conn peer (Calls number task lent kind m) own fits e =
    let c : carried (p.frames conn) m ≡ carried p.calls m = carried-same (p.frames conn) p.calls own m in
    weaken n (carried (p.frames conn) m) (carried p.calls m) (omega arith) (send_within turn conn m (plus-zero (add_within _ (fits, own) e)))
goes_within turn conn peer (LooksUp number task name) own fits e = more 0 (send_nothing turn conn _ refl (plus-zero (add_within _ (tt, own) e)))
goes_within turn conn peer (Tells call group) own fits e = more 0 (each_same _ _ (λ t part h. part_within turn conn call part own h) e)

pub go_out_within : {low : ℕ} {p : Part} {qs : List Request} {n : ℕ} {s : State} (turn : Turn) (conn : ℕ) (q : Request) → HasOwn p conn → Within low p (q ∷ qs) n s → Within low p qs (n + asked_part p q.asked) (go_out turn conn q s)
unfolding go_out
go_out_within turn conn q own e = goes_within turn conn q.peer q.asked own e.tags.also.0.0 (pop q e)

pub dial_within : {low : ℕ} {p : Part} {qs : List Request} {n : ℕ} {s : State} (peer : Uuid) → Within low p qs n s → Within low p qs n (dial peer s)
unfolding dial
dial_within {n = n} {s} peer e = if_within (is_some (connection_to s peer) || State.is_dialling s peer) e
    (plus-zero (say_within {n = n} {s = record s { dialling = s.dialling ++ peer ∷ [] }} (Dial peer) (record { bound = e.bound; tags = e.tags })))

dialled-some : (peer : Uuid) (dialled : Option Uuid) → is_to peer dialled ≡ true → is_some dialled ≡ true
dialled-some peer None e = e
dialled-some peer (Some other) e = refl

-- the connection on which requests to a peer go out
hello-own : (p : Part) (peer : Uuid) (conn : ℕ) (cs : List Connection) → AllOf (IsDialler p) cs → Requests.hello_came (find (λ (c : Connection). is_to peer c.dialled) cs) ≡ Some conn → HasOwn p conn
hello-own p peer conn cs own e = pick (find (λ (c : Connection). is_to peer c.dialled) cs) refl e
  where
    pick : (o : Option Connection) → find (λ (c : Connection). is_to peer c.dialled) cs ≡ o → Requests.hello_came o ≡ Some conn → HasOwn p conn
    pick None is f = absurd (some-none conn (sym f))
    pick (Some c) is f = greets (is_some c.peer) f
      where
        greets : (b : Bool) → (if b then Some c.number else None) ≡ Some conn → HasOwn p conn
        greets true n = subst (HasOwn p) (some-same n) (all-found (IsDialler p) (λ (d : Connection). is_to peer d.dialled) cs c is own (dialled-some peer c.dialled (found-is (λ (d : Connection). is_to peer d.dialled) cs c is)))
        greets false n = absurd (some-none conn (sym n))

pub ask_within : {low : ℕ} {p : Part} {qs : List Request} {n : ℕ} {s : State} (q : Request) → Within low p (q ∷ qs) n s → Within low p qs (n + asked_part p q.asked) (ask s q)
unfolding ask
ask_within {low} {p} {qs} {n} {s} q e = some_within (Requests.hello_came (connection_to s q.peer)) _
    (dial_within q.peer (weaken n (request_part p q) (asked_part p q.asked) (stage-le q.stage (asked_part p q.asked)) (add_within q e.tags.also.0 (pop q e))))
    (λ conn is. go_out_within _ conn q (hello-own p q.peer conn s.connections e.tags.connections is) e)

pub make_group_within : {low : ℕ} {p : Part} {qs : List Request} {n : ℕ} {s : State} (b : Group) → Within low p qs n s → Within low p qs n (make_group s b)
unfolding make_group
make_group_within {n = n} b e = plus-zero (ask_within {n = n} _ (push _ (tt, tt) (record { bound = e.bound; tags = e.tags })))

pub make_due_within : {low : ℕ} {p : Part} {qs : List Request} {n : ℕ} {s : State} → Within low p qs n s → Within low p qs n (Requests.make_due s)
unfolding Requests.make_due
make_due_within e = each_same _ _ (λ t b h. make_group_within b h) e

pub ask_fresh_within : {low : ℕ} {p : Part} {qs : List Request} {n : ℕ} {s : State} → Within low p qs n s → Within low p qs n (Requests.ask_fresh s)
unfolding Requests.ask_fresh
ask_fresh_within {low} {p} {qs} {n} {s} e =
    let b : left_in p s ≤ n = e.bound in
    let t : State = record s { fresh = [] } in
    let le : left_in p t ≤ left_in p t = omega arith in
    let own : Within low p (s.fresh ++ qs) (left_in p t) t = record { bound = le; tags = record { calls = e.tags.calls; ids = e.tags.ids; requests = e.tags.requests; fresh = tt; also = all-append (IsTagged p s.tasks_made s.tasks) s.fresh qs e.tags.fresh e.tags.also; connections = e.tags.connections } } in
    let all : Within low p qs (left_in p t + total (fresh_part p) s.fresh) (each ask s.fresh t) = each_within qs ask (fresh_part p) s.fresh (λ rs m u q h. ask_within q h) own in
    let k : left_in p (each ask s.fresh t) ≤ left_in p t + total (fresh_part p) s.fresh = all.bound in
    record { bound = omega arith; tags = all.tags }

pub settle_within : {low : ℕ} {p : Part} {qs : List Request} {n : ℕ} {s : State} → Within low p qs n s → Within low p qs n (settle s)
unfolding settle
settle_within e = ask_fresh_within (make_due_within e)

-- what waits for a peer has its units in it
waiting-units : (p : Part) (peer : Uuid) (qs : List Request) → total (fresh_part p) (filter (waits_for peer) qs) ≤ total (request_part p) (filter (waits_for peer) qs)
waiting-units p peer [] = omega arith
waiting-units p peer (q ∷ qs) = pick (bytes_eq q.peer peer) q.stage (waiting-units p peer qs)
  where
    pick : (b : Bool) (at : Stage) → total (fresh_part p) (filter (waits_for peer) qs) ≤ total (request_part p) (filter (waits_for peer) qs)
        → total (fresh_part p) (if b && Requests.is_waiting at then record { peer = q.peer; asked = q.asked; stage = at } ∷ filter (waits_for peer) qs else filter (waits_for peer) qs)
        ≤ total (request_part p) (if b && Requests.is_waiting at then record { peer = q.peer; asked = q.asked; stage = at } ∷ filter (waits_for peer) qs else filter (waits_for peer) qs)
    pick true Waits e = omega arith
    pick true (Out conn sequence) e = e
    pick true (Answered conn) e = e
    pick false Waits e = e
    pick false (Out conn sequence) e = e
    pick false (Answered conn) e = e

pub flush_within : {low : ℕ} {p : Part} {qs : List Request} {n : ℕ} {s : State} (peer : Uuid) (conn : ℕ) → HasOwn p conn → Within low p qs n s → Within low p qs n (flush_waiting peer conn s)
unfolding flush_waiting
flush_within {low} {p} {qs} {n} {s} peer conn right e =
    let b : left_in p s ≤ n = e.bound in
    let t : State = Requests.without_waiting peer s in
    let le : left_in p t ≤ left_in p t = omega arith in
    let own : Within low p (filter (waits_for peer) s.requests ++ qs) (left_in p t) t = record {
      bound = le;
      tags = record {
        calls = e.tags.calls;
        ids = e.tags.ids;
        requests = all-filter (IsTagged p s.tasks_made s.tasks) (λ q. not (waits_for peer q)) s.requests e.tags.requests;
        fresh = e.tags.fresh;
        also = all-append (IsTagged p s.tasks_made s.tasks) (filter (waits_for peer) s.requests) qs (all-filter (IsTagged p s.tasks_made s.tasks) (waits_for peer) s.requests e.tags.requests) e.tags.also;
        connections = e.tags.connections;
      };
    } in
    let w : total (fresh_part p) (filter (waits_for peer) s.requests) ≤ total (request_part p) (filter (waits_for peer) s.requests) = waiting-units p peer s.requests in
    let parts : total (request_part p) (filter (waits_for peer) s.requests) + total (request_part p) (filter (λ q. not (waits_for peer q)) s.requests) ≡ total (request_part p) s.requests = total-parts (request_part p) (waits_for peer) s.requests in
    let all : Within low p qs (left_in p t + total (fresh_part p) (filter (waits_for peer) s.requests)) (flush_waiting peer conn s) = each_within qs (λ u q. go_out Waited conn q u) (fresh_part p) (filter (waits_for peer) s.requests) (λ rs m u q h. go_out_within _ conn q right h) own in
    let k : left_in p (flush_waiting peer conn s) ≤ left_in p t + total (fresh_part p) (filter (waits_for peer) s.requests) = all.bound in
    record { bound = omega arith; tags = all.tags }

-- ---- tasks

fresh-id : (made task : ℕ) → task ≤ made → ((made + 1) == task) ≡ false
fresh-id made task le = pick ((made + 1) == task) refl
  where
    pick : (b : Bool) → ((made + 1) == task) ≡ b → b ≡ false
    pick true e = let f : made + 1 ≡ task = eqb-true (made + 1) task e in absurd (omega (arith, le))
    pick false e = refl

-- a row begins
fits-more : (p : Part) (made : ℕ) (tasks : List Living) (row : Living) → row.id ≡ made + 1 → (q : Request) → IsTagged p made tasks q → IsTagged p (made + 1) (tasks ++ row ∷ []) q
fits-more p made tasks row is q tag = (of q.asked tag.0, tag.1)
  where
    of : (a : Asked) → Fits p made tasks a → Fits p (made + 1) (tasks ++ row ∷ []) a
    of (Calls number task lent kind m) f =
        let le : task ≤ made = f.0 in
        (omega arith, first-more (λ t. has_task p t ≡ p.calls number) task tasks row (ap (λ n. n == task) is ∙ fresh-id made task le) f.1)
    of (LooksUp number task name) f = tt
    of (Tells call group) f = tt

pub add_task_within : {low : ℕ} {p : Part} {qs : List Request} {n : ℕ} {s : State} (g : Setting) (origin : Origin) (method : ℕ) (arguments : List Value) (fuel : ℕ)
    → Within low p qs n s → Within low p qs (n + counted (is_of p (s.tasks_made + 1) origin) fuel) (LivingTasks.add_task g origin method arguments fuel s)
unfolding LivingTasks.add_task Tasks.start
add_task_within {low} {p} {qs} {n} {s} g origin method arguments fuel e =
    let id : ℕ = s.tasks_made + 1 in
    let row : Living = new_row g origin method arguments fuel s in
    let b : left_in p s ≤ n = e.bound in
    let k : total (task_part p) (s.tasks ++ row ∷ []) ≡ total (task_part p) s.tasks + task_part p row = total-snoc (task_part p) s.tasks row in
    let still : (q : Request) → IsTagged p s.tasks_made s.tasks q → IsTagged p (s.tasks_made + 1) (s.tasks ++ row ∷ []) q = fits-more p s.tasks_made s.tasks row refl in
    let last : row.id ≤ s.tasks_made + 1 = omega arith in
    let z : 0 + fuel ≡ fuel = omega arith in
    let part : task_part p row ≡ counted (is_of p (s.tasks_made + 1) origin) fuel = ap (counted (is_of p (s.tasks_made + 1) origin)) z in
    let now : left_in p (record s { tasks_made = id; tasks = s.tasks ++ row ∷ [] }) ≤ n + counted (is_of p (s.tasks_made + 1) origin) fuel = omega arith in
    plus-zero (say_within (Ready id) (hold_within {n = n + counted (is_of p (s.tasks_made + 1) origin) fuel} _ (plus-zero (say_within {n = n + counted (is_of p (s.tasks_made + 1) origin) fuel} (Started id) (record {
      bound = now;
      tags = record {
        calls = e.tags.calls;
        ids = all-more (λ (t : Living). t.id ≤ s.tasks_made + 1) s.tasks row (all-weaken (λ (t : Living). t.id ≤ s.tasks_made) (λ (t : Living). t.id ≤ s.tasks_made + 1) s.tasks (λ t le. omega (arith, le)) e.tags.ids) last;
        requests = all-weaken (IsTagged p s.tasks_made s.tasks) (IsTagged p (s.tasks_made + 1) (s.tasks ++ row ∷ [])) s.requests still e.tags.requests;
        fresh = all-weaken (IsTagged p s.tasks_made s.tasks) (IsTagged p (s.tasks_made + 1) (s.tasks ++ row ∷ [])) s.fresh still e.tags.fresh;
        also = all-weaken (IsTagged p s.tasks_made s.tasks) (IsTagged p (s.tasks_made + 1) (s.tasks ++ row ∷ [])) qs still e.tags.also;
        connections = e.tags.connections;
      };
    })))))

pub keep_within : {low : ℕ} {p : Part} {qs : List Request} {n : ℕ} {s : State} (g : Setting) (until : Until) (value : Option Value) → Within low p qs n s → Within low p qs n (LivingTasks.keep g until value s)
keep_within {n = n} g until value e = hold_within {n = n} _ (record { bound = e.bound; tags = e.tags })

pub keep_result_within : {low : ℕ} {p : Part} {qs : List Request} {n : ℕ} {s : State} (g : Setting) (until : Until) (outcome : Outcome) → Within low p qs n s → Within low p qs n (LivingTasks.keep_result g until outcome s)
keep_result_within g until (Returned value) e = keep_within g until value e
keep_result_within g until (Threw class) e = e
keep_result_within g until Spent e = e

answer-part : (g : Setting) (has : ℕ → Bool) (number fuel : ℕ) (outcome : Outcome) → carried has (LivingTasks.reply_frame g number fuel outcome) ≤ counted (has number) fuel
answer-part g has number fuel (Returned value) = omega arith
answer-part g has number fuel (Threw class) = omega arith
answer-part g has number fuel Spent = omega arith

pub report_within : {low : ℕ} {p : Part} {qs : List Request} {n : ℕ} {s : State} (g : Setting) (origin : Origin) (id fuel : ℕ) (outcome : Outcome) → Within low p qs n s → Within low p qs (n + counted (is_of p id origin) fuel) (LivingTasks.report g origin id fuel outcome s)
report_within {low} {p} g OfRoot id fuel outcome e = more (counted (p.roots id) fuel) (keep_result_within g _ outcome e)
report_within {low} {p} {qs} {n} {s} g (OfCall conn number) id fuel outcome e =
    if_within (is_open s conn) (weaken n _ (counted (p.frames conn number) fuel) (answer-part g (p.frames conn) number fuel outcome) (send_within _ conn _ (keep_result_within g (State.Acked conn number) outcome e))) (more (counted (p.frames conn number) fuel) e)

-- ---- a task's row changes

-- a change of a row that keeps its id and its origin
pub record KeepsRow (f : Living → Living) : Type 0 where
  pub id : (t : Living) → (f t).id ≡ t.id
  pub origin : (t : Living) → (f t).origin ≡ t.origin

same-tree : (p : Part) (f : Living → Living) → KeepsRow f → (t : Living) → has_task p (f t) ≡ has_task p t
same-tree p f keeps t = ap (λ i. is_of p i (f t).origin) (keeps.id t) ∙ ap (λ o. is_of p t.id o) (keeps.origin t)

fits-set : (p : Part) (made id : ℕ) (f : Living → Living) → KeepsRow f → (tasks : List Living) (q : Request) → IsTagged p made tasks q → IsTagged p made (at_first (λ (t : Living). t.id == id) f tasks) q
fits-set p made id f keeps tasks q tag = (of q.asked tag.0, tag.1)
  where
    of : (a : Asked) → Fits p made tasks a → Fits p made (at_first (λ (t : Living). t.id == id) f tasks) a
    of (Calls number task lent kind m) e = (e.0, first-set (λ t. has_task p t ≡ p.calls number) (λ (t : Living). t.id == id) f task tasks keeps.id (λ t h. same-tree p f keeps t ∙ h) e.1)
    of (LooksUp number task name) e = tt
    of (Tells call group) e = tt

tags-set : {low : ℕ} {p : Part} {qs : List Request} (s : State) (id : ℕ) (f : Living → Living) → KeepsRow f → Tags low p qs (tag_parts s) → Tags low p qs (tag_parts (set_task f id s))
tags-set {low} {p} {qs} s id f keeps e = record {
  calls = e.calls;
  ids = all-first (λ (t : Living). t.id ≤ s.tasks_made) (λ (t : Living). t.id == id) f s.tasks (λ t le. subst (λ i. i ≤ s.tasks_made) (sym (keeps.id t)) le) e.ids;
  requests = all-weaken (IsTagged p s.tasks_made s.tasks) (IsTagged p s.tasks_made (at_first (λ (t : Living). t.id == id) f s.tasks)) s.requests (fits-set p s.tasks_made id f keeps s.tasks) e.requests;
  fresh = all-weaken (IsTagged p s.tasks_made s.tasks) (IsTagged p s.tasks_made (at_first (λ (t : Living). t.id == id) f s.tasks)) s.fresh (fits-set p s.tasks_made id f keeps s.tasks) e.fresh;
  also = all-weaken (IsTagged p s.tasks_made s.tasks) (IsTagged p s.tasks_made (at_first (λ (t : Living). t.id == id) f s.tasks)) qs (fits-set p s.tasks_made id f keeps s.tasks) e.also;
  connections = e.connections;
}

pub row_within : {low : ℕ} {p : Part} {qs : List Request} {n : ℕ} {s : State} (k id : ℕ) (t : Living) (f : Living → Living) → KeepsRow f → task_at s id ≡ Some t
    → task_part p (f t) ≤ task_part p t + k → Within low p qs n s → Within low p qs (n + k) (set_task f id s)
unfolding value_in
row_within {low} {p} {qs} {n} {s} k id t f keeps is le e =
    let b : left_in p s ≤ n = e.bound in
    let was : value_in (task_part p) (task_at s id) ≡ task_part p t = found-value (task_part p) (task_at s id) t is in
    let now : value_in (λ u. task_part p (f u)) (task_at s id) ≡ task_part p (f t) = found-value (λ u. task_part p (f u)) (task_at s id) t is in
    let q : total (task_part p) (at_first (λ (u : Living). u.id == id) f s.tasks) + value_in (task_part p) (task_at s id) ≡ total (task_part p) s.tasks + value_in (λ u. task_part p (f u)) (task_at s id)
    = total-first (task_part p) (λ (u : Living). u.id == id) f s.tasks in
    record { bound = omega arith; tags = tags-set s id f keeps e.tags }

-- what a task gains is no more than this
less-part : (p : Part) (t u : Living) (k : ℕ) → has_task p u ≡ has_task p t → task_units u ≤ task_units t + k → task_part p u ≤ task_part p t + counted (has_task p t) k
less-part p t u k same le =
    let a : counted (has_task p u) (task_units u) ≡ counted (has_task p t) (task_units u) = ap (λ b. counted b (task_units u)) same in
    let b : counted (has_task p t) (task_units u) ≤ counted (has_task p t) (task_units t + k) = counted-less (has_task p t) (task_units u) (task_units t + k) le in
    let c : counted (has_task p t) (task_units t + k) ≡ counted (has_task p t) (task_units t) + counted (has_task p t) k = counted-both (has_task p t) (task_units t) k in
    omega arith

pub reply-keeps : (g : Setting) (reply : Reply) → KeepsRow (LivingTasks.after_reply g reply)
reply-keeps g reply = record { id = λ t. refl; origin = λ t. refl }

pub reply_task_within : {low : ℕ} {p : Part} {qs : List Request} {n : ℕ} {s : State} (g : Setting) (id : ℕ) (reply : Reply) (k : ℕ) → ((t : Living) → task_at s id ≡ Some t → counted (has_task p t) (back reply) ≤ k)
    → Within low p qs n s → Within low p qs (n + k) (LivingTasks.reply_task g id reply s)
unfolding LivingTasks.reply_task units_of
reply_task_within {low} {p} {qs} {n} {s} g id reply k gains e = some_within (task_at s id) _ (more k e) (λ t is.
    let le : counted (has_task p t) (back reply) ≤ k = gains t is in
    let part : task_part p (LivingTasks.after_reply g reply t) ≤ task_part p t + counted (has_task p t) (back reply) = less-part p t (LivingTasks.after_reply g reply t) (back reply) refl (answer-task-units g reply t.task) in
    plus-zero (say_within (Ready id) (hold_within _
    (row_within k id t (LivingTasks.after_reply g reply) (reply-keeps g reply) is (omega arith) e))))

-- what a reply gives back is of the tree only so far
unfoldable pub Gains : Part → ℕ → State → Reply → Asked → Type 0
Gains p k s reply (Calls number task lent kind m) = (t : Living) → task_at s task ≡ Some t → counted (has_task p t) (back reply) ≤ k
Gains p k s reply (LooksUp number task name) = Unit {0}
Gains p k s reply (Tells call group) = Unit {0}

pub reply_to_within : {low : ℕ} {p : Part} {qs : List Request} {n : ℕ} {s : State} (g : Setting) (asked : Asked) (reply : Reply) (k : ℕ) → Gains p k s reply asked → Within low p qs n s → Within low p qs (n + k) (LivingTasks.reply_to g asked reply s)
unfolding LivingTasks.reply_to Gains
reply_to_within g (Calls number task lent kind m) reply k gains e = reply_task_within g task reply k gains e
reply_to_within g (LooksUp number task name) reply k gains e =
    more k (keep_result_within g (State.RootAcked task) (LivingTasks.outcome_of reply) (plus-zero (say_within (Ended task (LivingTasks.outcome_of reply)) e)))
reply_to_within g (Tells call group) reply k gains e = more k e

pub no-gain : (p : Part) (s : State) (reply : Reply) (asked : Asked) → back reply ≡ 0 → Gains p 0 s reply asked
unfolding Gains
no-gain p s reply (Calls number task lent kind m) z = λ t is. none (has_task p t) (back reply) z
  where
    none : (b : Bool) (k : ℕ) → k ≡ 0 → counted b k ≤ 0
    none true k e = omega arith
    none false k e = omega arith
no-gain p s reply (LooksUp number task name) z = tt
no-gain p s reply (Tells call group) z = tt

-- a reply that gives nothing back
pub reply_none_within : {low : ℕ} {p : Part} {qs : List Request} {n : ℕ} {s : State} (g : Setting) (asked : Asked) (reply : Reply) → back reply ≡ 0 → Within low p qs n s → Within low p qs n (LivingTasks.reply_to g asked reply s)
reply_none_within {low} {p} {s = s} g asked reply z e = plus-zero (reply_to_within g asked reply 0 (no-gain p s reply asked z) e)

pub after_op_within : {low : ℕ} {p : Part} {qs : List Request} {n : ℕ} {s : State} (g : Setting) (op : Op) → Within low p qs n s → Within low p qs n (LivingTasks.after_op g op s)
unfolding LivingTasks.after_op
after_op_within {n = n} {s} g (Create class) e = if_within (LivingTasks.is_full s) e (record { bound = e.bound; tags = e.tags })
after_op_within g (Get id slot) e = e
after_op_within {n = n} {s} g (Put id slot value) e = drop_within _ (hold_within {n = n} _ (record { bound = e.bound; tags = e.tags }))
after_op_within g (Call target method arguments) e = e

-- no more units, so no larger a part
no-more : (p : Part) (t u : Living) → has_task p u ≡ has_task p t → task_units u ≤ task_units t + 0 → task_part p u ≤ task_part p t + 0
no-more p t u same le =
    let a : task_part p u ≤ task_part p t + counted (has_task p t) 0 = less-part p t u 0 same le in
    let z : counted (has_task p t) 0 ≡ 0 = nothing (has_task p t) in omega arith
  where
    nothing : (b : Bool) → counted b 0 ≡ 0
    nothing true = refl
    nothing false = refl

pub give_back_within : {low : ℕ} {p : Part} {qs : List Request} {n : ℕ} {s : State} (id k : ℕ) → Within low p qs n s → Within low p qs n (LivingTasks.give_back id k s)
unfolding LivingTasks.give_back units_of
give_back_within {low} {p} {qs} {n} {s} id k e = some_within (ready_at s id) _ e (λ t is.
    plus-zero (row_within 0 id t (LivingTasks.after_steps k) (record { id = λ u. refl; origin = λ u. refl }) (ready-is (task_at s id) t is).0 (no-more p t (LivingTasks.after_steps k t) refl (weak t)) e))
  where
    weak : (u : Living) → task_units (LivingTasks.after_steps k u) ≤ task_units u + 0
    weak u = let le : units_of (Tasks.steps k u.task) ≤ units_of u.task = steps-units k u.task in omega arith

pub commit_within : {low : ℕ} {p : Part} {qs : List Request} {n : ℕ} {s : State} (g : Setting) (id k : ℕ) (op : Op) → Within low p qs n s → Within low p qs n (LivingTasks.commit g id k op s)
unfolding LivingTasks.commit units_of
commit_within {low} {p} {qs} {n} {s} g id k op e = some_within (ready_at s id) _ e (λ t is.
    after_op_within g op (hold_within _ (plus-zero (row_within 0 id t (λ (u : Living). LivingTasks.after_reply g (LivingTasks.op_reply g op s) (LivingTasks.after_steps k u)) (record { id = λ u. refl; origin = λ u. refl })
    (ready-is (task_at s id) t is).0 (no-more p t (LivingTasks.after_reply g (LivingTasks.op_reply g op s) (LivingTasks.after_steps k t)) refl (committed-units g s op k t.task)) e))))

-- ---- a call is made

pub park_op_within : {low : ℕ} {p : Part} {qs : List Request} {n : ℕ} {s : State} (g : Setting) (id k : ℕ) (t : Living) (op : Op) → task_at s id ≡ Some t → (is_call op ≡ true → p.calls (s.calls_made + 1) ≡ has_task p t)
    → Within low p qs n s → Within low p qs n (LivingTasks.park_op g id k t op s)
unfolding units_of value_in
park_op_within g id k t (Create class) is fits e = e
park_op_within g id k t (Get o slot) is fits e = e
park_op_within g id k t (Put o slot value) is fits e = e
park_op_within {low} {p} {qs} {n} {s} g id k t (Call target method arguments) is fits e =
    let f : Living → Living = LivingTasks.waiting k in
    let b : left_in p s ≤ n = e.bound in
    let was : value_in (task_part p) (task_at s id) ≡ task_part p t = found-value (task_part p) (task_at s id) t is in
    let now : value_in (λ u. task_part p (f u)) (task_at s id) ≡ task_part p (f t) = found-value (λ u. task_part p (f u)) (task_at s id) t is in
    let q : total (task_part p) (at_first (λ (u : Living). u.id == id) f s.tasks) + value_in (task_part p) (task_at s id) ≡ total (task_part p) s.tasks + value_in (λ u. task_part p (f u)) (task_at s id)
    = total-first (task_part p) (λ (u : Living). u.id == id) f s.tasks in
    let fuel : ℕ = Tasks.lent (Tasks.steps k t.task) in
    let le : units_of (Tasks.lend_fuel (Tasks.steps k t.task)) + fuel ≤ units_of t.task = parked-units k t.task in
    let less : counted (has_task p t) (units_of (Tasks.lend_fuel (Tasks.steps k t.task)) + fuel) ≤ counted (has_task p t) (units_of t.task) = counted-less (has_task p t) _ _ le in
    let both : counted (has_task p t) (units_of (Tasks.lend_fuel (Tasks.steps k t.task)) + fuel) ≡ counted (has_task p t) (units_of (Tasks.lend_fuel (Tasks.steps k t.task))) + counted (has_task p t) fuel
    = counted-both (has_task p t) (units_of (Tasks.lend_fuel (Tasks.steps k t.task))) fuel in
    let call : counted (p.calls (s.calls_made + 1)) fuel ≡ counted (has_task p t) fuel = ap (λ x. counted x fuel) (fits refl) in
    let set : Tags low p qs (tag_parts (set_task f id s)) = tags-set s id f keeps e.tags in
    let given : low ≤ s.calls_made = e.tags.calls in
    record { bound = omega arith; tags = record { calls = omega (arith, given); ids = set.ids; requests = set.requests; fresh = (((known, owned), tt), tt); also = set.also; connections = set.connections } }
  where
    keeps : KeepsRow (LivingTasks.waiting k)
    keeps = record { id = λ u. refl; origin = λ u. refl }

    -- the id was given
    known : id ≤ s.tasks_made
    known = subst (λ i. i ≤ s.tasks_made) (eqb-true t.id id (found-is (λ (u : Living). u.id == id) s.tasks t is)) (all-found (λ (u : Living). u.id ≤ s.tasks_made) (λ (u : Living). u.id == id) s.tasks t is e.tags.ids)

    owned : FirstIs (λ u. has_task p u ≡ p.calls (s.calls_made + 1)) id (at_first (λ (u : Living). u.id == id) (LivingTasks.waiting k) s.tasks)
    owned = first-set (λ u. has_task p u ≡ p.calls (s.calls_made + 1)) (λ (u : Living). u.id == id) (LivingTasks.waiting k) id s.tasks keeps.id (λ u h. h)
        (found-first (λ u. has_task p u ≡ p.calls (s.calls_made + 1)) id s.tasks (λ u found. ap (has_task p) (some-same (sym found ∙ is)) ∙ sym (fits refl)))

pub park_call_within : {low : ℕ} {p : Part} {qs : List Request} {n : ℕ} {s : State} (g : Setting) (id k : ℕ) → ((t : Living) → ready_at s id ≡ Some t → stands_at_call (Tasks.stand (Tasks.steps k t.task)) ≡ true → p.calls (s.calls_made + 1) ≡ has_task p t) → Within low p qs n s → Within low p qs n (LivingTasks.park_call g id k s)
unfolding LivingTasks.park_call
park_call_within {low} {p} {qs} {n} {s} g id k fits e = some_within (ready_at s id) _ e (λ t is. at t (ready-is (task_at s id) t is).0 (Tasks.stand (Tasks.steps k t.task)) (fits t is))
  where
    at : (t : Living) → task_at s id ≡ Some t → (stands : Stand) → (stands_at_call stands ≡ true → p.calls (s.calls_made + 1) ≡ has_task p t) → Within low p qs n (LivingTasks.park_at g id k t stands s)
    at t is Runs f = e
    at t is (AsksFor op) f = park_op_within g id k t op is f e
    at t is (HasEnded outcome) f = e

-- ---- a task ends

fits-fewer : (p : Part) (made id : ℕ) (tasks : List Living) (q : Request) → IsTagged p made tasks q → IsTagged p made (filter (λ (t : Living). not (t.id == id)) tasks) q
fits-fewer p made id tasks q tag = (of q.asked tag.0, tag.1)
  where
    of : (a : Asked) → Fits p made tasks a → Fits p made (filter (λ (t : Living). not (t.id == id)) tasks) a
    of (Calls number task lent kind m) e = (e.0, first-fewer (λ t. has_task p t ≡ p.calls number) task id tasks e.1)
    of (LooksUp number task name) e = tt
    of (Tells call group) e = tt

-- What a task executed goes out of the sum as it ends.
pub end_with_within : {low : ℕ} {p : Part} {qs : List Request} {n : ℕ} {s : State} (g : Setting) (id : ℕ) (t u : Living) (outcome : Outcome) → task_at s id ≡ Some u → t.id ≡ id → has_task p t ≡ has_task p u → task_units t ≤ task_units u
    → Within low p qs (n + counted (has_task p t) t.task.made) s → Within low p qs n (LivingTasks.end_with g id t outcome s)
unfolding value_in
end_with_within {low} {p} {qs} {n} {s} g id t u outcome is own same le e =
    let b : left_in p s ≤ n + counted (has_task p t) t.task.made = e.bound in
    let was : value_in (task_part p) (task_at s id) ≡ task_part p u = found-value (task_part p) (task_at s id) u is in
    let q : value_in (task_part p) (task_at s id) + total (task_part p) (filter (λ (v : Living). not (v.id == id)) s.tasks) ≤ total (task_part p) s.tasks = total-find (task_part p) (λ (v : Living). v.id == id) s.tasks in
    let rows : List Living = filter (λ (v : Living). not (v.id == id)) s.tasks in
    let m : ℕ = left_in p (record s { tasks = rows; retired = s.retired + t.task.made }) in
    let self : m ≤ m = omega arith in
    let moved : counted (has_task p t) (task_units t) ≡ counted (has_task p u) (task_units t) = ap (λ x. counted x (task_units t)) same in
    let less : counted (has_task p u) (task_units t) ≤ counted (has_task p u) (task_units u) = counted-less (has_task p u) (task_units t) (task_units u) le in
    let both : counted (has_task p t) (t.task.made + t.task.fuel) ≡ counted (has_task p t) t.task.made + counted (has_task p t) t.task.fuel = counted-both (has_task p t) t.task.made t.task.fuel in
    let begun : Within low p qs m (record s { tasks = rows; retired = s.retired + t.task.made }) = record {
      bound = self;
      tags = record {
        calls = e.tags.calls;
        ids = all-filter (λ (v : Living). v.id ≤ s.tasks_made) (λ (v : Living). not (v.id == id)) s.tasks e.tags.ids;
        requests = all-weaken (IsTagged p s.tasks_made s.tasks) (IsTagged p s.tasks_made rows) s.requests (fits-fewer p s.tasks_made id s.tasks) e.tags.requests;
        fresh = all-weaken (IsTagged p s.tasks_made s.tasks) (IsTagged p s.tasks_made rows) s.fresh (fits-fewer p s.tasks_made id s.tasks) e.tags.fresh;
        also = all-weaken (IsTagged p s.tasks_made s.tasks) (IsTagged p s.tasks_made rows) qs (fits-fewer p s.tasks_made id s.tasks) e.tags.also;
        connections = e.tags.connections;
      };
    } in
    let out : Within low p qs (m + 0 + counted (is_of p id t.origin) t.task.fuel) (LivingTasks.end_with g id t outcome s) =
    drop_within _ (report_within g t.origin id t.task.fuel outcome (say_within (Ended id outcome) begun)) in
    let bound : left_in p (LivingTasks.end_with g id t outcome s) ≤ m + 0 + counted (is_of p id t.origin) t.task.fuel = out.bound in
    let named : counted (has_task p t) t.task.fuel ≡ counted (is_of p id t.origin) t.task.fuel = ap (λ i. counted (is_of p i t.origin) t.task.fuel) own in
    record { bound = omega arith; tags = out.tags }

pub finish_within : {low : ℕ} {p : Part} {qs : List Request} {n : ℕ} {s : State} (g : Setting) (id k : ℕ) → Within low p qs (n + ended_part p s (Finished id k)) s → Within low p qs n (LivingTasks.finish_task g id k s)
unfolding LivingTasks.finish_task units_of
finish_within {low} {p} {qs} {n} {s} g id k e = found (ready_at s id) refl e
  where
    ends : (t : Living) → ready_at s id ≡ Some t → (at : Stand) → Within low p qs (n + ended_at (has_task p t) (Tasks.steps k t.task).made at) s → Within low p qs n (LivingTasks.end_at g id (LivingTasks.after_steps k t) at s)
    ends t is Runs h = plus-zero h
    ends t is (AsksFor op) h = plus-zero h
    ends t is (HasEnded outcome) h =
        let there : task_at s id ≡ Some t = (ready-is (task_at s id) t is).0 in
        end_with_within g id (LivingTasks.after_steps k t) t outcome there (eqb-true t.id id (found-is (λ (u : Living). u.id == id) s.tasks t there)) refl (steps-units k t.task) h

    found : (o : Option Living) → ready_at s id ≡ o → Within low p qs (n + with_some o 0 (λ t. ended_at (has_task p t) (Tasks.steps k t.task).made (Tasks.stand (Tasks.steps k t.task)))) s
        → Within low p qs n (with_some o s (λ t. LivingTasks.end_at g id (LivingTasks.after_steps k t) (Tasks.stand (Tasks.steps k t.task)) s))
    found None is h = plus-zero h
    found (Some t) is h = ends t is (Tasks.stand (Tasks.steps k t.task)) h
