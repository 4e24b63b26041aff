-- What single changes of the tasks and results make of what lives in a space.
use Rattle.std.proofs.Common.{◌≡◌, ℕ, ◌+◌, ◌^◌, ◌≤◌, ◌<◌, nat_lt, true, false, cond, List, [], ◌∷◌, ◌++◌, Option, None, Some, refl, sym, ap, ◌∙◌, filter, length, drop, arith}
use Rattle.std.specs.Prelude.{not, find, ◌==◌, is_some, option_map, unwrap_or}
use Rattle.std.proofs.lemmas.Bool.Decides.{nat_tests}
use Rattle.std.proofs.lemmas.Bool.{eq-eqb, eqb-true, false≢true}
use Rattle.space_ids.specs.declared.ids.ForeignId.{ForeignId}
use Rattle.space_ids.specs.declared.ids.Ref.{Ref}
use Rattle.space_ids.specs.declared.value.Value.{Value}
use Rattle.sp_rules.specs.Behaviours.{Call, Reply}
use Rattle.sp_rules.specs.Classes.{Kind, Setting}
use Rattle.sp_rules.specs.Frames.{release}
use Rattle.sp_rules.specs.Holders.{hold_ids, holder_comes}
use Rattle.sp_rules.specs.Holders.{drop as drop_all}
use Rattle.sp_rules.specs.OwnEvents.{is_over_at, on_moment}
use Rattle.dgc_client.specs.Table as client
use Rattle.dgc_list.specs.History as owner
use Rattle.sp_rules.specs.Laws.{AllOf}
use Rattle.sp_rules.specs.Lists.{each, with_some}
use Rattle.sp_rules.specs.LivingTasks.{after_reply, after_steps, keep_result, outcome_of as outcome_in, park_at, park_call, reply_task, reply_to, waiting}
use Rattle.sp_rules.specs.References.{references_in, with_references}
use Rattle.sp_rules.specs.State.{State, KeptResult, Origin, RootAcked, say, set_task, task_at}
use Rattle.sp_rules.specs.State as rules
use Rattle.sp_rules.specs.Tasks.{Task, Stand, AsksFor, answer, gained, lent, stand, start, steps}
use Rattle.net_message.specs.declared.message.Message.TheVariants as message
use Rattle.sp_results.specs.Held.{AreCallResults, left_at, references_of_results}
use Rattle.sp_results.specs.declared.call_results.CallResults.{CallResults}
use Rattle.sp_requests.specs.Tables.{seen as shown}
use Rattle.sp_requests.specs.declared.connection.Connection.{Connection as Shown}
use Rattle.sp_requests.specs.Asking.{asks_by, first_of}
use Rattle.sp_requests.specs.declared.asked.Asker.TheVariants as asker
use Rattle.sp_requests.specs.declared.asked.ResultKind.{ResultKind}
use Rattle.sp_rules.specs.Events.{Ended}
use Rattle.sp_tasks.specs.Behaviours.{origin_of}
use Rattle.sp_tasks.specs.declared.origin.Origin.{Origin as Told}
use Rattle.sp_tasks.specs.Rows.{TaskRow, TaskTable, Hand, answered_row, at_row, back_row, is_parked, lent_row, parked_row, replied_row, roomy_hand, roomy_row, row_of, started_row, value_given, with_started, without}
use Rattle.sp_transport.specs.Asking.{make_call, pass_moment}
use Rattle.sp_transport.specs.Transports.{IsTransport}
use Rattle.sp_transport.specs.declared.transport.Transport.{Transport}
use Rattle.sp_living.specs.Hands.{task_of}
use Rattle.sp_living.specs.Holding.{held_at}
use Rattle.sp_living.specs.Livings.{IsLiving}
use Rattle.sp_living.specs.Parts.{AreResults, AreTasks}
use Rattle.sp_living.specs.Steps.{started, with_task}
use Rattle.sp_living.specs.Views.{Seen, seen, seen_row}
use Rattle.sp_living.specs.declared.living.Living.{Living}
use Rattle.sp_living.proofs.HandLemmas.{InHand, steps-held, task-is, tasks-back, tasks-given, tasks-lent, tasks-parked}
use Rattle.sp_living.proofs.LivingLemmas.{beside}
use Rattle.sp_living.proofs.ResultLemmas.{released-as, results-passed}
use Rattle.sp_living.proofs.TaskLemmas.{answer-held, matched, tasks-ended, tasks-replied, tasks-started}

-- ---- parts

-- what happens to the tasks alone
pub tasks-now : (g : Setting) (s : State) (l : Living) (made : ℕ) (tasks : List rules.Living) (retired : ℕ) (table : TaskTable) → AreTasks g made tasks table → IsLiving g s l
    → IsLiving g (record s { tasks_made = made; tasks = tasks; retired = retired }) (record l { tasks = table })
tasks-now g s l made tasks retired table now is = record {
  id = is.id;
  moment = is.moment;
  transport = beside s made tasks s.results s.parked retired l.transport is.transport;
  tasks = now;
  results = is.results;
  parked = is.parked;
}

-- what happens to the results alone
pub results-now : (g : Setting) (s : State) (l : Living) (results : List KeptResult) (roots : List (ℕ × Option Value)) (calls : CallResults) → AreResults s.moment results roots calls → IsLiving g s l
    → IsLiving g (record s { results = results }) (record l { results = roots; call_results = calls })
results-now g s l results roots calls now is = record {
  id = is.id;
  moment = is.moment;
  transport = beside s s.tasks_made s.tasks results s.parked s.retired l.transport is.transport;
  tasks = is.tasks;
  results = now;
  parked = is.parked;
}

-- ---- what is found of a task

only : {A : Type 0} (x y : A) → Some x ≡ Some y → x ≡ y
only x y h = ap (λ o. unwrap_or o x) h

pub held-is : (g : Setting) (s : State) (l : Living) (id : ℕ) → IsLiving g s l → held_at id l ≡ unwrap_or (option_map (λ (t : rules.Living). t.task.held) (task_at s id)) []
held-is g s l id is = by (row_of id l.tasks.rows) (task_at s id) (matched g s.tasks_made s.tasks l.tasks id is.tasks)
  where
    by : (o : Option TaskRow) (p : Option rules.Living) → option_map (λ (row : TaskRow). seen_row (id, row)) o ≡ option_map seen p
        → unwrap_or (option_map (λ (row : TaskRow). row.held) o) [] ≡ unwrap_or (option_map (λ (t : rules.Living). t.task.held) p) []
    by None None e = refl
    by None (Some t) e = cc
    by (Some row) None e = cc
    by (Some row) (Some t) e = ap (λ (x : Seen). x.held) (only (seen_row (id, row)) (seen t) e)

-- of a task that lives
pub held-of : (g : Setting) (s : State) (l : Living) (id : ℕ) (t : rules.Living) → IsLiving g s l → task_at s id ≡ Some t → held_at id l ≡ t.task.held
held-of g s l id t is there = held-is g s l id is ∙ ap (λ (o : Option rules.Living). unwrap_or (option_map (λ (u : rules.Living). u.task.held) o) []) there

pub origin-is : (g : Setting) (s : State) (l : Living) (id : ℕ) → IsLiving g s l → option_map (λ (row : TaskRow). row.origin) (row_of id l.tasks.rows) ≡ option_map (λ (t : rules.Living). t.origin) (task_at s id)
origin-is g s l id is = by (row_of id l.tasks.rows) (task_at s id) (matched g s.tasks_made s.tasks l.tasks id is.tasks)
  where
    by : (o : Option TaskRow) (p : Option rules.Living) → option_map (λ (row : TaskRow). seen_row (id, row)) o ≡ option_map seen p
        → option_map (λ (row : TaskRow). row.origin) o ≡ option_map (λ (t : rules.Living). t.origin) p
    by None None e = refl
    by None (Some t) e = cc
    by (Some row) None e = cc
    by (Some row) (Some t) e = ap (λ (x : Seen). Some x.origin) (only (seen_row (id, row)) (seen t) e)

-- ---- a task starts

task-last : (made : ℕ) (t : rules.Living) (ts : List rules.Living) → t.id ≡ made + 1 → AllOf (λ (u : rules.Living). u.id ≤ made) ts → find (λ (u : rules.Living). u.id == made + 1) (ts ++ t ∷ []) ≡ Some t
task-last made t [] mine all =
    elim (t.id == made + 1) as (λ b. (t.id == made + 1) ≡ b → cond b (Some t) None ≡ Some t) [
      | true ↦ λ here. refl
      | false ↦ λ apart. absurd (false≢true (sym apart ∙ ap (λ n. n == made + 1) mine ∙ eq-eqb (made + 1) (made + 1) refl))
    ] refl
task-last made t (u ∷ us) mine all =
    elim (u.id == made + 1) as (λ b. (u.id == made + 1) ≡ b → cond b (Some u) (find (λ (u : rules.Living). u.id == made + 1) (us ++ t ∷ [])) ≡ Some t) [
      | true ↦ λ here. let same : u.id ≡ made + 1 = eqb-true u.id (made + 1) here in let low : u.id ≤ made = all.0 in absurd (omega (arith, same, low))
      | false ↦ λ apart. task-last made t us mine all.1
    ] refl

pub now-entered : (g : Setting) (s : State) (l : Living) (room : ℕ) (table : TaskTable) (origin : Origin) (method : ℕ) (arguments : List Value) (fuel : ℕ)
    → table ≡ with_started (started_row origin method arguments fuel) (record l.tasks { room = room }) → IsLiving g s l → IsLiving g (with_task g origin method arguments fuel s) (record l { tasks = table })
now-entered g s l room table origin method arguments fuel new is =
    let before : AreTasks g s.tasks_made s.tasks (record l.tasks { room = room }) = record { rows = is.tasks.rows; last = is.tasks.last; runs = is.tasks.runs; numbers = is.tasks.numbers; idle = is.tasks.idle } in
    tasks-now g s l (s.tasks_made + 1) (with_task g origin method arguments fuel s).tasks s.retired table (tasks-started g s.tasks_made s.tasks (record l.tasks { room = room }) table origin method arguments fuel new before) is

pub held-started : (g : Setting) (s : State) (old l : Living) (origin : Origin) (method : ℕ) (arguments : List Value) (fuel : ℕ) → IsLiving g s old → IsLiving g (with_task g origin method arguments fuel s) l
    → held_at (s.tasks_made + 1) l ≡ (start g method arguments fuel).held
held-started g s old l origin method arguments fuel is now =
    held-of g (with_task g origin method arguments fuel s) l (s.tasks_made + 1) (started g (s.tasks_made + 1) origin method arguments fuel) now
    (task-last s.tasks_made (started g (s.tasks_made + 1) origin method arguments fuel) s.tasks refl is.tasks.numbers)

-- ---- a task that waits is answered

pub absent : (g : Setting) (s : State) (l : Living) (id : ℕ) → row_of id l.tasks.rows ≡ None → IsLiving g s l → task_at s id ≡ None
absent g s l id none is = by (row_of id l.tasks.rows) (task_at s id) none (matched g s.tasks_made s.tasks l.tasks id is.tasks)
  where
    by : (o : Option TaskRow) (p : Option rules.Living) → o ≡ None → option_map (λ (row : TaskRow). seen_row (id, row)) o ≡ option_map seen p → p ≡ None
    by None None n e = refl
    by None (Some t) n e = cc
    by (Some row) p n e = cc

pub now-answered : (g : Setting) (s : State) (l : Living) (id : ℕ) (reply : Reply) (table : TaskTable) → is_parked (row_of id l.tasks.rows) ≡ true
    → table ≡ record l.tasks { rows = at_row id (answered_row reply) l.tasks.rows } → IsLiving g s l → IsLiving g (set_task (after_reply g reply) id s) (record l { tasks = table })
now-answered g s l id reply table waits new is =
    tasks-now g s l s.tasks_made (set_task (after_reply g reply) id s).tasks s.retired table (tasks-replied g s.tasks_made id s.tasks l.tasks table reply new waits is.tasks) is

-- what it gains
pub gains : (g : Setting) (reply : Reply) (t : Task) (held : List Ref) → held ≡ t.held → drop (length held) (with_references held (references_in (value_given reply))) ≡ gained t (answer g reply t)
gains g reply t held is = (λ j. drop (length (is j)) (with_references (is j) (references_in (value_given reply)))) ∙ ap (drop (length t.held)) (sym (answer-held g reply t))

pub gains-after : (g : Setting) (reply : Reply) (k : ℕ) (t : Task) (held : List Ref) → held ≡ t.held → drop (length held) (with_references held (references_in (value_given reply))) ≡ gained t (answer g reply (steps k t))
gains-after g reply k t held is =
    (λ j. drop (length (is j)) (with_references (is j) (references_in (value_given reply))))
    ∙ ap (drop (length t.held)) (ap (λ (h : List Ref). with_references h (references_in (value_given reply))) (sym (steps-held k t)) ∙ sym (answer-held g reply (steps k t)))

-- ---- a task ends

pub now-ended : (g : Setting) (s : State) (l : Living) (id retired : ℕ) (table : TaskTable) → table ≡ record l.tasks { rows = without id l.tasks.rows } → IsLiving g s l
    → IsLiving g (record s { tasks = filter (λ (t : rules.Living). not (t.id == id)) s.tasks; retired = retired }) (record l { tasks = table })
now-ended g s l id retired table new is =
    tasks-now g s l s.tasks_made (filter (λ (t : rules.Living). not (t.id == id)) s.tasks) retired table (tasks-ended g s.tasks_made id s.tasks l.tasks table new is.tasks) is

-- ---- lent tasks

pub now-lent : (g : Setting) (s : State) (l : Living) (id : ℕ) (table : TaskTable) → table ≡ record l.tasks { rows = at_row id lent_row l.tasks.rows } → IsLiving g s l → IsLiving g s (record l { tasks = table })
now-lent g s l id table new is = tasks-now g s l s.tasks_made s.tasks s.retired table (tasks-lent g s.tasks_made id s.tasks l.tasks table new is.tasks) is

pub now-back : (g : Setting) (s : State) (l : Living) (hand : Hand) (table : TaskTable) → (h : InHand g s l hand) → table ≡ record l.tasks { rows = at_row hand.id (back_row hand.made) l.tasks.rows } → IsLiving g s l
    → IsLiving g (set_task (after_steps hand.made) hand.id s) (record l { tasks = table })
now-back g s l hand table h new is = tasks-now g s l s.tasks_made (set_task (after_steps hand.made) hand.id s).tasks s.retired table (tasks-back g s l hand table h new is.tasks) is

pub now-given : (g : Setting) (s : State) (l : Living) (hand : Hand) (reply : Reply) (table : TaskTable) → (h : InHand g s l hand) → table ≡ record l.tasks { rows = at_row hand.id (replied_row hand.made reply) l.tasks.rows }
    → IsLiving g s l → IsLiving g (set_task (λ (u : rules.Living). after_reply g reply (after_steps hand.made u)) hand.id s) (record l { tasks = table })
now-given g s l hand reply table h new is =
    tasks-now g s l s.tasks_made (set_task (λ (u : rules.Living). after_reply g reply (after_steps hand.made u)) hand.id s).tasks s.retired table (tasks-given g s l hand reply table h new is.tasks) is

-- Holders come before or after a task changes.
pub held-set : (ids : List ForeignId) (f : rules.Living → rules.Living) (id : ℕ) (s : State) → set_task f id (hold_ids ids s) ≡ hold_ids ids (set_task f id s)
unfolding hold_ids each
held-set [] f id s = refl
held-set (x ∷ xs) f id s = held-set xs f id (holder_comes s x)

-- ---- what is found

pub no-origin : (r : Option Told) (o : Option TaskRow) → is_some r ≡ false → option_map origin_of r ≡ option_map (λ (row : TaskRow). row.origin) o → o ≡ None
no-origin None None none same = refl
no-origin None (Some row) none same = cc
no-origin (Some x) o none same = absurd (false≢true (sym none))

-- a task that waits lives
pub waits-there : (g : Setting) (s : State) (l : Living) (id : ℕ) → is_parked (row_of id l.tasks.rows) ≡ true → IsLiving g s l → (t : rules.Living) × (task_at s id ≡ Some t)
waits-there g s l id waits is = by (row_of id l.tasks.rows) (task_at s id) waits refl (matched g s.tasks_made s.tasks l.tasks id is.tasks)
  where
    by : (o : Option TaskRow) (p : Option rules.Living) → is_parked o ≡ true → task_at s id ≡ p → option_map (λ (row : TaskRow). seen_row (id, row)) o ≡ option_map seen p → (t : rules.Living) × (task_at s id ≡ Some t)
    by None p w there e = absurd (false≢true w)
    by (Some row) None w there e = cc
    by (Some row) (Some t) w there e = (t, there)

-- a connection that is found is open
pub found-open : (r : Option Shown) (o : Option rules.Connection) → r ≡ option_map shown o → is_some r ≡ true → is_some o ≡ true
found-open r None same some = absurd (false≢true (sym (ap (λ x. is_some x) same) ∙ some))
found-open r (Some c) same some = refl

-- one that is not found is not
pub none-open : (r : Option Shown) (o : Option rules.Connection) → r ≡ option_map shown o → is_some r ≡ false → o ≡ None
none-open r None same none = refl
none-open r (Some c) same none = absurd (false≢true (sym none ∙ ap (λ x. is_some x) same))

-- ---- who asked

pub asked-call : (g : Setting) (question : rules.Asked) (task lent : ℕ) (kind : ResultKind) (reply : Reply) (s : State) → first_of (asks_by question) ≡ Some (asker.Call task lent kind)
    → reply_to g question reply s ≡ reply_task g task reply s
unfolding reply_to
asked-call g (rules.Calls n t l k m) task lent kind reply s e = let same : t ≡ task = cc in ap (λ id. reply_task g id reply s) same
asked-call g (rules.LooksUp n t name) task lent kind reply s e = cc
asked-call g (rules.Tells call group) task lent kind reply s e = cc

pub asked-lookup : (g : Setting) (question : rules.Asked) (task : ℕ) (reply : Reply) (s : State) → first_of (asks_by question) ≡ Some (asker.Lookup task)
    → reply_to g question reply s ≡ keep_result g (RootAcked task) (outcome_in reply) (say (Ended task (outcome_in reply)) s)
unfolding reply_to
asked-lookup g (rules.Calls n t l k m) task reply s e = cc
asked-lookup g (rules.LooksUp n t name) task reply s e = let same : t ≡ task = cc in ap (λ id. keep_result g (RootAcked id) (outcome_in reply) (say (Ended id (outcome_in reply)) s)) same
asked-lookup g (rules.Tells call group) task reply s e = cc

-- ---- a task waits for the reply to its call

pub now-waiting : (g : Setting) (s : State) (l : Living) (hand now : Hand) (mid table : TaskTable) → (h : InHand g s l hand) → mid ≡ record l.tasks { rows = at_row hand.id roomy_row l.tasks.rows } → now ≡ roomy_hand hand
    → table ≡ record mid { rows = at_row now.id (parked_row now.made) mid.rows } → IsLiving g s l → IsLiving g (set_task (waiting hand.made) hand.id s) (record l { tasks = table })
now-waiting g s l hand now mid table h roomy mine is a =
    tasks-now g s l s.tasks_made (set_task (waiting hand.made) hand.id s).tasks s.retired table (tasks-parked g s l hand now mid table h roomy mine is a.tasks) a

pub parks : (g : Setting) (s : State) (l : Living) (hand : Hand) (target : Ref) (method : ℕ) (arguments : List Value) (fuel number id : ℕ) (kind : Kind) → IsLiving g s l → (h : InHand g s l hand)
    → stand (task_of g hand) ≡ AsksFor (Call target method arguments) → fuel ≡ lent (task_of g hand) → number ≡ s.calls_made → id ≡ hand.id → kind ≡ g.classes.result method
    → park_call g hand.id hand.made s ≡ make_call target.space (rules.Calls (number + 1) id fuel kind (message.Call (number + 1) target.id method fuel arguments)) (set_task (waiting hand.made) hand.id s)
unfolding park_call
parks g s l hand target method arguments fuel number id kind is h stands lends num mine kinds =
    let k = hand.made in
    let here : steps k h.living.task ≡ task_of g hand = task-is g s l hand is h in
    let left : lent (steps k h.living.task) ≡ fuel = ap (λ (t : Task). lent t) here ∙ sym lends in
    ap (λ (o : Option rules.Living). with_some o s (λ t. park_at g hand.id k t (stand (steps k t.task)) s)) h.ready
    ∙ ap (λ (x : Stand). park_at g hand.id k h.living x s) (ap stand here ∙ stands)
    ∙ (λ j. make_call target.space (rules.Calls (sym num j + 1) (sym mine j) (left j) (sym kinds j) (message.Call (sym num j + 1) target.id method (left j) arguments)) (set_task (waiting k) hand.id s))

-- ---- a moment

pub late : (g : Setting) (moment : ℕ) (s : State) → moment < s.moment → on_moment g moment s ≡ s
unfolding on_moment
late g moment s h = let early : nat_lt moment s.moment ≡ true = grind (arith, nat_tests) in ap (λ b. cond b s (release g (is_over_at moment) (record s { moment = moment; owner = record s.owner { entries = owner.Moment moment ∷ s.owner.entries }; leases = client.At moment ∷ s.leases }))) early

-- what is left, before what goes lets go its references
abbrev pub left_by_moment : ℕ → State → State
left_by_moment moment s = record s {
  moment = moment;
  owner = record s.owner { entries = owner.Moment moment ∷ s.owner.entries };
  leases = client.At moment ∷ s.leases;
  results = left_at moment s.results;
}

pub in-time : (g : Setting) (moment : ℕ) (s : State) (refs : List Ref) → s.moment ≤ moment → references_of_results (filter (is_over_at moment) s.results) ≡ refs → on_moment g moment s ≡ drop_all g refs (left_by_moment moment s)
unfolding on_moment
in-time g moment s refs h goes =
    let after : State = record s { moment = moment; owner = record s.owner { entries = owner.Moment moment ∷ s.owner.entries }; leases = client.At moment ∷ s.leases } in
    let early : nat_lt moment s.moment ≡ false = grind (arith, nat_tests) in
    ap (λ b. cond b s (release g (is_over_at moment) after)) early ∙ released-as g after (is_over_at moment) refs goes

pub now-passed : (g : Setting) (s : State) (l : Living) (moment : ℕ) (fits : moment < 2 ^ 63) (calls : CallResults) (t : Transport) → s.moment ≤ moment → AreCallResults moment (left_at moment s.results) calls → IsTransport (pass_moment moment s) t → IsLiving g s l
    → IsLiving g (left_by_moment moment s) (record l { moment = moment; call_results = calls; transport = t })
now-passed g s l moment fits calls t h results now is = record {
  id = is.id;
  moment = record { same = refl; fits = fits };
  transport = record { leases = now.leases; connections = now.connections; noted = now.noted; asked = now.asked; calls_made = now.calls_made; groups_made = now.groups_made; fresh = now.fresh; notes = now.notes; lines = now.lines };
  tasks = is.tasks;
  results = results-passed s.moment moment s.results l.results l.call_results calls results is.results;
  parked = is.parked;
}
