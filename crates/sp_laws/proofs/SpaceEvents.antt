-- An event of the space leaves each task as it is, gives it one reply that fits, or begins it.
use mathlib.Core.Path.{sym, ap, subst, ◌∙◌}
use Rattle.std.proofs.Common.{arith, inl, inr}
use Rattle.std.proofs.lemmas.Bool.{true≢false, eqb-true, eq-eqb}
use Rattle.std.specs.Prelude.{◌≡◌, refl, ℕ, ◌+◌, ◌≤◌, ◌==◌, cond, Bool, true, false, List, [], ◌∷◌, ◌++◌, Option, None, Some, find}
use Rattle.net_message.specs.declared.message.Message.{Message}
use Rattle.uuid.specs.declared.Uuid.{Uuid}
use Rattle.space_ids.specs.declared.value.Value.{Value}
use Rattle.sp_rules.specs.Behaviours.{Reply}
use Rattle.sp_rules.specs.Classes.{Setting, Kind}
use Rattle.sp_rules.specs.Events.{Event, Committed, GivenBack, Finished}
use Rattle.sp_rules.specs.Laws.{AllOf}
use Rattle.sp_rules.specs.Lists.{at_first}
use Rattle.sp_rules.specs.LivingTasks
use Rattle.sp_rules.specs.Space
use Rattle.sp_rules.specs.State.{State, Living, Origin, Request, Asked, Calls, LooksUp, Tells, task_at}
use Rattle.sp_rules.proofs.AllLemmas.{some-none}
use Rattle.sp_rules.proofs.NumberLemmas.{Fresh}
use Rattle.sp_rules.proofs.Stable.{new_row}
use Rattle.sp_laws.specs.Waiting.{count, call_of}
use Rattle.sp_laws.proofs.FlowRules.{Owed, Removed}
use Rattle.sp_laws.proofs.WaitLemmas.{asked_sum, owed_sum, waits_in, Waits, changed-at, changed-other, different}
use Rattle.sp_laws.proofs.EventRules.{View, Flows, Begins, EventParts, event_parts, is_ending, is_finish, on_flow}
use Rattle.sp_laws.proofs.StartedLemmas.{find-more}
use Rattle.sp_laws.specs.Calls.{IsAtCall, IsFitting, StartsBy, point}
use Rattle.sp_laws.specs.Changes.{lent_task, IsOfSpace, HasBegun, GoesOn}
use Rattle.sp_laws.proofs.CallEvents.{EndsWith, Goes, IsAsked, IsKnown, Was, call_view, call_flow, call-begin, call-start, was-all}
use Rattle.sp_laws.proofs.RecordRowLemmas.{more-found}

-- ---- what is known before

-- A call among what is asked is the one at which its task stands, if that waits.
abbrev pub AskedAs : Setting → List Living → Asked → Type 0
AskedAs g ts (Calls number task fuel kind m) = (t : Living) → find (λ (u : Living). u.id == task) ts ≡ Some t → t.waits ≡ true → IsAtCall g (point g t) fuel kind
AskedAs g ts (LooksUp number task name) = Unit {0}
AskedAs g ts (Tells call group) = Unit {0}

-- Each call that is asked is its task's, and what is parked fits what was asked and what was called.
pub record Fitted (g : Setting) (s : State) : Type 0 where
  pub asked : AllOf (λ (q : Request). AskedAs g s.tasks q.asked) s.requests
  pub parked : AllOf (IsKnown g s) s.parked

-- ---- what is kept

-- the task of an id goes on from what it was before, and ids rise
record Kept (g : Setting) (s : State) (e : Event) (id made : ℕ) (ts : List Living) : Type 0 where
  rises : s.tasks_made ≤ made
  task : GoesOn g s e (task_at s id) (find (λ (u : Living). u.id == id) ts)

-- ---- the moves that change tasks

-- a task begins
begun : {g : Setting} {before : State} {e : Event} {id : ℕ} (s : State) (origin : Origin) (method : ℕ) (arguments : List Value) (fuel : ℕ) → StartsBy g before e origin method arguments → Kept g before e id s.tasks_made s.tasks
    → Kept g before e id (s.tasks_made + 1) (s.tasks ++ new_row g origin method arguments fuel s ∷ [])
begun {g} {before} {e} {id} s origin method arguments fuel at k =
    record { rises = let a : before.tasks_made ≤ s.tasks_made = k.rises in omega arith; task = by (find (λ (u : Living). u.id == id) s.tasks) refl k.task }
  where
    row : Living
    row = new_row g origin method arguments fuel s

    first : HasBegun g before e row
    first = record { above = let a : before.tasks_made ≤ s.tasks_made = k.rises in omega arith; starts = at; ready = refl; given = refl; steps = refl; stands = refl }

    new : (o : Option Living) (b : Bool) → GoesOn g before e o None → GoesOn g before e o (cond b (Some row) None)
    new None true x = first
    new None false x = x
    new (Some t) b x = absurd x

    by : (o : Option Living) → find (λ (u : Living). u.id == id) s.tasks ≡ o → GoesOn g before e (task_at before id) o → GoesOn g before e (task_at before id) (find (λ (u : Living). u.id == id) (s.tasks ++ row ∷ []))
    by None f x = subst (GoesOn g before e (task_at before id)) (sym (more-found (λ (u : Living). u.id == id) s.tasks row f)) (new (task_at before id) (row.id == id) x)
    by (Some t) f x = subst (GoesOn g before e (task_at before id)) (sym (find-more (λ (u : Living). u.id == id) s.tasks row t f)) x

-- a task that waits goes on with a reply that fits
answers : (g : Setting) (s : State) (e : Event) (reply : Reply) (before : Option Living) (now : Living) → now.waits ≡ true → ((t : Living) → before ≡ Some t → t ≡ now → IsFitting g t reply) → GoesOn g s e before (Some now)
    → GoesOn g s e before (Some (LivingTasks.after_reply g reply now))
answers g s e reply None now waits fits x = absurd (true≢false (sym waits ∙ x.ready))
answers g s e reply (Some t) now waits fits (inl same) =
    inr (record { waited = sym (ap (λ (u : Living). u.waits) same) ∙ waits; reply = reply; fits = fits t refl (sym same); goes_on = ap (LivingTasks.after_reply g reply) same })
answers g s e reply (Some t) now waits fits (inr x) = absurd (true≢false (sym waits ∙ ap (λ (u : Living). u.waits) x.goes_on))

-- A call that is under way is of a task that waits, and was asked before.
replied : {g : Setting} {before : State} {e : Event} {id : ℕ} {l : List Owed} {s : State} (peer : Uuid) (number task fuel : ℕ) (kind : Kind) (m : Message) (reply : Reply) (now : Living) → Fitted g before → EndsWith g before e (Calls number task fuel kind m) reply
    → IsAsked g before e (Calls number task fuel kind m) → task_at s task ≡ Some now → Waits (Removed peer (Calls number task fuel kind m) ∷ l) s → Kept g before e id s.tasks_made s.tasks
    → Kept g before e id s.tasks_made (at_first (λ (u : Living). u.id == task) (LivingTasks.after_reply g reply) s.tasks)
replied {g} {before} {e} {id} {l} {s} peer number task fuel kind m reply now fitted may asked is w k = record { rises = k.rises; task = by (task == id) refl }
  where
    is-one : (b : Bool) → 1 ≤ count b → b ≡ true
    is-one true le = refl
    is-one false le = absurd (omega (arith, le))

    waits : now.waits ≡ true
    waits =
        let a : asked_sum (call_of task) s.requests + (asked_sum (call_of task) s.fresh + (count (task == task) + owed_sum (call_of task) l)) ≡ waits_in (task_at s task) = w.tasks task in
        let b : waits_in (task_at s task) ≡ count now.waits = ap waits_in is in
        let c : count (task == task) ≡ 1 = ap count (eq-eqb task task refl) in is-one now.waits (omega arith)

    was : IsAsked g before e (Calls number task fuel kind m) → Was before.requests (Calls number task fuel kind m)
    was (inl x) = x
    was (inr x) = absurd (true≢false (sym may.0 ∙ ap is_ending x.1.is))

    fits : task ≡ id → (t : Living) → task_at before id ≡ Some t → t ≡ now → IsFitting g t reply
    fits here t there same = record {
      fuel = fuel;
      kind = kind;
      at = was-all (AskedAs g before.tasks) before.requests (Calls number task fuel kind m) fitted.asked (was asked) t (ap (task_at before) here ∙ there) (ap (λ (u : Living). u.waits) same ∙ waits);
      fits = may.1 (was asked);
    }

    by : (b : Bool) → (task == id) ≡ b → GoesOn g before e (task_at before id) (find (λ (u : Living). u.id == id) (at_first (λ (u : Living). u.id == task) (LivingTasks.after_reply g reply) s.tasks))
    by true x =
        let here : task ≡ id = eqb-true task id x in
        let found : find (λ (u : Living). u.id == id) s.tasks ≡ Some now = subst (λ n. find (λ (u : Living). u.id == n) s.tasks ≡ Some now) here is in
        let set : find (λ (u : Living). u.id == id) (at_first (λ (u : Living). u.id == task) (LivingTasks.after_reply g reply) s.tasks) ≡ Some (LivingTasks.after_reply g reply now) =
        subst (λ n. find (λ (u : Living). u.id == n) (at_first (λ (u : Living). u.id == task) (LivingTasks.after_reply g reply) s.tasks) ≡ Some (LivingTasks.after_reply g reply now)) here (changed-at (LivingTasks.after_reply g reply) (λ u. refl) task s.tasks now is) in
        subst (GoesOn g before e (task_at before id)) (sym set) (answers g before e reply (task_at before id) now waits (fits here) (subst (GoesOn g before e (task_at before id)) found k.task))
    by false x = subst (GoesOn g before e (task_at before id)) (sym (changed-other (LivingTasks.after_reply g reply) (λ u. refl) task id (different task id x) s.tasks)) k.task

-- ---- events of the space

-- none ends a task
never-finishes : (e : Event) → IsOfSpace e → is_finish e ≡ true → ⊥
never-finishes (Finished task k) of over = some-none task of
never-finishes _ of over = true≢false (sym over)

-- in none a lent task is at work
never-works : (e : Event) → IsOfSpace e → Space.answers_outputs e ≡ false → ⊥
never-works (Committed task k op) of lent = some-none task of
never-works (GivenBack task k) of lent = some-none task of
never-works _ of lent = true≢false lent

abbrev view : Setting → State → Event → ℕ → View
view g before e id = record {
  setting = g;
  event = e;
  Dialled = λ c d. Unit {0};
  Answers = λ c m. Unit {0};
  Known = IsKnown g before;
  Fails = (call_view g before e).Fails;
  Ends = EndsWith g before e;
  Starts = StartsBy g before e;
  Speaks = λ c version. Unit {0};
  Fits = λ c ids. Unit {0};
  Keeps = λ l s. (Waits l s × Goes g before e l (event_parts s)) × Kept g before e id s.tasks_made s.tasks;
}

goes_flow : (g : Setting) (before : State) (e : Event) → IsOfSpace e → Fitted g before → (id : ℕ) → Flows (view g before e id)
goes_flow g before e of fitted id = record {
  known = λ l s k. F.known l s k.0;
  dialled = λ l s k. F.dialled l s k.0;
  origins = λ l s k. F.origins l s k.0;
  sided = F.sided;
  fails = F.fails;
  starts = λ l s p target method fuel arguments o n going k known is stands finds. F.starts l s p target method fuel arguments o n going k.0 known is stands finds;
  gives = F.gives;
  refuses = F.refuses;
  finds = F.finds;
  speaks = λ c version. tt;
  fits = λ c ids. tt;
  quiet = λ l s u eq k. (F.quiet l s u eq k.0, subst (λ (c : EventParts). Kept g before e id c.tasks_made c.tasks) (sym eq) k.1);
  says = λ l s output is so k. (F.says l s output is so k.0, k.1);
  sends = λ l s turn c m may held k. (F.sends l s turn c m may held k.0, k.1);
  clears = λ s k. (F.clears s k.0, k.1);
  stores = λ l s store is k. (F.stores l s store is k.0, k.1);
  adds = λ l s q k. (F.adds l s q k.0, k.1);
  calls_out = λ l s turn c peer n task fuel kind m there k. (F.calls_out l s turn c peer n task fuel kind m there k.0, k.1);
  looks_out = λ l s turn c peer n task name there k. (F.looks_out l s turn c peer n task name there k.0, k.1);
  tells = λ l s q call group eq k. (F.tells l s q call group eq k.0, k.1);
  told = λ l s peer call group k. (F.told l s peer call group k.0, k.1);
  unfresh = λ l s k. (F.unfresh l s k.0, k.1);
  removes = λ l s is k. (F.removes l s is k.0, k.1);
  sorts = λ l s is rs k. (F.sorts l s is rs k.0, k.1);
  removes_one = λ l s finds is n q eq passes has k. (F.removes_one l s finds is n q eq passes has k.0, k.1);
  removes_told = λ l s dirty c sequence k. (F.removes_told l s dirty c sequence k.0, k.1);
  answers = λ l s c n k. (F.answers l s c n k.0, k.1);
  begins = λ l s origin method arguments fuel going at k. (F.begins l s origin method arguments fuel going at k.0, begun s origin method arguments fuel at k.1);
  ends = λ l s task t over is k. absurd (never-finishes e of over);
  replies = λ l s peer n task fuel kind m reply t may is k. (F.replies l s peer n task fuel kind m reply t may is k.0, replied peer n task fuel kind m reply t fitted may k.0.1.owed.0 is k.0.0 k.1);
  replies_none = λ l s peer n task fuel kind m is k. (F.replies_none l s peer n task fuel kind m is k.0, k.1);
  looked_up = λ l s peer n task name reply may k. (F.looked_up l s peer n task name reply may k.0, k.1);
  works = λ l s task t f lent row ready is k. absurd (never-works e of lent);
  keeps = λ l s until value k. (F.keeps l s until value k.0, k.1);
  results_go = λ l s is goes k. (F.results_go l s is goes k.0, k.1);
  falls = λ l s c n k. (F.falls l s c n k.0, k.1);
  row = λ l s c f a b d k. (F.row l s c f a b d k.0, k.1);
  counts = λ l s c n d there is low k. (F.counts l s c n d there is low k.0, k.1);
  parks_call = λ l s p going known is k. (F.parks_call l s p going known is k.0, k.1);
  parks_result = λ l s p known is k. (F.parks_result l s p known is k.0, k.1);
  takes = λ l s p k. (F.takes l s p k.0, k.1);
  takes_call = λ l s p q is call k. (F.takes_call l s p q is call k.0, k.1);
  closes = λ l s c why k. (F.closes l s c why k.0, k.1);
}
  where
    F : Flows (call_view g before e)
    F = call_flow g before e

goes-begin : (g : Setting) (s : State) (e : Event) → IsOfSpace e → (id : ℕ) → s.fresh ≡ [] → Waits [] s → Fresh s → Begins (view g s e id) s
goes-begin g s e of id none waits numbers = record {
  opens = λ c dialled is k. (B.opens c dialled is k.0, k.1);
  parks = λ task n t target method arguments is ready stands k. absurd (some-none task (sym (ap lent_task is) ∙ of));
  looks = λ peer name is k. (B.looks peer name is k.0, record { rises = let a : s.tasks_made ≤ s.tasks_made = k.1.rises in omega arith; task = k.1.task });
  roots = B.roots;
  unmarshal = B.unmarshal;
  connect = B.connect;
  marshal = B.marshal;
  threw = B.threw;
  spent = B.spent;
  finished = B.finished;
  call_came = B.call_came;
  result_came = B.result_came;
}
  where
    B : Begins (call_view g s e) s
    B = call-begin g s e none waits numbers

stays : (g : Setting) (s : State) (e : Event) (o : Option Living) → GoesOn g s e o o
stays g s e None = tt
stays g s e (Some t) = inl refl

-- in a state of which that is known
pub goes-after : (g : Setting) (s : State) (e : Event) (id : ℕ) → IsOfSpace e → s.fresh ≡ [] → Waits [] s → Fresh s → Fitted g s → GoesOn g s e (task_at s id) (task_at (Space.on g e s).0 id)
goes-after g s e id of none waits numbers fitted =
    (on_flow (goes_flow g s e of fitted id) s (goes-begin g s e of id none waits numbers)
    (call-start g s e none waits fitted.parked, record { rises = omega arith; task = stays g s e (task_at s id) })).1.task
