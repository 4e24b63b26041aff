-- After every history each task that waits has one call.
use mathlib.Core.Path.{sym, ap, subst, ◌∙◌}
use Rattle.std.proofs.Common.{arith}
use Rattle.std.proofs.lemmas.Bool.{true≢false, eqb-true, ltb-true}
use Rattle.std.specs.List.{list_any, list_all}
use Rattle.std.specs.Prelude.{◌≡◌, refl, ℕ, ◌+◌, ◌≤◌, ◌<◌, ◌==◌, ◌&&◌, ◌||◌, not, nat_le, nat_lt, is_some, is_none, length, Bool, true, false, List, [], ◌∷◌, ◌++◌, Option, None, Some, Result, Ok, Err, drop, filter, find, map, slice_get, unwrap_or, if◌then◌else◌}
use Rattle.space_ids.specs.declared.ids.Ref.{Ref}
use Rattle.space_ids.specs.declared.value.Value.{Value}
use Rattle.sp_rules.specs.Behaviours.{Call}
use Rattle.sp_rules.specs.Classes.{Setting}
use Rattle.sp_rules.specs.Events.{Event, Moment, Sweep, Root, RootAck, Bind, Rebind, Unbind, Lookup, Opened, Refused, Received, Closed, ReadFailed, Bad, WriteFailed, Committed, Parked, GivenBack, Finished}
use Rattle.sp_rules.specs.Laws.{AllOf, RisesWithin}
use Rattle.sp_rules.specs.Lists.{each}
use Rattle.sp_rules.specs.LivingTasks
use Rattle.sp_rules.specs.Requests
use Rattle.sp_rules.specs.Space
use Rattle.sp_rules.specs.State.{State, Living, Request, Asked, Calls, LooksUp, Tells, task_at, set_task, opening}
use Rattle.sp_rules.proofs.AllLemmas.{some-none, found-is}
use Rattle.sp_rules.proofs.NumberLemmas.{Fresh}
use Rattle.sp_rules.proofs.OwnLemmas.{fresh-of}
use Rattle.sp_rules.proofs.ReadyLemmas.{ready-is}
use Rattle.std.proofs.lemmas.Bool.{eq-eqb}
use Rattle.sp_laws.specs.Waiting.{count, call_of, calls_of, HasTask, CallsWait, WaitingTasksHaveOneCall}
use Rattle.sp_laws.proofs.FlowRules.{Owed, Flows, Begins, FlowParts, each_flow, each_removed, ask_flow, commit_flow, give_back_flow, sent_flow, on_flow}
use Rattle.sp_laws.proofs.WaitLemmas.{asked_sum, owed_sum, flow_sum, one_of, waits_in, Waits, waits_flow, set-waits}

-- ---- between events no call was just made

abbrev NoFresh : List Owed → State → Type 0
NoFresh l s = s.fresh ≡ []

fresh_flow : (g : Setting) → Flows g NoFresh
fresh_flow g = record {
  quiet = λ l s t e h. ap (λ (c : FlowParts). c.fresh) e ∙ h;
  adds = λ l s q h. h;
  tells = λ l s q call group e h. h;
  told = λ l s peer call group h. h;
  unfresh = λ l s h. refl;
  removes = λ l s is h. h;
  sorts = λ l s is rs h. h;
  removes_one = λ l s finds is k q e passes has h. h;
  removes_told = λ l s dirty conn sequence h. h;
  begins = λ l s origin method arguments fuel h. h;
  ends = λ l s id t is h. h;
  replies = λ l s peer number task lent kind m reply t is h. h;
  replies_none = λ l s peer number task lent kind m is h. h;
  looked_up = λ l s peer number task name h. h;
  works = λ l s id t f row ready is h. h;
  keeps = λ l s until value h. h;
  results_go = λ l s is h. h;
  falls = λ l s conn number h. h;
  row = λ l s conn f a b c h. h;
  counts = λ l s conn number c is le h. h;
  parks_call = λ l s p is h. h;
  parks_result = λ l s p is h. h;
  answers = λ l s conn number h. h;
  takes = λ l s p h. h;
  takes_call = λ l s p q is call h. h;
  closes = λ l s conn h. h;
}

settled : (g : Setting) (s : State) → (Space.finish_event true s).0.fresh ≡ []
unfolding Requests.settle Requests.ask_fresh
settled g s = each_flow (fresh_flow g) {l = []} Space.record_sent _ (λ u o j. sent_flow (fresh_flow g) {l = []} o j) (asks (Requests.make_due s))
  where
    asks : (t : State) → (each Requests.ask t.fresh (record t { fresh = [] })).fresh ≡ []
    asks t = each_removed (fresh_flow g) {l = []} Requests.ask t.fresh (λ m u q j. ask_flow (fresh_flow g) {l = m} q j) refl

stays : (g : Setting) (s : State) (e : Event) → Space.answers_outputs e ≡ false → s.fresh ≡ [] → (Space.happen g e s).fresh ≡ []
unfolding Space.happen
stays g s (Moment moment) a h = absurd (true≢false a)
stays g s Sweep a h = absurd (true≢false a)
stays g s (Root method arguments fuel) a h = absurd (true≢false a)
stays g s (RootAck task) a h = absurd (true≢false a)
stays g s (Bind name value) a h = absurd (true≢false a)
stays g s (Rebind name value) a h = absurd (true≢false a)
stays g s (Unbind name) a h = absurd (true≢false a)
stays g s (Lookup peer name) a h = absurd (true≢false a)
stays g s (Opened conn dialled) a h = absurd (true≢false a)
stays g s (Refused peer) a h = absurd (true≢false a)
stays g s (Received conn m) a h = absurd (true≢false a)
stays g s (Closed conn) a h = absurd (true≢false a)
stays g s (ReadFailed conn) a h = absurd (true≢false a)
stays g s (Bad conn) a h = absurd (true≢false a)
stays g s (WriteFailed conn unsent) a h = absurd (true≢false a)
stays g s (Committed task k op) a h = commit_flow (fresh_flow g) {l = []} task k op h
stays g s (Parked task k) a h = absurd (true≢false a)
stays g s (GivenBack task k) a h = give_back_flow (fresh_flow g) {l = []} task k h
stays g s (Finished task k) a h = absurd (true≢false a)

no-fresh-after : (g : Setting) (s : State) (e : Event) → s.fresh ≡ [] → (Space.on g e s).0.fresh ≡ []
unfolding Space.on
no-fresh-after g s e h = pick (Space.answers_outputs e) refl
  where
    pick : (b : Bool) → Space.answers_outputs e ≡ b → (Space.finish_event b (Space.happen g e s)).0.fresh ≡ []
    pick true a = settled g (Space.happen g e s)
    pick false a = stays g s e a h

pub no-fresh : (g : Setting) (h : List Event) → (Space.state_of g h).fresh ≡ []
unfolding Space.state_of opening
no-fresh g [] = refl
no-fresh g (e ∷ h) = no-fresh-after g (Space.state_of g h) e (no-fresh g h)

-- ---- what events begin

above-none : (c : ℕ) → count (nat_le (c + 1) c) ≡ 0
above-none c = pick (nat_le (c + 1) c) refl
  where
    pick : (b : Bool) → nat_le (c + 1) c ≡ b → count b ≡ 0
    pick true e = let le : c + 1 ≤ c = Rattle.std.proofs.lemmas.Bool.leb-true (c + 1) c e in absurd (omega arith)
    pick false e = refl

-- one number more is given
given-more : (k c : ℕ) → count (c + 1 == k) + count (nat_le k c) ≤ count (nat_le k (c + 1))
given-more k c = pick (c + 1 == k) refl (nat_le k c) refl (nat_le k (c + 1)) refl
  where
    pick : (x : Bool) → (c + 1 == k) ≡ x → (y : Bool) → nat_le k c ≡ y → (z : Bool) → nat_le k (c + 1) ≡ z → count x + count y ≤ count z
    pick true e true f z g = let a : c + 1 ≡ k = eqb-true (c + 1) k e in let b : k ≤ c = Rattle.std.proofs.lemmas.Bool.leb-true k c f in absurd (omega arith)
    pick true e false f true g = omega arith
    pick true e false f false g = let a : c + 1 ≡ k = eqb-true (c + 1) k e in let b : c + 1 < k = Rattle.std.proofs.lemmas.Bool.leb-false k (c + 1) g in absurd (omega arith)
    pick false e true f true g = omega arith
    pick false e true f false g = let b : k ≤ c = Rattle.std.proofs.lemmas.Bool.leb-true k c f in let d : c + 1 < k = Rattle.std.proofs.lemmas.Bool.leb-false k (c + 1) g in absurd (omega arith)
    pick false e false f true g = omega arith
    pick false e false f false g = omega arith

pub waits-begin : (g : Setting) (s : State) (e : Event) → s.fresh ≡ [] → Begins g Waits s e
waits-begin g s e none = record {
  opens = λ conn dialled is h. record { tasks = h.tasks; numbers = h.numbers };
  parks = λ id k t target method arguments is ready stands h. record {
    tasks = λ other. parked id k t target method arguments (ready-is (task_at s id) t ready).0 (ready-is (task_at s id) t ready).1 other (id == other) refl (h.tasks other);
    numbers = λ n.
        let a : asked_sum (one_of n) s.requests + (asked_sum (one_of n) s.fresh + 0) ≤ count (nat_le n s.calls_made) = h.numbers n in
        let b : count (s.calls_made + 1 == n) + count (nat_le n s.calls_made) ≤ count (nat_le n (s.calls_made + 1)) = given-more n s.calls_made in omega arith;
  };
  looks = λ peer name is h. record {
    tasks = λ other.
        let a : asked_sum (call_of other) s.requests + (asked_sum (call_of other) s.fresh + 0) ≡ waits_in (task_at s other) = h.tasks other in
        let z : asked_sum (call_of other) s.fresh ≡ 0 = ap (asked_sum (call_of other)) none in omega arith;
    numbers = λ n.
        let a : asked_sum (one_of n) s.requests + (asked_sum (one_of n) s.fresh + 0) ≤ count (nat_le n s.calls_made) = h.numbers n in
        let b : count (s.calls_made + 1 == n) + count (nat_le n s.calls_made) ≤ count (nat_le n (s.calls_made + 1)) = given-more n s.calls_made in omega arith;
  };
}
  where
    parked : (id k : ℕ) (t : Living) (target : Ref) (method : ℕ) (arguments : List Value) → task_at s id ≡ Some t → t.waits ≡ false → (other : ℕ) (b : Bool) → (id == other) ≡ b
        → asked_sum (call_of other) s.requests + (asked_sum (call_of other) s.fresh + 0) ≡ waits_in (task_at s other)
        → flow_sum (call_of other) [] (LivingTasks.park_op g id k t (Call target method arguments) s) ≡ waits_in (task_at (set_task (LivingTasks.waiting k) id s) other)
    parked id k t target method arguments is ready other true e a =
        let w : waits_in (task_at (set_task (LivingTasks.waiting k) id s) other) ≡ 1 = set-waits s id t (LivingTasks.waiting k) (λ u. refl) is other ∙ ap (λ b. if b then 1 else waits_in (task_at s other)) e in
        let z : asked_sum (call_of other) s.fresh ≡ 0 = ap (asked_sum (call_of other)) none in
        let c : count (id == other) ≡ 1 = ap count e in
        let d : waits_in (task_at s other) ≡ 0 = subst (λ n. waits_in (task_at s n) ≡ 0) (eqb-true id other e) (ap waits_in is ∙ ap count ready) in omega arith
    parked id k t target method arguments is ready other false e a =
        let w : waits_in (task_at (set_task (LivingTasks.waiting k) id s) other) ≡ waits_in (task_at s other) = set-waits s id t (LivingTasks.waiting k) (λ u. refl) is other ∙ ap (λ b. if b then 1 else waits_in (task_at s other)) e in
        let z : asked_sum (call_of other) s.fresh ≡ 0 = ap (asked_sum (call_of other)) none in
        let c : count (id == other) ≡ 0 = ap count e in omega arith

pub waits-of : (g : Setting) (h : List Event) → Waits [] (Space.state_of g h)
unfolding Space.state_of opening
waits-of g [] = record { tasks = λ id. refl; numbers = λ k. omega arith }
waits-of g (e ∷ h) = on_flow (waits_flow g) (Space.state_of g h) e (waits-begin g (Space.state_of g h) e (no-fresh g h)) (waits-of g h)

-- ---- as the law says it

-- each row of a list whose numbers rise is found by its number
find-rows : (n last : ℕ) (ts : List Living) → RisesWithin n last (map (λ (t : Living). t.id) ts) → AllOf (λ (t : Living). (n + 1 ≤ t.id) × (find (λ (u : Living). u.id == t.id) ts ≡ Some t)) ts
find-rows n last [] r = tt
find-rows n last (t ∷ ts) r = ((r.0, here (t.id == t.id) (eq-eqb t.id t.id refl)), Rattle.sp_rules.proofs.AllLemmas.all-weaken (λ (u : Living). (t.id + 1 ≤ u.id) × (find (λ (v : Living). v.id == u.id) ts ≡ Some u)) (λ (u : Living). (n + 1 ≤ u.id) × (find (λ (v : Living). v.id == u.id) (t ∷ ts) ≡ Some u)) ts later-row (find-rows t.id last ts r.1))
  where
    here : (b : Bool) → b ≡ true → Rattle.std.specs.Prelude.cond b (Some t) (find (λ (u : Living). u.id == t.id) ts) ≡ Some t
    here true e = refl
    here false e = absurd (true≢false (sym e))

    later-row : (u : Living) → (t.id + 1 ≤ u.id) × (find (λ (v : Living). v.id == u.id) ts ≡ Some u) → (n + 1 ≤ u.id) × (find (λ (v : Living). v.id == u.id) (t ∷ ts) ≡ Some u)
    later-row u x = (let a : n + 1 ≤ t.id = r.0 in let b : t.id + 1 ≤ u.id = x.0 in omega arith, pick (t.id == u.id) refl)
      where
        pick : (b : Bool) → (t.id == u.id) ≡ b → Rattle.std.specs.Prelude.cond b (Some t) (find (λ (v : Living). v.id == u.id) ts) ≡ Some u
        pick true e = let a : t.id ≡ u.id = eqb-true t.id u.id e in let b : t.id + 1 ≤ u.id = x.0 in absurd (omega arith)
        pick false e = x.1

-- a call of a task makes its task's sum one at least
sum-has : (rs : List Request) → AllOf (λ (q : Request). (task : ℕ) → 1 ≤ call_of task q.asked → 1 ≤ asked_sum (call_of task) rs) rs
sum-has [] = tt
sum-has (q ∷ rs) = (
  (λ task le. omega (arith, le)),
  Rattle.sp_rules.proofs.AllLemmas.all-weaken (λ (p : Request). (task : ℕ) → 1 ≤ call_of task p.asked → 1 ≤ asked_sum (call_of task) rs) (λ (p : Request). (task : ℕ) → 1 ≤ call_of task p.asked → 1 ≤ asked_sum (call_of task) (q ∷ rs)) rs
      (λ p f task le. let a : 1 ≤ asked_sum (call_of task) rs = f task le in omega arith) (sum-has rs),
)

pub waiting_tasks_have_one_call : WaitingTasksHaveOneCall
waiting_tasks_have_one_call g h = by (Space.state_of g h) (waits-of g h) (no-fresh g h) (fresh-of g h)
  where
    by : (s : State) → Waits [] s → s.fresh ≡ [] → Fresh s → CallsWait s
    by s w none fresh = record {
      tasks = Rattle.sp_rules.proofs.AllLemmas.all-weaken (λ (u : Living). (0 + 1 ≤ u.id) × (find (λ (v : Living). v.id == u.id) s.tasks ≡ Some u)) (λ (u : Living). calls_of u.id s.requests ≡ count u.waits) s.tasks
          (λ u x. sum-of u.id ∙ ap waits_in x.1) (find-rows 0 s.tasks_made s.tasks fresh.1);
      requests = Rattle.sp_rules.proofs.AllLemmas.all-weaken (λ (q : Request). (task : ℕ) → 1 ≤ call_of task q.asked → 1 ≤ asked_sum (call_of task) s.requests) (λ (q : Request). HasTask s q.asked) s.requests (λ q f. has q.asked f) (sum-has s.requests);
      once = λ number. Rattle.sp_laws.proofs.WaitLemmas.stands-once number w;
      given = λ number high.
          let a : asked_sum (one_of number) s.requests + (asked_sum (one_of number) s.fresh + 0) ≤ count (nat_le number s.calls_made) = w.numbers number in
          let b : count (nat_le number s.calls_made) ≡ 0 = high-none number s.calls_made high in omega arith;
    }
      where
        high-none : (k c : ℕ) → c + 1 ≤ k → count (nat_le k c) ≡ 0
        high-none k c le = pick (nat_le k c) refl
          where
            pick : (b : Bool) → nat_le k c ≡ b → count b ≡ 0
            pick true e = let f : k ≤ c = Rattle.std.proofs.lemmas.Bool.leb-true k c e in absurd (omega arith)
            pick false e = refl

        sum-of : (id : ℕ) → asked_sum (call_of id) s.requests ≡ waits_in (task_at s id)
        sum-of id =
            let a : asked_sum (call_of id) s.requests + (asked_sum (call_of id) s.fresh + 0) ≡ waits_in (task_at s id) = w.tasks id in
            let z : asked_sum (call_of id) s.fresh ≡ 0 = ap (asked_sum (call_of id)) none in omega arith

        waiting : (found : Option Living) → 1 ≤ waits_in found → (u : Living) × ((found ≡ Some u) × (u.waits ≡ true))
        waiting None le = absurd (omega (arith, le))
        waiting (Some u) le = (u, (refl, pick u.waits le))
          where
            pick : (b : Bool) → 1 ≤ count b → b ≡ true
            pick true f = refl
            pick false f = absurd (omega (arith, f))

        has : (asked : Asked) → ((task : ℕ) → 1 ≤ call_of task asked → 1 ≤ asked_sum (call_of task) s.requests) → HasTask s asked
        has (Calls number task lent kind m) f =
            let c : count (task == task) ≡ 1 = ap count (eq-eqb task task refl) in
            let a : 1 ≤ asked_sum (call_of task) s.requests = f task (omega arith) in
            let b : asked_sum (call_of task) s.requests ≡ waits_in (task_at s task) = sum-of task in waiting (task_at s task) (omega arith)
        has (LooksUp number task name) f = tt
        has (Tells call group) f = tt
