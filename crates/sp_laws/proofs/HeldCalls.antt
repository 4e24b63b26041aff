-- Each call is what its task asks for and holds, through every rule.
use mathlib.Core.Path.{sym, ap, subst, ◌∙◌}
use Rattle.std.proofs.Common.{arith}
use Rattle.std.proofs.lemmas.Bool.{true≢false, eqb-true}
use Rattle.std.specs.List.{list_all}
use Rattle.std.specs.Prelude.{◌≡◌, refl, ℕ, ◌+◌, ◌==◌, not, Bool, true, false, List, [], ◌∷◌, ◌++◌, Option, None, Some, filter, find, if◌then◌else◌}
use Rattle.dgc_client.specs.declared.groups.Group.{Group}
use Rattle.net_message.specs.declared.message.Message.TheVariants as message
use Rattle.uuid.specs.declared.Uuid.{Uuid}
use Rattle.space_ids.specs.declared.ids.Ref.{Ref}
use Rattle.space_ids.specs.declared.value.Value.{Value}
use Rattle.sp_rules.specs.Behaviours.{Op, Call}
use Rattle.sp_rules.specs.Classes.{Setting}
use Rattle.sp_rules.specs.Events.{Event, Parked}
use Rattle.sp_rules.specs.Frames
use Rattle.sp_rules.specs.Laws.{AllOf}
use Rattle.sp_rules.specs.Lists.{at_first}
use Rattle.sp_rules.specs.LivingTasks
use Rattle.sp_rules.specs.Origins.{IsTaken}
use Rattle.sp_rules.specs.ParkedFrames
use Rattle.sp_rules.specs.References.{references_of}
use Rattle.sp_rules.specs.Refusals
use Rattle.sp_rules.specs.Refusals.{Check, first_refusal, checks, refusal}
use Rattle.sp_rules.specs.Space
use Rattle.sp_rules.specs.State as state
use Rattle.sp_rules.specs.State.{State, Object, Stored, Made, Written, Gone, Living, Origin, OfRoot, OfCall, Until, Request, Asked, Calls, LooksUp, Tells, Connection, KeptResult, Frame, CallFrame, ReturnedFrame, ParkedFrame, standing, last_written, task_at, ready_at, object_at, connection_at, connection_to, is_open, set_task, send, opening}
use Rattle.sp_rules.specs.Tasks
use Rattle.sp_rules.specs.Tasks.{Stand, Runs, AsksFor, HasEnded, stand, steps, answer, gained}
use Rattle.sp_rules.proofs.AllLemmas.{some-none, found-is}
use Rattle.sp_rules.proofs.OriginLemmas.{steps-held}
use Rattle.sp_rules.proofs.OwnLemmas.{unrefused, later, first-of, not-false, and-left, and-right, has-some, own-only, fresh-of}
use Rattle.sp_rules.proofs.ReadyLemmas.{ready-is}
use Rattle.sp_rules.proofs.Stable.{new_row}
use Rattle.std.specs.Prelude.{cond, zero, suc, min}
use Rattle.std.proofs.lemmas.Bool.{eq-eqb}
use Rattle.sp_rules.specs.Behaviours.{Behaviour, Plain, Asks, Ends, Over}
use Rattle.sp_rules.specs.References.{is_reference_in}
use Rattle.sp_rules.specs.Tasks.{Task, lend_fuel}
use Rattle.sp_rules.proofs.AllLemmas.{all-weaken, all-more, all-filter, all-append, all-map}
use Rattle.sp_laws.specs.CallsHeld.{AsksCall, IsAskedFor, CallsAreHeld}
use Rattle.sp_laws.specs.Waiting.{count, call_of}
use Rattle.sp_laws.proofs.FlowRules.{Owed, Removed, Inbound, removed, of_origin, of_until, Flows, Begins, FlowParts, on_flow}
use Rattle.sp_laws.proofs.WaitLemmas.{asked_sum, Waits, waits_in, gone-at, gone-other, changed-at, changed-other, different}
use Rattle.sp_laws.proofs.WaitHistories.{no-fresh, waits-of}

abbrev at_id : List Living → ℕ → Option Living
at_id ts id = find (λ (u : Living). u.id == id) ts

abbrev Asked-for : List Living → Request → Type 0
Asked-for ts q = IsAskedFor (at_id ts) q.peer q.asked

abbrev pub OwedFor : List Living → Owed → Type 0
OwedFor ts (Removed peer asked) = IsAskedFor (at_id ts) peer asked
OwedFor ts (Inbound conn number) = Unit {0}

pub record Held (l : List Owed) (s : State) : Type 0 where
  pub requests : AllOf (λ (q : Request). IsAskedFor (task_at s) q.peer q.asked) s.requests
  pub fresh : AllOf (λ (q : Request). IsAskedFor (task_at s) q.peer q.asked) s.fresh
  pub owed : AllOf (OwedFor s.tasks) l

-- ---- tasks change

-- every task that waits now waited before
abbrev Still : List Living → List Living → Type 0
Still ts us = (id : ℕ) (t : Living) → at_id us id ≡ Some t → t.waits ≡ true → at_id ts id ≡ Some t

still-for : (ts us : List Living) → Still ts us → (peer : Uuid) (asked : Asked) → IsAskedFor (at_id ts) peer asked → IsAskedFor (at_id us) peer asked
still-for ts us still peer (Calls number task lent kind m) h = λ t is waits. h t (still task t is waits) waits
still-for ts us still peer (LooksUp number task name) h = tt
still-for ts us still peer (Tells call group) h = tt

still-owed : (ts us : List Living) → Still ts us → (o : Owed) → OwedFor ts o → OwedFor us o
still-owed ts us still (Removed peer asked) h = still-for ts us still peer asked h
still-owed ts us still (Inbound conn number) h = tt

still-held : {l : List Owed} {s : State} (us : List Living) → Still s.tasks us → Held l s → Held l (record s { tasks = us })
still-held {l} {s} us still h = record {
  requests = all-weaken (Asked-for s.tasks) (Asked-for us) s.requests (λ q a. still-for s.tasks us still q.peer q.asked a) h.requests;
  fresh = all-weaken (Asked-for s.tasks) (Asked-for us) s.fresh (λ q a. still-for s.tasks us still q.peer q.asked a) h.fresh;
  owed = all-weaken (OwedFor s.tasks) (OwedFor us) l (still-owed s.tasks us still) h.owed;
}

none-is : {A : Type 0} (x : A) {B : Type 0} → {o : Option A} → o ≡ None → o ≡ Some x → B
none-is x e f = absurd (some-none x (sym f ∙ e))

still-more : (ts : List Living) (row : Living) → row.waits ≡ false → Still ts (ts ++ row ∷ [])
still-more [] row quiet id t is waits = pick (row.id == id) is
  where
    pick : (b : Bool) → cond b (Some row) None ≡ Some t → None ≡ Some t
    pick true f = absurd (true≢false (sym waits ∙ sym (ap (λ (u : Living). u.waits) (Rattle.sp_rules.proofs.OwnLemmas.some-same f)) ∙ quiet))
    pick false f = f
still-more (u ∷ ts) row quiet id t is waits = pick (u.id == id) is (λ f. still-more ts row quiet id t f waits)
  where
    pick : (b : Bool) → cond b (Some u) (at_id (ts ++ row ∷ []) id) ≡ Some t → (at_id (ts ++ row ∷ []) id ≡ Some t → at_id ts id ≡ Some t) → cond b (Some u) (at_id ts id) ≡ Some t
    pick true f rest = f
    pick false f rest = rest f

still-gone : (ts : List Living) (gone : ℕ) → Still ts (filter (λ (u : Living). not (u.id == gone)) ts)
still-gone ts gone id t is waits = pick (gone == id) refl
  where
    pick : (b : Bool) → (gone == id) ≡ b → at_id ts id ≡ Some t
    pick true e = none-is t (subst (λ n. at_id (filter (λ (u : Living). not (u.id == gone)) ts) n ≡ None) (eqb-true gone id e) (gone-at gone ts)) is
    pick false e = sym (gone-other gone id (different gone id e) ts) ∙ is

still-set : (ts : List Living) (at : ℕ) (t : Living) (f : Living → Living) → ((u : Living) → (f u).id ≡ u.id) → at_id ts at ≡ Some t → (f t).waits ≡ false → Still ts (at_first (λ (u : Living). u.id == at) f ts)
still-set ts at t f same there quiet id v is waits = pick (at == id) refl
  where
    pick : (b : Bool) → (at == id) ≡ b → at_id ts id ≡ Some v
    pick true e = absurd (true≢false (sym waits ∙ sym (ap (λ (u : Living). u.waits) (Rattle.sp_rules.proofs.OwnLemmas.some-same (sym (subst (λ n. at_id (at_first (λ (u : Living). u.id == at) f ts) n ≡ Some (f t)) (eqb-true at id e) (changed-at f same at ts t there)) ∙ is))) ∙ quiet))
    pick false e = sym (changed-other f same at id (different at id e) ts) ∙ is

-- ---- the moves

removed-owed : (ts : List Living) (rs : List Request) (l : List Owed) → AllOf (Asked-for ts) rs → AllOf (OwedFor ts) l → AllOf (OwedFor ts) (removed rs ++ l)
removed-owed ts [] l a b = b
removed-owed ts (q ∷ rs) l a b = (a.0, removed-owed ts rs l a.1 b)

owed-parts : (ts : List Living) (rs : List Request) (l : List Owed) → AllOf (OwedFor ts) (removed rs ++ l) → AllOf (Asked-for ts) rs × AllOf (OwedFor ts) l
owed-parts ts [] l a = (tt, a)
owed-parts ts (q ∷ rs) l a = let x = owed-parts ts rs l a.1 in ((a.0, x.0), x.1)

origin-parts : (ts : List Living) (origin : Origin) (l : List Owed) → AllOf (OwedFor ts) (of_origin origin ++ l) → AllOf (OwedFor ts) l
origin-parts ts OfRoot l a = a
origin-parts ts (OfCall conn number) l a = a.1

origin-more : (ts : List Living) (origin : Origin) (l : List Owed) → AllOf (OwedFor ts) l → AllOf (OwedFor ts) (of_origin origin ++ l)
origin-more ts OfRoot l a = a
origin-more ts (OfCall conn number) l a = (tt, a)

until-parts : (ts : List Living) (until : Until) (l : List Owed) → AllOf (OwedFor ts) (of_until until ++ l) → AllOf (OwedFor ts) l
until-parts ts (state.RootAcked task) l a = a
until-parts ts (state.Acked conn number) l a = a.1
until-parts ts (state.Passed moment) l a = a

found-all : (ts : List Living) (finds : Request → Bool) (rs : List Request) (q : Request) → find finds rs ≡ Some q → AllOf (Asked-for ts) rs → Asked-for ts q
found-all ts finds rs q e a = Rattle.sp_rules.proofs.AllLemmas.all-found (Asked-for ts) finds rs q e a

tells-for : (ts : List Living) (q : Request) (call : ℕ) (group : Group) → q.asked ≡ Tells call group → Asked-for ts q
tells-for ts q call group e = subst (IsAskedFor (at_id ts) q.peer) (sym e) tt

answered-for : (ts : List Living) (conn number : ℕ) (q : Request) → Asked-for ts q → Asked-for ts (Frames.answered_on conn number q)
answered-for ts conn number q a = pick (ParkedFrames.is_call_on conn number q)
  where
    pick : (b : Bool) → Asked-for ts (if b then record q { stage = state.Answered conn } else q)
    pick true = a
    pick false = a

held_flow : (g : Setting) → Flows g Held
held_flow g = record {
  quiet = λ l s t e h. record {
    requests = subst (λ (c : FlowParts). AllOf (Asked-for c.tasks) c.requests) (sym e) h.requests;
    fresh = subst (λ (c : FlowParts). AllOf (Asked-for c.tasks) c.fresh) (sym e) h.fresh;
    owed = subst (λ (c : FlowParts). AllOf (OwedFor c.tasks) l) (sym e) h.owed;
  };
  adds = λ l s q h. record { requests = all-more (Asked-for s.tasks) s.requests q h.requests h.owed.0; fresh = h.fresh; owed = h.owed.1 };
  tells = λ l s q call group e h. record { requests = all-more (Asked-for s.tasks) s.requests q h.requests (tells-for s.tasks q call group e); fresh = h.fresh; owed = h.owed };
  told = λ l s peer call group h. record { requests = h.requests; fresh = h.fresh; owed = h.owed.1 };
  unfresh = λ l s h. record { requests = h.requests; fresh = tt; owed = removed-owed s.tasks s.fresh l h.fresh h.owed };
  removes = λ l s is h. record {
    requests = all-filter (Asked-for s.tasks) (λ q. not (is q)) s.requests h.requests;
    fresh = h.fresh;
    owed = removed-owed s.tasks (filter is s.requests) l (all-filter (Asked-for s.tasks) is s.requests h.requests) h.owed;
  };
  sorts = λ l s is rs h. record {
    requests = h.requests;
    fresh = h.fresh;
    owed = let x = owed-parts s.tasks rs l h.owed in
        removed-owed s.tasks (filter (λ q. not (is q)) rs) (removed (filter is rs) ++ l) (all-filter (Asked-for s.tasks) (λ q. not (is q)) rs x.0) (removed-owed s.tasks (filter is rs) l (all-filter (Asked-for s.tasks) is rs x.0) x.1);
  };
  removes_one = λ l s finds is k q e passes has h. record { requests = all-filter (Asked-for s.tasks) (λ p. not (is p)) s.requests h.requests; fresh = h.fresh; owed = (found-all s.tasks finds s.requests q e h.requests, h.owed) };
  removes_told = λ l s dirty conn sequence h. record { requests = all-filter (Asked-for s.tasks) (λ q. not (Frames.tells_on dirty conn sequence q)) s.requests h.requests; fresh = h.fresh; owed = h.owed };
  begins = λ l s origin method arguments fuel h.
      let k : Held l (record s { tasks = s.tasks ++ new_row g origin method arguments fuel s ∷ [] }) = still-held (s.tasks ++ new_row g origin method arguments fuel s ∷ []) (still-more s.tasks (new_row g origin method arguments fuel s) refl) (record { requests = h.requests; fresh = h.fresh; owed = origin-parts s.tasks origin l h.owed }) in
      record { requests = k.requests; fresh = k.fresh; owed = k.owed };
  ends = λ l s id t is h.
      let k : Held l (record s { tasks = filter (λ (u : Living). not (u.id == id)) s.tasks }) = still-held (filter (λ (u : Living). not (u.id == id)) s.tasks) (still-gone s.tasks id) h in
      record { requests = k.requests; fresh = k.fresh; owed = origin-more (filter (λ (u : Living). not (u.id == id)) s.tasks) t.origin l k.owed };
  replies = λ l s peer number task lent kind m reply t is h. still-held (at_first (λ (u : Living). u.id == task) (LivingTasks.after_reply g reply) s.tasks) (still-set s.tasks task t (LivingTasks.after_reply g reply) (λ u. refl) is refl) (record { requests = h.requests; fresh = h.fresh; owed = h.owed.1 });
  replies_none = λ l s peer number task lent kind m is h. record { requests = h.requests; fresh = h.fresh; owed = h.owed.1 };
  looked_up = λ l s peer number task name h. record { requests = h.requests; fresh = h.fresh; owed = h.owed.1 };
  works = λ l s id t f row quiet is h. still-held (at_first (λ (u : Living). u.id == id) f s.tasks) (still-set s.tasks id t f row.id (ready-is (task_at s id) t is).0 quiet) h;
  keeps = λ l s until value h. record { requests = h.requests; fresh = h.fresh; owed = until-parts s.tasks until l h.owed };
  results_go = λ l s is h. record { requests = h.requests; fresh = h.fresh; owed = h.owed };
  falls = λ l s conn number h. record { requests = h.requests; fresh = h.fresh; owed = h.owed.1 };
  row = λ l s conn f a b c h. record { requests = h.requests; fresh = h.fresh; owed = h.owed };
  counts = λ l s conn number c is le h. record { requests = h.requests; fresh = h.fresh; owed = (tt, h.owed) };
  parks_call = λ l s p is h. record { requests = h.requests; fresh = h.fresh; owed = h.owed.1 };
  parks_result = λ l s p is h. record { requests = h.requests; fresh = h.fresh; owed = h.owed };
  answers = λ l s conn number h. record { requests = all-map (Asked-for s.tasks) (Asked-for s.tasks) (Frames.answered_on conn number) s.requests (answered-for s.tasks conn number) h.requests; fresh = h.fresh; owed = h.owed };
  takes = λ l s p h. record { requests = h.requests; fresh = h.fresh; owed = h.owed };
  takes_call = λ l s p q is call h. record { requests = h.requests; fresh = h.fresh; owed = (tt, h.owed) };
  closes = λ l s conn h. record { requests = h.requests; fresh = h.fresh; owed = h.owed };
}

-- ---- a call that is made

-- a task that lends its fuel stands at the point at which it stood
lent-stands : (t : Task) (op : Op) → stand t ≡ AsksFor op → stand (lend_fuel t) ≡ AsksFor op
unfolding stand lend_fuel
lent-stands t op e = at t.behaviour t.fuel e
  where
    is-asked : Stand → Bool
    is-asked Runs = false
    is-asked (AsksFor x) = true
    is-asked (HasEnded outcome) = false

    at : (b : Behaviour) (fuel : ℕ) → Tasks.stand_at b fuel ≡ AsksFor op → Tasks.stand_at b (min 1 fuel) ≡ AsksFor op
    at (Over outcome) fuel f = f
    at (Plain next) zero f = absurd (true≢false (sym (ap is-asked f)))
    at (Plain next) (suc fuel) f = absurd (true≢false (sym (ap is-asked f)))
    at (Asks x next) zero f = absurd (true≢false (sym (ap is-asked f)))
    at (Asks x next) (suc fuel) f = let one : min 1 (suc fuel) ≡ 1 = omega arith in subst (λ n. Tasks.stand_at (Asks x next) n ≡ AsksFor op) (sym one) f
    at (Ends outcome) zero f = absurd (true≢false (sym (ap is-asked f)))
    at (Ends outcome) (suc fuel) f = absurd (true≢false (sym (ap is-asked f)))

lent-held : (x : Task) → (lend_fuel x).held ≡ x.held
unfolding lend_fuel
lent-held x = refl

-- no request is a call of a task that does not wait
none-of : (id : ℕ) (rs : List Request) → asked_sum (call_of id) rs ≡ 0 → AllOf (λ (q : Request). call_of id q.asked ≡ 0) rs
none-of id [] e = tt
none-of id (q ∷ rs) e = (omega arith, none-of id rs (omega arith))

other-for : (ts us : List Living) (id : ℕ) → ((task : ℕ) → (id ≡ task → ⊥) → at_id us task ≡ at_id ts task) → (peer : Uuid) (asked : Asked) → call_of id asked ≡ 0 → IsAskedFor (at_id ts) peer asked → IsAskedFor (at_id us) peer asked
other-for ts us id same peer (Calls number task lent kind m) none h = λ t is waits. h t (sym (same task apart) ∙ is) waits
  where
    apart : id ≡ task → ⊥
    apart e = let c : count (task == id) ≡ 1 = ap count (eq-eqb task id (sym e)) in absurd (omega arith)
other-for ts us id same peer (LooksUp number task name) none h = tt
other-for ts us id same peer (Tells call group) none h = tt

-- what a space takes of a call that is parked
parked-held : (g : Setting) (lent : List ℕ) (s : State) (id k : ℕ) (t : Living) (target : Ref) (method : ℕ) (arguments : List Value) → task_at s id ≡ Some t → stand (steps k t.task) ≡ AsksFor (Call target method arguments) → first_refusal (checks g lent s (Parked id k)) ≡ None
    → list_all (is_reference_in t.task.held) (target ∷ references_of arguments) ≡ true
parked-held g lent s id k t target method arguments is stands e =
    not-false (list_all (is_reference_in t.task.held) (target ∷ references_of arguments)) (first-of (not (list_all (is_reference_in t.task.held) (target ∷ references_of arguments))) Refusals.NotHeld (Refusals.refuse_if (not (Refusals.fits_call g (Call target method arguments))) Refusals.WrongKind)
    (subst (λ at. first_refusal (Refusals.check_parked g (Some t) (Some at)) ≡ None) stands
    (subst (λ found. first_refusal (Refusals.check_parked g found (Refusals.stand_after k found)) ≡ None) is
    (later (Refusals.refuse_if (not (Refusals.is_in_hand lent s id)) Refusals.NotLent) (Refusals.check_parked g (task_at s id) (Refusals.stand_after k (task_at s id))) e)))).0

held-begin : (g : Setting) (lent : List ℕ) (s : State) (e : Event) → first_refusal (checks g lent s e) ≡ None → s.fresh ≡ [] → Waits [] s → Begins g Held s e
held-begin g lent s e taken none w = record {
  opens = λ conn dialled is h. record { requests = h.requests; fresh = h.fresh; owed = h.owed };
  parks = λ id k t target method arguments is ready stands h. made id k t target method arguments (ready-is (task_at s id) t ready).0 (ready-is (task_at s id) t ready).1 stands (subst (λ x. first_refusal (checks g lent s x) ≡ None) is taken) h;
  looks = λ peer name is h. record { requests = h.requests; fresh = (tt, tt); owed = h.owed };
}
  where
    made : (id k : ℕ) (t : Living) (target : Ref) (method : ℕ) (arguments : List Value) → task_at s id ≡ Some t → t.waits ≡ false → stand (steps k t.task) ≡ AsksFor (Call target method arguments)
        → first_refusal (checks g lent s (Parked id k)) ≡ None → Held [] s → Held [] (LivingTasks.park_op g id k t (Call target method arguments) s)
    made id k t target method arguments is quiet stands fits h = record {
      requests = Rattle.sp_rules.proofs.AllLemmas.all-with (λ (q : Request). call_of id q.asked ≡ 0) (Asked-for s.tasks) (Asked-for now) s.requests (λ q z a. other-for s.tasks now id others q.peer q.asked z a) (none-of id s.requests zero-calls) h.requests;
      fresh = ((λ u found waits. asks u found), tt);
      owed = h.owed;
    }
      where
        now : List Living
        now = at_first (λ (u : Living). u.id == id) (LivingTasks.waiting k) s.tasks

        others : (task : ℕ) → (id ≡ task → ⊥) → at_id now task ≡ at_id s.tasks task
        others task apart = changed-other (LivingTasks.waiting k) (λ u. refl) id task apart s.tasks

        zero-calls : asked_sum (call_of id) s.requests ≡ 0
        zero-calls =
            let a : asked_sum (call_of id) s.requests + (asked_sum (call_of id) s.fresh + 0) ≡ waits_in (task_at s id) = w.tasks id in
            let b : waits_in (task_at s id) ≡ 0 = ap waits_in is ∙ ap count quiet in omega arith

        waiting-row : AsksCall target.space (s.calls_made + 1) (Tasks.lent (steps k t.task)) (message.Call (s.calls_made + 1) target.id method (Tasks.lent (steps k t.task)) arguments) (LivingTasks.waiting k t)
        waiting-row = record {
          target = target;
          method = method;
          arguments = arguments;
          stands = lent-stands (steps k t.task) (Call target method arguments) stands;
          frame = refl;
          to = refl;
          held = subst (λ refs. list_all (is_reference_in refs) (target ∷ references_of arguments) ≡ true) (sym (lent-held (steps k t.task) ∙ steps-held k t.task)) (parked-held g lent s id k t target method arguments is stands fits);
        }

        asks : (u : Living) → at_id now id ≡ Some u → AsksCall target.space (s.calls_made + 1) (Tasks.lent (steps k t.task)) (message.Call (s.calls_made + 1) target.id method (Tasks.lent (steps k t.task)) arguments) u
        asks u found = subst (AsksCall target.space (s.calls_made + 1) (Tasks.lent (steps k t.task)) (message.Call (s.calls_made + 1) target.id method (Tasks.lent (steps k t.task)) arguments))
            (Rattle.sp_rules.proofs.OwnLemmas.some-same (sym (changed-at (LivingTasks.waiting k) (λ v. refl) id s.tasks t is) ∙ found)) waiting-row

held-of : (g : Setting) (h : List Event) → IsTaken g h → Held [] (Space.state_of g h)
unfolding Space.state_of opening
held-of g [] t = record { requests = tt; fresh = tt; owed = tt }
held-of g (e ∷ h) t = on_flow (held_flow g) (Space.state_of g h) e (held-begin g t.0.0 (Space.state_of g h) e (unrefused g t.0.0 (Space.state_of g h) e t.0.1) (no-fresh g h) (waits-of g h)) (held-of g h t.1)

pub calls_are_held : CallsAreHeld
calls_are_held g h t = (held-of g h t).requests
