-- A call ends as it is named, through every event.
use mathlib.Core.Path.{sym, ap, subst, ◌∙◌}
use Rattle.std.proofs.Common.{arith, inl, inr}
use Rattle.std.proofs.lemmas.Bool.{true≢false, eqb-true, leb-true}
use Rattle.std.specs.List.{list_any}
use Rattle.std.specs.Prelude.{◌≡◌, ◌⊎◌, refl, ℕ, ◌+◌, ◌≤◌, ◌==◌, ◌||◌, not, nat_le, cond, Bool, true, false, List, [], ◌∷◌, ◌++◌, Option, None, Some, filter, find, if◌then◌else◌}
use Rattle.net_message.specs.declared.message.Message.{Message}
use Rattle.net_message.specs.declared.message.Message.TheVariants as message
use Rattle.space_ids.specs.declared.ids.ClassId.{ClassId}
use Rattle.space_ids.specs.declared.value.Value.{Value}
use Rattle.sp_rules.specs.Behaviours.{Reply, GivesBack}
use Rattle.sp_rules.specs.Classes.{Setting, Kind}
use Rattle.sp_rules.specs.Events.{Event, Refused, Received, Closed, ReadFailed, Bad, WriteFailed, Committed, Parked, GivenBack}
use Rattle.sp_rules.specs.Frames
use Rattle.sp_rules.specs.Laws.{AllOf}
use Rattle.sp_rules.specs.Lists.{at_first, total}
use Rattle.sp_rules.specs.LivingTasks
use Rattle.sp_rules.specs.ParkedFrames
use Rattle.sp_rules.specs.Space
use Rattle.sp_rules.specs.State.{State, Living, Given, Origin, OfRoot, OfCall, Until, RootAcked, Acked, Passed, Request, Asked, Calls, LooksUp, Tells, Out, Answered, Frame, CallFrame, ReturnedFrame, ParkedFrame, task_at, ready_at}
use Rattle.sp_rules.proofs.AllLemmas.{found-is, all-more, all-filter, all-map, all-found}
use Rattle.sp_rules.proofs.FuelSums.{total-find, value_in, found-value}
use Rattle.sp_rules.proofs.OwnLemmas.{some-same}
use Rattle.sp_rules.proofs.ReadyLemmas.{ready-is}
use Rattle.sp_laws.specs.Waiting.{count, call_of}
use Rattle.sp_laws.proofs.FlowRules.{Owed, Removed, Inbound, removed, of_origin, of_until}
use Rattle.sp_laws.proofs.WaitHistories.{no-fresh, waits-begin, waits-of}
use Rattle.sp_laws.proofs.WaitLemmas.{asked_sum, flow_sum, one_of, waits_in, Waits, waits_flow, changed-at, changed-other, gone-other, different}
use Rattle.sp_laws.specs.CallEnds.{IsOutOn, IsFailure, IsParkedIn, MayEndWith, WaitsOn, IsGiven, WaitsOrEnds, CallsEndAsNamed}
use Rattle.sp_laws.proofs.EventRules.{View, Flows, Begins, EventParts, event_parts, IsFrom, is_finish, is_ending, is_unreached, is_unwritten, on_flow}
use Rattle.sp_laws.proofs.StartedLemmas.{find-more}

-- ---- what is kept

-- What is asked is the call of this number exactly if it is the call of this task.
abbrev Matched : ℕ → ℕ → Asked → Type 0
Matched number task asked = call_of task asked ≡ one_of number asked

abbrev Matches : ℕ → ℕ → Request → Type 0
Matches number task q = Matched number task q.asked

abbrev OwedMatched : ℕ → ℕ → Owed → Type 0
OwedMatched number task (Removed peer asked) = Matched number task asked
OwedMatched number task (Inbound conn k) = Unit {0}

-- a parked answer is one that came, or was parked
abbrev pub IsKnown : Setting → State → Event → ParkedFrame → Type 0
IsKnown g before e p = (value : Option Value) (fuel : ℕ) → p.frame ≡ ReturnedFrame value fuel → MayEndWith g before e p.number (GivesBack value fuel)

abbrev Stands : Setting → State → Event → ℕ → Living → Living → Type 0
Stands g before e number t u = WaitsOn t u ⊎ ((is_ending e ≡ true) × ((reply : Reply) × (IsGiven reply t u × MayEndWith g before e number reply)))

record Goes (g : Setting) (before : State) (e : Event) (number task : ℕ) (t : Living) (l : List Owed) (s : EventParts) : Type 0 where
  requests : AllOf (Matches number task) s.requests
  fresh : AllOf (Matches number task) s.fresh
  owed : AllOf (OwedMatched number task) l
  frames : AllOf (IsKnown g before e) s.parked
  row : (u : Living) × ((find (λ (v : Living). v.id == task) s.tasks ≡ Some u) × Stands g before e number t u)

all-removed : (number task : ℕ) (rs : List Request) (l : List Owed) → AllOf (Matches number task) rs → AllOf (OwedMatched number task) l → AllOf (OwedMatched number task) (removed rs ++ l)
all-removed number task [] l a b = b
all-removed number task (q ∷ rs) l a b = (a.0, all-removed number task rs l a.1 b)

of-removed : (number task : ℕ) (rs : List Request) (l : List Owed) → AllOf (OwedMatched number task) (removed rs ++ l) → AllOf (Matches number task) rs × AllOf (OwedMatched number task) l
of-removed number task [] l a = (tt, a)
of-removed number task (q ∷ rs) l a = let rest = of-removed number task rs l a.1 in ((a.0, rest.0), rest.1)

from-owed : (number task : ℕ) (o : Origin) (l : List Owed) → AllOf (OwedMatched number task) (of_origin o ++ l) → AllOf (OwedMatched number task) l
from-owed number task OfRoot l a = a
from-owed number task (OfCall conn k) l a = a.1

to-owed : (number task : ℕ) (o : Origin) (l : List Owed) → AllOf (OwedMatched number task) l → AllOf (OwedMatched number task) (of_origin o ++ l)
to-owed number task OfRoot l a = a
to-owed number task (OfCall conn k) l a = (tt, a)

until-owed : (number task : ℕ) (u : Until) (l : List Owed) → AllOf (OwedMatched number task) (of_until u ++ l) → AllOf (OwedMatched number task) l
until-owed number task (RootAcked id) l a = a
until-owed number task (Acked conn k) l a = a.1
until-owed number task (Passed moment) l a = a

-- ---- small steps

goes : {g : Setting} {before : State} {e : Event} {number task : ℕ} {t : Living} {l m : List Owed} {s : EventParts} → AllOf (OwedMatched number task) m → Goes g before e number task t l s → Goes g before e number task t m s
goes a k = record { requests = k.requests; fresh = k.fresh; owed = a; frames = k.frames; row = k.row }

requests-are : {g : Setting} {before : State} {e : Event} {number task : ℕ} {t : Living} {l : List Owed} (s : State) (rs : List Request) → AllOf (Matches number task) rs → Goes g before e number task t l (event_parts s) → Goes g before e number task t l (event_parts (record s { requests = rs }))
requests-are s rs a k = record { requests = a; fresh = k.fresh; owed = k.owed; frames = k.frames; row = k.row }

frames-are : {g : Setting} {before : State} {e : Event} {number task : ℕ} {t : Living} {l : List Owed} (s : State) (ps : List ParkedFrame) → AllOf (IsKnown g before e) ps → Goes g before e number task t l (event_parts s) → Goes g before e number task t l (event_parts (record s { parked = ps }))
frames-are s ps a k = record { requests = k.requests; fresh = k.fresh; owed = k.owed; frames = a; row = k.row }

same : {g : Setting} {before : State} {e : Event} {number task : ℕ} {t : Living} {l : List Owed} {s : EventParts} (u : EventParts) → u.requests ≡ s.requests → u.fresh ≡ s.fresh → u.parked ≡ s.parked → u.tasks ≡ s.tasks → Goes g before e number task t l s → Goes g before e number task t l u
same {g} {before} {e} {number} {task} {t} u a b c d k = record {
  requests = subst (AllOf (Matches number task)) (sym a) k.requests;
  fresh = subst (AllOf (Matches number task)) (sym b) k.fresh;
  owed = k.owed;
  frames = subst (AllOf (IsKnown g before e)) (sym c) k.frames;
  row = (k.row.0, (ap (find (λ (v : Living). v.id == task)) d ∙ k.row.1.0, k.row.1.1));
}

tasks-are : {g : Setting} {before : State} {e : Event} {number task : ℕ} {t : Living} {l : List Owed} (s : State) (ts : List Living) → ((u : Living) × ((find (λ (v : Living). v.id == task) ts ≡ Some u) × Stands g before e number t u)) → Goes g before e number task t l (event_parts s) → Goes g before e number task t l (event_parts (record s { tasks = ts }))
tasks-are s ts a k = record { requests = k.requests; fresh = k.fresh; owed = k.owed; frames = k.frames; row = a }

-- ---- with what an event ends calls

pub same-number : (a b : ℕ) (asked : Asked) → ParkedFrames.has_number a asked ≡ true → ParkedFrames.has_number b asked ≡ true → a ≡ b
same-number a b (Calls n task lent kind m) x y = sym (eqb-true n a x) ∙ eqb-true n b y
same-number a b (LooksUp n task name) x y = sym (eqb-true n a x) ∙ eqb-true n b y
same-number a b (Tells call group) x y = absurd (true≢false (sym x))

pub failing-ends : (g : Setting) (e : Event) (class : ClassId) → IsFailure g e class → is_ending e ≡ true
failing-ends g (Refused peer) class a = refl
failing-ends g (Received conn m) class a = refl
failing-ends g (Closed conn) class a = refl
failing-ends g (ReadFailed conn) class a = refl
failing-ends g (Bad conn) class a = refl
failing-ends g (WriteFailed conn unsent) class a = refl
failing-ends g _ class a = absurd a

pub fails-unmarshal : (g : Setting) (e : Event) → is_ending e ≡ true → IsFailure g e g.classes.unmarshal
fails-unmarshal g (Refused peer) is = inr refl
fails-unmarshal g (Received conn m) is = inr refl
fails-unmarshal g (Closed conn) is = refl
fails-unmarshal g (ReadFailed conn) is = refl
fails-unmarshal g (Bad conn) is = refl
fails-unmarshal g (WriteFailed conn unsent) is = inr refl
fails-unmarshal g _ is = absurd (true≢false (sym is))

pub fails-connect : (g : Setting) (e : Event) → is_unreached e ≡ true → IsFailure g e g.classes.connect
fails-connect g (Refused peer) is = inl refl
fails-connect g (Received conn m) is = inl (is, refl)
fails-connect g _ is = absurd (true≢false (sym is))

pub fails-marshal : (g : Setting) (e : Event) → is_unwritten e ≡ true → IsFailure g e g.classes.marshal
fails-marshal g (WriteFailed conn unsent) is = inl refl
fails-marshal g _ is = absurd (true≢false (sym is))

-- if an event ends calls, no task is at work, and none is parked
ending-answers : (e : Event) → is_ending e ≡ true → Space.answers_outputs e ≡ false → ⊥
ending-answers (Committed task k op) is lent = true≢false (sym is)
ending-answers (GivenBack task k) is lent = true≢false (sym is)
ending-answers _ is lent = true≢false lent

-- ---- the task's row

-- it waits if a call of it is under way
waits-now : {g : Setting} {before : State} {e : Event} {number task : ℕ} {t : Living} {l : List Owed} {s : State} (k : Goes g before e number task t l (event_parts s)) → Waits l s → 1 ≤ flow_sum (call_of task) l s → WaitsOn t k.row.0
waits-now {g} {before} {e} {number} {task} {t} {l} {s} k w some = by k.row.1.1
  where
    sum : flow_sum (call_of task) l s ≡ count k.row.0.waits
    sum = w.tasks task ∙ ap waits_in k.row.1.0

    by : Stands g before e number t k.row.0 → WaitsOn t k.row.0
    by (inl x) = x
    by (inr x) = absurd (let a : count k.row.0.waits ≡ 0 = ap count x.1.1.0.ready in omega (arith, sum, some))

-- a task that is ready is another one; if an event ends calls, it is not at work
not-ready : {g : Setting} {before : State} {e : Event} {number task : ℕ} {t : Living} {l : List Owed} (s : State) (id : ℕ) (v : Living) → ready_at s id ≡ Some v → (is_ending e ≡ true → ⊥) → Goes g before e number task t l (event_parts s) → id ≡ task → ⊥
not-ready {g} {before} {e} {number} {task} {t} s id v is never k eq = by k.row.1.1
  where
    found : find (λ (u : Living). u.id == task) s.tasks ≡ Some v
    found = subst (λ n. find (λ (u : Living). u.id == n) s.tasks ≡ Some v) eq (ready-is (task_at s id) v is).0

    by : Stands g before e number t k.row.0 → ⊥
    by (inl x) = true≢false (sym x.waits ∙ (ap (λ (u : Living). u.waits) (some-same (sym k.row.1.0 ∙ found)) ∙ (ready-is (task_at s id) v is).1))
    by (inr x) = never x.0

-- another row is changed
other-set : {g : Setting} {before : State} {e : Event} {number task : ℕ} {t : Living} {l : List Owed} (s : State) (id : ℕ) (f : Living → Living) → ((u : Living) → (f u).id ≡ u.id) → (id ≡ task → ⊥) → (k : Goes g before e number task t l (event_parts s)) → (u : Living) × ((find (λ (v : Living). v.id == task) (at_first (λ (v : Living). v.id == id) f s.tasks) ≡ Some u) × Stands g before e number t u)
other-set {task = task} s id f row apart k = (k.row.0, (changed-other f row id task apart s.tasks ∙ k.row.1.0, k.row.1.1))

-- a reply comes to a task
reply-row : {g : Setting} {before : State} {e : Event} {number task : ℕ} {t : Living} {l : List Owed} {s : State} (k id lent : ℕ) (kind : Kind) (m : Message) (reply : Reply)
    → (is_ending e ≡ true) × ((n : ℕ) → ParkedFrames.has_number n (Calls k id lent kind m) ≡ true → MayEndWith g before e n reply) → Matched number task (Calls k id lent kind m) → 1 ≤ flow_sum (call_of id) l s → Waits l s
    → (x : Goes g before e number task t l (event_parts s)) → (u : Living) × ((find (λ (v : Living). v.id == task) (at_first (λ (v : Living). v.id == id) (LivingTasks.after_reply g reply) s.tasks) ≡ Some u) × Stands g before e number t u)
reply-row {g} {before} {e} {number} {task} {t} {l} {s} k id lent kind m reply may match some w x = by (id == task) refl
  where
    is-one : (b : Bool) → count true ≡ count b → b ≡ true
    is-one true f = refl
    is-one false f = absurd (omega (arith, f))

    by : (b : Bool) → (id == task) ≡ b → (u : Living) × ((find (λ (v : Living). v.id == task) (at_first (λ (v : Living). v.id == id) (LivingTasks.after_reply g reply) s.tasks) ≡ Some u) × Stands g before e number t u)
    by false f = other-set s id (LivingTasks.after_reply g reply) (λ u. refl) (different id task f) x
    by true f =
        let here : id ≡ task = eqb-true id task f in
        let waiting : WaitsOn t x.row.0 = waits-now x w (subst (λ n. 1 ≤ flow_sum (call_of n) l s) here some) in
        let numbered : (k == number) ≡ true = is-one (k == number) (sym (ap count f) ∙ match) in (
          LivingTasks.after_reply g reply x.row.0,
          (
            subst (λ n. find (λ (v : Living). v.id == task) (at_first (λ (v : Living). v.id == n) (LivingTasks.after_reply g reply) s.tasks) ≡ Some (LivingTasks.after_reply g reply x.row.0)) (sym here) (changed-at (LivingTasks.after_reply g reply) (λ u. refl) task s.tasks x.row.0 x.row.1.0),
            inr (
              may.0,
              (
                reply,
                (
                  record {
                    ready = refl;
                    given = ap {A = ℕ} {B = List Given} (λ n. record { steps = n; lent = x.row.0.waits; reply = reply } ∷ x.row.0.given) waiting.steps
                        ∙ (ap {A = Bool} {B = List Given} (λ b. record { steps = t.steps; lent = b; reply = reply } ∷ x.row.0.given) waiting.waits
                        ∙ ap {A = List Given} {B = List Given} (λ h. record { steps = t.steps; lent = true; reply = reply } ∷ h) waiting.given);
                  },
                  may.1 number numbered,
                ),
              ),
            ),
          ),
        )

-- ---- through the rules

abbrev view : Setting → State → Event → ℕ → ℕ → Living → View
view g before e number task t = record {
  setting = g;
  event = e;
  Dialled = λ c d. Unit {0};
  Answers = λ c m. Unit {0};
  Known = IsKnown g before e;
  Fails = IsFailure g e;
  Ends = λ asked reply. (is_ending e ≡ true) × ((n : ℕ) → ParkedFrames.has_number n asked ≡ true → MayEndWith g before e n reply);
  Starts = λ o n a. Unit {0};
  Speaks = λ c version. Unit {0};
  Fits = λ c ids. Unit {0};
  Keeps = λ l s. Waits l s × Goes g before e number task t l (event_parts s);
}

all-unit : {A : Type 0} (xs : List A) → AllOf (λ (x : A). Unit {0}) xs
all-unit [] = tt
all-unit (x ∷ xs) = (tt, all-unit xs)

all-from : (g : Setting) (before : State) (e : Event) (number task : ℕ) (t : Living) (ts : List Living) → AllOf (λ (u : Living). IsFrom (view g before e number task t) u.origin) ts
all-from g before e number task t [] = tt
all-from g before e number task t (u ∷ ts) = (one u.origin, all-from g before e number task t ts)
  where
    one : (o : Origin) → IsFrom (view g before e number task t) o
    one OfRoot = tt
    one (OfCall c n) = tt

finish-ends-none : (e : Event) → is_finish e ≡ true → is_ending e ≡ true → ⊥
finish-ends-none e over is = true≢false (sym over ∙ Rattle.sp_laws.proofs.EventRules.ending-goes e is)

ends_flow : (g : Setting) (before : State) (e : Event) (number task : ℕ) (t : Living) → Flows (view g before e number task t)
ends_flow g before e number task t = record {
  known = λ l s k. k.1.frames;
  dialled = λ l s k. all-unit s.connections;
  origins = λ l s k. all-from g before e number task t s.tasks;
  sided = λ p a. tt;
  fails = λ asked class a. (failing-ends g e class a, λ n has. inr a);
  starts = λ l s p target method fuel arguments o n going k known is stands finds. tt;
  gives = λ p value fuel asked is known eq has. (is, λ n also. subst (λ x. MayEndWith g before e x (GivesBack value fuel)) (same-number p.number n asked has also) (known value fuel eq));
  refuses = λ c n class is. tt;
  finds = λ c n name r is own. tt;
  speaks = λ c version. tt;
  fits = λ c ids. tt;
  quiet = λ l s u eq k. (W.quiet l s u (ap (λ (c : EventParts). record { calls_made = c.calls_made; tasks_made = c.tasks_made; tasks = c.tasks; requests = c.requests; fresh = c.fresh; results = c.results; connections = c.connections; parked = c.parked }) eq) k.0, subst (Goes g before e number task t l) (sym eq) k.1);
  says = λ l s output is so k. (W.quiet l s _ refl k.0, same _ refl refl refl refl k.1);
  sends = λ l s turn c m may held k. (W.quiet l s _ refl k.0, same _ refl refl refl refl k.1);
  clears = λ s k. (W.quiet [] s _ refl k.0, same _ refl refl refl refl k.1);
  stores = λ l s store is k. (W.quiet l s _ refl k.0, same _ refl refl refl refl k.1);
  adds = λ l s q k. (W.adds l s q k.0, goes k.1.owed.1 (requests-are s _ (all-more (Matches number task) s.requests q k.1.requests k.1.owed.0) k.1));
  calls_out = λ l s turn c peer n id lent kind m there k.
      let q : Request = record { peer = peer; asked = Calls n id lent kind m; stage = Out c 0 } in
      (W.quiet l (record s { requests = s.requests ++ q ∷ [] }) _ refl (W.adds l s q k.0), same _ refl refl refl refl (goes k.1.owed.1 (requests-are s (s.requests ++ q ∷ []) (all-more (Matches number task) s.requests q k.1.requests k.1.owed.0) k.1)));
  looks_out = λ l s turn c peer n id name there k.
      let q : Request = record { peer = peer; asked = LooksUp n id name; stage = Out c 0 } in
      (W.quiet l (record s { requests = s.requests ++ q ∷ [] }) _ refl (W.adds l s q k.0), same _ refl refl refl refl (goes k.1.owed.1 (requests-are s (s.requests ++ q ∷ []) (all-more (Matches number task) s.requests q k.1.requests k.1.owed.0) k.1)));
  tells = λ l s q call group eq k. (W.tells l s q call group eq k.0, requests-are s _ (all-more (Matches number task) s.requests q k.1.requests (subst (Matched number task) (sym eq) refl)) k.1);
  told = λ l s peer call group k. (W.told l s peer call group k.0, goes k.1.owed.1 k.1);
  unfresh = λ l s k. (W.unfresh l s k.0, record { requests = k.1.requests; fresh = tt; owed = all-removed number task s.fresh l k.1.fresh k.1.owed; frames = k.1.frames; row = k.1.row });
  removes = λ l s is k. (W.removes l s is k.0, goes (all-removed number task (filter is s.requests) l (all-filter (Matches number task) is s.requests k.1.requests) k.1.owed) (requests-are s _ (all-filter (Matches number task) (λ q. not (is q)) s.requests k.1.requests) k.1));
  sorts = λ l s is rs k.
      let x = of-removed number task rs l k.1.owed in
      (W.sorts l s is rs k.0, goes (all-removed number task (filter (λ q. not (is q)) rs) (removed (filter is rs) ++ l) (all-filter (Matches number task) (λ q. not (is q)) rs x.0) (all-removed number task (filter is rs) l (all-filter (Matches number task) is rs x.0) x.1)) k.1);
  removes_one = λ l s finds is n q eq passes has k. (W.removes_one l s finds is n q eq passes has k.0, goes (all-found (Matches number task) finds s.requests q eq k.1.requests, k.1.owed) (requests-are s _ (all-filter (Matches number task) (λ p. not (is p)) s.requests k.1.requests) k.1));
  removes_told = λ l s dirty c sequence k. (W.removes_told l s dirty c sequence k.0, requests-are s _ (all-filter (Matches number task) (λ q. not (Frames.tells_on dirty c sequence q)) s.requests k.1.requests) k.1);
  answers = λ l s c n k. (W.answers l s c n k.0, requests-are s _ (all-map (Matches number task) (Matches number task) (Frames.answered_on c n) s.requests (λ q a. answered c q a (ParkedFrames.is_call_on c n q)) k.1.requests) k.1);
  begins = λ l s origin method arguments fuel going at k. (
    W.begins l s origin method arguments fuel k.0,
    record {
      requests = k.1.requests;
      fresh = k.1.fresh;
      owed = from-owed number task origin l k.1.owed;
      frames = k.1.frames;
      row = (k.1.row.0, (find-more (λ (u : Living). u.id == task) s.tasks _ k.1.row.0 k.1.row.1.0, k.1.row.1.1));
    },
  );
  ends = λ l s id v over is k. (W.ends l s id v is k.0, goes (to-owed number task v.origin l k.1.owed) (tasks-are s _ (k.1.row.0, (gone-other id task (not-ready s id v is (finish-ends-none e over) k.1) s.tasks ∙ k.1.row.1.0, k.1.row.1.1)) k.1));
  replies = λ l s peer n id lent kind m reply v may is k. (W.replies l s peer n id lent kind m reply v is k.0, goes k.1.owed.1 (tasks-are s _ (reply-row n id lent kind m reply may k.1.owed.0 (counts-one id l s n lent kind m peer) k.0 k.1) k.1));
  replies_none = λ l s peer n id lent kind m is k. (W.replies_none l s peer n id lent kind m is k.0, goes k.1.owed.1 k.1);
  looked_up = λ l s peer n id name reply may k. (W.quiet l s _ refl (W.looked_up l s peer n id name k.0), same _ refl refl refl refl (goes k.1.owed.1 k.1));
  works = λ l s id v f lent row ready is k. (W.works l s id v f row ready is k.0, tasks-are s _ (other-set s id f row.id (not-ready s id v is (λ x. ending-answers e x lent) k.1) k.1) k.1);
  keeps = λ l s until value k. (W.keeps l s until value k.0, same _ refl refl refl refl (goes (until-owed number task until l k.1.owed) k.1));
  results_go = λ l s is goes k. (W.results_go l s is k.0, same _ refl refl refl refl k.1);
  falls = λ l s c n k. (W.falls l s c n k.0, goes k.1.owed.1 k.1);
  row = λ l s c f a b d k. (W.row l s c f a b d k.0, same _ refl refl refl refl k.1);
  counts = λ l s c n d there is low k. (W.counts l s c n d is low k.0, same _ refl refl refl refl (goes (tt, k.1.owed) k.1));
  parks_call = λ l s p going known is k. (W.parks_call l s p is k.0, goes k.1.owed.1 (frames-are s _ (all-more (IsKnown g before e) s.parked p k.1.frames known) k.1));
  parks_result = λ l s p known is k. (W.parks_result l s p is k.0, frames-are s _ (all-more (IsKnown g before e) s.parked p k.1.frames known) k.1);
  takes = λ l s p k. (W.takes l s p k.0, frames-are s _ (all-filter (IsKnown g before e) (λ q. not (ParkedFrames.is_parked_at p.conn p.number q)) s.parked k.1.frames) k.1);
  takes_call = λ l s p q is call k. (W.takes_call l s p q is call k.0, goes (tt, k.1.owed) (frames-are s _ (all-filter (IsKnown g before e) (λ x. not (ParkedFrames.is_parked_at p.conn p.number x)) s.parked k.1.frames) k.1));
  closes = λ l s c why k. (W.closes l s c k.0, same _ refl refl refl refl k.1);
}
  where
    W : Rattle.sp_laws.proofs.FlowRules.Flows g Waits
    W = waits_flow g

    answered : (c : ℕ) (q : Request) → Matches number task q → (b : Bool) → Matches number task (if◌then◌else◌ {A = Request} b (record q { stage = Answered c }) q)
    answered c q a true = a
    answered c q a false = a

    counts-one : (id : ℕ) (l : List Owed) (s : State) (n lent : ℕ) (kind : Kind) (m : Message) (peer : Rattle.uuid.specs.declared.Uuid.Uuid) → 1 ≤ flow_sum (call_of id) (Removed peer (Calls n id lent kind m) ∷ l) s
    counts-one id l s n lent kind m peer = let a : count (id == id) ≡ 1 = ap count (Rattle.std.proofs.lemmas.Bool.eq-eqb id id refl) in omega arith

-- what is found to be asked on a connection is out there
found-any : {A : Type 0} (is : A → Bool) (xs : List A) (x : A) → find is xs ≡ Some x → list_any is xs ≡ true
found-any is [] x e = absurd (Rattle.sp_rules.proofs.AllLemmas.some-none x (sym e))
found-any {A} is (y ∷ ys) x e = pick (is y) e (found-any is ys x)
  where
    pick : (b : Bool) → cond b (Some y) (find is ys) ≡ Some x → (find is ys ≡ Some x → list_any is ys ≡ true) → b || list_any is ys ≡ true
    pick true f rest = refl
    pick false f rest = rest f

pub asked-on : (conn n k : ℕ) (rs : List Request) (q : Request) → find (ParkedFrames.is_asked_on conn n) rs ≡ Some q → n ≡ k → IsOutOn conn k rs
asked-on conn n k rs q found eq = subst (λ x. IsOutOn conn x rs) eq (found-any (ParkedFrames.is_asked_on conn n) rs q found)

-- a number that is given now is not the one that was given
other-number : (c k : ℕ) → k ≤ c → count (c + 1 == k) ≡ 0
other-number c k le = pick (c + 1 == k) refl
  where
    pick : (b : Bool) → (c + 1 == k) ≡ b → count b ≡ 0
    pick true e = let q : c + 1 ≡ k = eqb-true (c + 1) k e in absurd (omega arith)
    pick false e = refl

abbrev pub answer-of : Frame → Option Value × ℕ
answer-of (CallFrame target method fuel arguments) = (None, 0)
answer-of (ReturnedFrame value fuel) = (value, fuel)

ends-begin : (g : Setting) (s : State) (e : Event) (number task : ℕ) (t : Living) → s.fresh ≡ [] → number ≤ s.calls_made → Begins (view g s e number task t) s
ends-begin g s e number task t none given = record {
  opens = λ c dialled is k. (B.opens c dialled is k.0, same _ refl refl refl refl k.1);
  parks = λ id n v target method arguments is ready stands k.
      let apart : id ≡ task → ⊥ = not-ready s id v ready (λ x. ending-parks is x) k.1 in (
        B.parks id n v target method arguments is ready stands k.0,
        record {
          requests = k.1.requests;
          fresh = (ap count (is-other id task apart) ∙ sym (other-number s.calls_made number given), tt);
          owed = tt;
          frames = k.1.frames;
          row = other-set s id (LivingTasks.waiting n) (λ u. refl) apart k.1;
        },
      );
  looks = λ peer name is k. (B.looks peer name is k.0, record { requests = k.1.requests; fresh = (sym (other-number s.calls_made number given), tt); owed = tt; frames = k.1.frames; row = k.1.row });
  roots = λ method arguments fuel is. tt;
  unmarshal = λ is. fails-unmarshal g e is;
  connect = λ is. fails-connect g e is;
  marshal = λ is. fails-marshal g e is;
  threw = λ c n class is q found has. (
    ap is_ending is,
    λ k also.
        inl (record { conn = c; thrown = class; out = asked-on c n k s.requests q found (same-number n k q.asked has also); came = subst (λ x. e ≡ Received c (message.Threw x class)) (same-number n k q.asked has also) is; told = refl }),
  );
  spent = λ c n is q found has. (ap is_ending is, λ k also. spends c n is q.asked k (same-number n k q.asked has also) (asked-on c n k s.requests q found (same-number n k q.asked has also)) also);
  finished = λ id n v outcome c m is ready stands origin. tt;
  call_came = λ p target o method passed arguments is there stands may fit names. λ value fuel eq. absurd (true≢false (sym (ap Frames.is_call_frame is) ∙ ap Frames.is_call_frame eq));
  result_came = λ p value fuel is frame there q found fits names. λ v f eq.
      let x : (value, fuel) ≡ (v, f) = ap answer-of (sym frame ∙ eq) in
      inl (p.conn, (asked-on p.conn p.number p.number s.requests q found refl, subst (λ (y : Option Value × ℕ). e ≡ Received p.conn (message.Returned p.number y.1 y.0)) x is));
}
  where
    B : Rattle.sp_laws.proofs.FlowRules.Begins g Waits s e
    B = waits-begin g s e none

    ending-parks : {id k : ℕ} → e ≡ Parked id k → is_ending e ≡ true → ⊥
    ending-parks is x = true≢false (sym x ∙ ap is_ending is)

    is-other : (a b : ℕ) → (a ≡ b → ⊥) → (a == b) ≡ false
    is-other a b apart = pick (a == b) refl
      where
        pick : (x : Bool) → (a == b) ≡ x → x ≡ false
        pick true f = absurd (apart (eqb-true a b f))
        pick false f = refl

    spends : (c n : ℕ) → e ≡ Received c (message.Spent n) → (asked : Asked) (k : ℕ) → n ≡ k → IsOutOn c k s.requests → ParkedFrames.has_number k asked ≡ true → MayEndWith g s e k (Frames.spent_reply g asked)
    spends c n is (Calls number task lent kind m) k eq out also = (c, (out, subst (λ x. e ≡ Received c (message.Spent x)) eq is))
    spends c n is (LooksUp number task name) k eq out also = inr (fails-unmarshal g e (ap is_ending is))
    spends c n is (Tells call group) k eq out also = absurd (true≢false (sym also))

-- ---- as an event begins

none-left : (v w : Asked → ℕ) (rs : List Request) → asked_sum v rs ≡ 0 → asked_sum w rs ≡ 0 → AllOf (λ (q : Request). v q.asked ≡ w q.asked) rs
none-left v w [] a b = tt
none-left v w (q ∷ rs) a b = (omega (arith, a, b), none-left v w rs (omega (arith, a)) (omega (arith, b)))

-- if one counts for both, and nothing more is counted, both are the same of each
only-one : (v w : Asked → ℕ) (is : Request → Bool) (rs : List Request) (q : Request) → find is rs ≡ Some q → v q.asked ≡ 1 → w q.asked ≡ 1 → asked_sum v rs ≤ 1 → asked_sum w rs ≤ 1 → AllOf (λ (p : Request). v p.asked ≡ w p.asked) rs
only-one v w is [] q e a b c d = tt
only-one v w is (p ∷ rs) q e a b c d = pick (is p) e (only-one v w is rs q)
  where
    pick : (x : Bool) → cond x (Some p) (find is rs) ≡ Some q → (find is rs ≡ Some q → v q.asked ≡ 1 → w q.asked ≡ 1 → asked_sum v rs ≤ 1 → asked_sum w rs ≤ 1 → AllOf (λ (p : Request). v p.asked ≡ w p.asked) rs) → AllOf (λ (p : Request). v p.asked ≡ w p.asked) (p ∷ rs)
    pick true f rest =
        let x : v p.asked ≡ 1 = ap (λ (y : Request). v y.asked) (some-same f) ∙ a in
        let y : w p.asked ≡ 1 = ap (λ (y : Request). w y.asked) (some-same f) ∙ b in
        (x ∙ sym y, none-left v w rs (omega (arith, x, c)) (omega (arith, y, d)))
    pick false f rest =
        let i : value_in (λ (y : Request). v y.asked) (find is rs) + total (λ (y : Request). v y.asked) (filter (λ y. not (is y)) rs) ≤ asked_sum v rs = total-find (λ (y : Request). v y.asked) is rs in
        let j : value_in (λ (y : Request). v y.asked) (find is rs) ≡ v q.asked = found-value (λ (y : Request). v y.asked) (find is rs) q f in
        let k : value_in (λ (y : Request). w y.asked) (find is rs) + total (λ (y : Request). w y.asked) (filter (λ y. not (is y)) rs) ≤ asked_sum w rs = total-find (λ (y : Request). w y.asked) is rs in
        let m : value_in (λ (y : Request). w y.asked) (find is rs) ≡ w q.asked = found-value (λ (y : Request). w y.asked) (find is rs) q f in
        (omega (arith, i, j, k, m, a, b, c, d), rest f a b (omega (arith, c)) (omega (arith, d)))

-- frames that are parked are known
pub parked-known : (g : Setting) (s : State) (e : Event) → AllOf (IsKnown g s e) s.parked
parked-known g s e = all s.parked (λ number value fuel x. x)
  where
    all : (ps : List ParkedFrame) → ((number : ℕ) (value : Option Value) (fuel : ℕ) → IsParkedIn number value fuel ps → IsParkedIn number value fuel s.parked) → AllOf (IsKnown g s e) ps
    all [] there = tt
    all (p ∷ ps) there = ((λ value fuel eq. inr (there p.number value fuel (inl (refl, eq)))), all ps (λ number value fuel x. there number value fuel (inr x)))

pub calls_end_as_named : CallsEndAsNamed
calls_end_as_named g h e number task lent kind m q t found asked lives = by (Space.state_of g h) (waits-of g h) (no-fresh g h) found lives
  where
    by : (s : State) → Waits [] s → s.fresh ≡ [] → find (λ (p : Request). ParkedFrames.has_number number p.asked) s.requests ≡ Some q → task_at s task ≡ Some t → (u : Living) × ((task_at (Space.on g e s).0 task ≡ Some u) × WaitsOrEnds g s e number t u)
    by s w none found lives =
        let one : one_of number q.asked ≡ 1 = ap count (found-is (λ (p : Request). ParkedFrames.has_number number p.asked) s.requests q found) in
        let call : call_of task q.asked ≡ 1 = ap (call_of task) asked ∙ ap count (Rattle.std.proofs.lemmas.Bool.eq-eqb task task refl) in
        let a : flow_sum (call_of task) [] s ≡ count t.waits = w.tasks task ∙ ap waits_in lives in
        let b : flow_sum (one_of number) [] s ≤ count (nat_le number s.calls_made) = w.numbers number in
        let c : value_in (λ (y : Request). call_of task y.asked) (find (λ (p : Request). ParkedFrames.has_number number p.asked) s.requests) + total (λ (y : Request). call_of task y.asked) (filter (λ (p : Request). not (ParkedFrames.has_number number p.asked)) s.requests) ≤ asked_sum (call_of task) s.requests = total-find (λ (y : Request). call_of task y.asked) (λ (p : Request). ParkedFrames.has_number number p.asked) s.requests in
        let d : value_in (λ (y : Request). call_of task y.asked) (find (λ (p : Request). ParkedFrames.has_number number p.asked) s.requests) ≡ call_of task q.asked = found-value (λ (y : Request). call_of task y.asked) (find (λ (p : Request). ParkedFrames.has_number number p.asked) s.requests) q found in
        let i : value_in (λ (y : Request). one_of number y.asked) (find (λ (p : Request). ParkedFrames.has_number number p.asked) s.requests) + total (λ (y : Request). one_of number y.asked) (filter (λ (p : Request). not (ParkedFrames.has_number number p.asked)) s.requests) ≤ asked_sum (one_of number) s.requests = total-find (λ (y : Request). one_of number y.asked) (λ (p : Request). ParkedFrames.has_number number p.asked) s.requests in
        let j : value_in (λ (y : Request). one_of number y.asked) (find (λ (p : Request). ParkedFrames.has_number number p.asked) s.requests) ≡ one_of number q.asked = found-value (λ (y : Request). one_of number y.asked) (find (λ (p : Request). ParkedFrames.has_number number p.asked) s.requests) q found in
        let f : count t.waits ≤ 1 = small t.waits in
        let n : count (nat_le number s.calls_made) ≤ 1 = small (nat_le number s.calls_made) in
        let waits : t.waits ≡ true = is-one t.waits (omega (arith, call, a, c, d)) in
        let given : number ≤ s.calls_made = leb-true number s.calls_made (is-one (nat_le number s.calls_made) (omega (arith, one, b, i, j))) in
        let x = on_flow (ends_flow g s e number task t) s (ends-begin g s e number task t none given) (
          w,
          record {
            requests = only-one (call_of task) (one_of number) (λ (p : Request). ParkedFrames.has_number number p.asked) s.requests q found call one (omega (arith, a, f)) (omega (arith, b, n));
            fresh = subst (AllOf (Matches number task)) (sym none) tt;
            owed = tt;
            frames = parked-known g s e;
            row = (t, (lives, inl (record { waits = waits; given = refl; steps = refl })));
          },
        ) in
        (x.1.row.0, (x.1.row.1.0, named x.1.row.1.1))
      where
        small : (b : Bool) → count b ≤ 1
        small true = omega arith
        small false = omega arith

        is-one : (b : Bool) → 1 ≤ count b → b ≡ true
        is-one true le = refl
        is-one false le = absurd (omega (arith, le))

        named : {u : Living} → Stands g s e number t u → WaitsOrEnds g s e number t u
        named (inl y) = inl y
        named (inr y) = inr y.1
