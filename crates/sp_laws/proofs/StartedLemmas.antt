-- A call that came starts one task at most, through every event.
use mathlib.Core.Path.{sym, ap, subst, ◌∙◌}
use Rattle.std.proofs.Common.{arith, inl, inr}
use Rattle.std.proofs.lemmas.Bool.{true≢false, eqb-true, leb-true, leb-false, le-leb, eq-eqb}
use Rattle.std.specs.Prelude.{◌≡◌, ◌⊎◌, refl, ℕ, ◌+◌, ◌≤◌, ◌<◌, ◌==◌, ◌&&◌, not, nat_le, cond, Bool, true, false, List, [], ◌∷◌, ◌++◌, Option, None, Some, filter, find}
use Rattle.sp_rules.specs.Classes.{Setting}
use Rattle.sp_rules.specs.Events.{Event}
use Rattle.sp_rules.specs.Frames
use Rattle.sp_rules.specs.Laws.{AllOf}
use Rattle.sp_rules.specs.Lists.{at_first, total}
use Rattle.sp_rules.specs.LivingTasks
use Rattle.sp_rules.specs.ParkedFrames
use Rattle.sp_rules.specs.Space
use Rattle.sp_rules.specs.State.{State, Living, Origin, OfRoot, OfCall, Connection, ParkedFrame, connection_at}
use Rattle.sp_rules.specs.Worlds.{run, new_world}
use Rattle.sp_rules.proofs.AllLemmas.{some-none, found-is, all-with, all-weaken}
use Rattle.sp_rules.proofs.FuelSums.{total-snoc, total-filter, total-find, value_in, found-value}
use Rattle.sp_rules.proofs.Stable.{new_row}
use Rattle.sp_laws.specs.Inbound.{from_origin, from_parked, occurrences_of, opens, opened, OpensOnce}
use Rattle.sp_laws.specs.Others.{IsOpenedOnce}
use Rattle.sp_laws.specs.Waiting.{count}
use Rattle.sp_laws.proofs.FlowRules.{Inbound, removed, of_origin, of_until, IsSameRow}
use Rattle.sp_laws.proofs.InboundLemmas.{owed_of, limit, removed-none, origin-owed, until-owed, first-same, same-limit, counted-row, other-row, closed-row, open-row, more-row, call-weight, result-weight, came-of, CameOnce}
use Rattle.sp_laws.proofs.OnceRules.{connections_are_opened_once}
use Rattle.sp_laws.proofs.WaitLemmas.{changed-at, changed-other, gone-other, different}
use Rattle.sp_laws.specs.Started.{IsStartedBy, CallsStartOneTask, HasStartedOnce, CallsStartOneTaskInWorlds}
use Rattle.sp_laws.proofs.EventRules.{View, Flows, Begins, EventParts, is_finish, on_flow}

-- ---- what is kept

abbrev started_in : ℕ → ℕ → List Living → ℕ
started_in conn k ts = total (λ (t : Living). from_origin conn k t.origin) ts

abbrev Lives : ℕ → ℕ → ℕ → List Living → Type 0
Lives conn k i ts = (t : Living) × ((find (λ (u : Living). u.id == i) ts ≡ Some t) × (t.origin ≡ OfCall conn k))

-- The call started the task of this id, and no other; it is parked nowhere, and under way at most as a task ends; and its number is not
-- above the last of its connection, if that is open.
record Started (conn k i : ℕ) (finish : Bool) (under_way : ℕ) (ts : List Living) (ps : List ParkedFrame) (cs : List Connection) : Type 0 where
  tasks : (started_in conn k ts ≡ 0) ⊎ ((started_in conn k ts ≡ 1) × Lives conn k i ts)
  parked : total (from_parked conn k) ps ≡ 0
  owed : finish ≡ false → under_way ≡ 0
  passed : limit 1 k (find (λ (d : Connection). d.number == conn) cs) ≡ 1

lower : {conn k i : ℕ} {f : Bool} {o m : ℕ} {ts : List Living} {ps : List ParkedFrame} {cs : List Connection} → m ≤ o → Started conn k i f o ts ps cs → Started conn k i f m ts ps cs
lower {o = o} le h = record { tasks = h.tasks; parked = h.parked; owed = λ e. let a : o ≡ 0 = h.owed e in omega arith; passed = h.passed }

-- ---- tasks

pub find-more : (is : Living → Bool) (ts : List Living) (row t : Living) → find is ts ≡ Some t → find is (ts ++ row ∷ []) ≡ Some t
find-more is [] row t e = absurd (some-none t (sym e))
find-more is (u ∷ ts) row t e = pick (is u) e (find-more is ts row t)
  where
    pick : (b : Bool) → cond b (Some u) (find is ts) ≡ Some t → (find is ts ≡ Some t → find is (ts ++ row ∷ []) ≡ Some t) → cond b (Some u) (find is (ts ++ row ∷ [])) ≡ Some t
    pick true f rest = f
    pick false f rest = rest f

tasks-more : {conn k i : ℕ} {f : Bool} {o : ℕ} {ts : List Living} {ps : List ParkedFrame} {cs : List Connection} (row : Living) → from_origin conn k row.origin ≡ 0 → Started conn k i f o ts ps cs → Started conn k i f o (ts ++ row ∷ []) ps cs
tasks-more {conn} {k} {i} {ts = ts} row none h = record { tasks = by h.tasks; parked = h.parked; owed = h.owed; passed = h.passed }
  where
    sum : started_in conn k (ts ++ row ∷ []) ≡ started_in conn k ts + from_origin conn k row.origin
    sum = total-snoc (λ (t : Living). from_origin conn k t.origin) ts row

    by : (started_in conn k ts ≡ 0) ⊎ ((started_in conn k ts ≡ 1) × Lives conn k i ts) → (started_in conn k (ts ++ row ∷ []) ≡ 0) ⊎ ((started_in conn k (ts ++ row ∷ []) ≡ 1) × Lives conn k i (ts ++ row ∷ []))
    by (inl e) = inl (omega (arith, sum, none, e))
    by (inr x) = inr (omega (arith, sum, none, x.0), (x.1.0, (find-more (λ (u : Living). u.id == i) ts row x.1.0 x.1.1.0, x.1.1.1)))

tasks-set : {conn k i : ℕ} {f : Bool} {o : ℕ} {ts : List Living} {ps : List ParkedFrame} {cs : List Connection} (id : ℕ) (set : Living → Living) → IsSameRow set → Started conn k i f o ts ps cs → Started conn k i f o (at_first (λ (u : Living). u.id == id) set ts) ps cs
tasks-set {conn} {k} {i} {ts = ts} id set row h = record { tasks = by h.tasks; parked = h.parked; owed = h.owed; passed = h.passed }
  where
    after : List Living
    after = at_first (λ (u : Living). u.id == id) set ts

    sum : started_in conn k after ≡ started_in conn k ts
    sum = first-same (λ (u : Living). from_origin conn k u.origin) (λ (u : Living). u.id == id) set ts (λ u. ap (from_origin conn k) (row.origin u))

    lives : Lives conn k i ts → (b : Bool) → (id == i) ≡ b → Lives conn k i after
    lives x true e = (set x.0, (subst (λ n. find (λ (u : Living). u.id == n) after ≡ Some (set x.0)) (eqb-true id i e) (changed-at set row.id id ts x.0 (subst (λ n. find (λ (u : Living). u.id == n) ts ≡ Some x.0) (sym (eqb-true id i e)) x.1.0)), row.origin x.0 ∙ x.1.1))
    lives x false e = (x.0, (changed-other set row.id id i (different id i e) ts ∙ x.1.0, x.1.1))

    by : (started_in conn k ts ≡ 0) ⊎ ((started_in conn k ts ≡ 1) × Lives conn k i ts) → (started_in conn k after ≡ 0) ⊎ ((started_in conn k after ≡ 1) × Lives conn k i after)
    by (inl e) = inl (sum ∙ e)
    by (inr x) = inr (sum ∙ x.0, lives x.1 (id == i) refl)

own-origin : (conn k : ℕ) → from_origin conn k (OfCall conn k) ≡ 1
own-origin conn k = ap (λ b. count (b && k == k)) (eq-eqb conn conn refl) ∙ ap count (eq-eqb k k refl)

-- the task that was started counts
lives-counts : (conn k i : ℕ) (ts : List Living) → Lives conn k i ts → 1 ≤ started_in conn k ts
lives-counts conn k i ts x =
    let a : value_in (λ (u : Living). from_origin conn k u.origin) (find (λ (u : Living). u.id == i) ts) + started_in conn k (filter (λ (u : Living). not (u.id == i)) ts) ≤ started_in conn k ts = total-find (λ (u : Living). from_origin conn k u.origin) (λ (u : Living). u.id == i) ts in
    let b : value_in (λ (u : Living). from_origin conn k u.origin) (find (λ (u : Living). u.id == i) ts) ≡ from_origin conn k x.0.origin = found-value (λ (u : Living). from_origin conn k u.origin) (find (λ (u : Living). u.id == i) ts) x.0 x.1.0 in
    let c : from_origin conn k x.0.origin ≡ 1 = ap (from_origin conn k) x.1.1 ∙ own-origin conn k in omega arith

tasks-gone : {conn k i : ℕ} {f : Bool} {o m : ℕ} {ts : List Living} {ps : List ParkedFrame} {cs : List Connection} (id : ℕ) → f ≡ true → Started conn k i f o ts ps cs → Started conn k i f m (filter (λ (u : Living). not (u.id == id)) ts) ps cs
tasks-gone {conn} {k} {i} {ts = ts} id over h = record { tasks = by h.tasks; parked = h.parked; owed = λ e. absurd (true≢false (sym over ∙ e)); passed = h.passed }
  where
    after : List Living
    after = filter (λ (u : Living). not (u.id == id)) ts

    less : started_in conn k after ≤ started_in conn k ts
    less = total-filter (λ (u : Living). from_origin conn k u.origin) (λ (u : Living). not (u.id == id)) ts

    gone : started_in conn k ts ≡ 1 → Lives conn k i ts → (b : Bool) → (id == i) ≡ b → (started_in conn k after ≡ 0) ⊎ ((started_in conn k after ≡ 1) × Lives conn k i after)
    gone one x true e = inl (subst (λ n. started_in conn k (filter (λ (u : Living). not (u.id == n)) ts) ≡ 0) (sym (eqb-true id i e)) none)
      where
        none : started_in conn k (filter (λ (u : Living). not (u.id == i)) ts) ≡ 0
        none =
            let a : value_in (λ (u : Living). from_origin conn k u.origin) (find (λ (u : Living). u.id == i) ts) + started_in conn k (filter (λ (u : Living). not (u.id == i)) ts) ≤ started_in conn k ts = total-find (λ (u : Living). from_origin conn k u.origin) (λ (u : Living). u.id == i) ts in
            let b : value_in (λ (u : Living). from_origin conn k u.origin) (find (λ (u : Living). u.id == i) ts) ≡ from_origin conn k x.0.origin = found-value (λ (u : Living). from_origin conn k u.origin) (find (λ (u : Living). u.id == i) ts) x.0 x.1.0 in
            let c : from_origin conn k x.0.origin ≡ 1 = ap (from_origin conn k) x.1.1 ∙ own-origin conn k in omega (arith, one)
    gone one x false e =
        let y : Lives conn k i after = (x.0, (gone-other id i (different id i e) ts ∙ x.1.0, x.1.1)) in
        inr (omega (arith, one, less, lives-counts conn k i after y), y)

    by : (started_in conn k ts ≡ 0) ⊎ ((started_in conn k ts ≡ 1) × Lives conn k i ts) → (started_in conn k after ≡ 0) ⊎ ((started_in conn k after ≡ 1) × Lives conn k i after)
    by (inl e) = inl (omega (arith, less, e))
    by (inr x) = gone x.0 x.1 (id == i) refl

-- ---- frames and connections

frames-more : {conn k i : ℕ} {f : Bool} {o : ℕ} {ts : List Living} {ps : List ParkedFrame} {cs : List Connection} (p : ParkedFrame) → from_parked conn k p ≡ 0 → Started conn k i f o ts ps cs → Started conn k i f o ts (ps ++ p ∷ []) cs
frames-more {conn} {k} {ps = ps} p none h = record {
  tasks = h.tasks;
  parked = let a : total (from_parked conn k) (ps ++ p ∷ []) ≡ total (from_parked conn k) ps + from_parked conn k p = total-snoc (from_parked conn k) ps p in let b : total (from_parked conn k) ps ≡ 0 = h.parked in omega (arith, none);
  owed = h.owed;
  passed = h.passed;
}

frames-gone : {conn k i : ℕ} {f : Bool} {o : ℕ} {ts : List Living} {ps : List ParkedFrame} {cs : List Connection} (is : ParkedFrame → Bool) → Started conn k i f o ts ps cs → Started conn k i f o ts (filter is ps) cs
frames-gone {conn} {k} {ps = ps} is h = record {
  tasks = h.tasks;
  parked = let a : total (from_parked conn k) (filter is ps) ≤ total (from_parked conn k) ps = total-filter (from_parked conn k) is ps in let b : total (from_parked conn k) ps ≡ 0 = h.parked in omega arith;
  owed = h.owed;
  passed = h.passed;
}

-- a parked call that is found is another one
other-call : {conn k i : ℕ} {f : Bool} {o : ℕ} {ts : List Living} {ps : List ParkedFrame} {cs : List Connection} (is : ParkedFrame → Bool) (q : ParkedFrame) → find is ps ≡ Some q → Frames.is_call_frame q.frame ≡ true → Started conn k i f o ts ps cs → count (q.conn == conn && q.number == k) ≡ 0
other-call {conn} {k} {ps = ps} is q found call h =
    let a : value_in (from_parked conn k) (find is ps) + total (from_parked conn k) (filter (λ p. not (is p)) ps) ≤ total (from_parked conn k) ps = total-find (from_parked conn k) is ps in
    let b : value_in (from_parked conn k) (find is ps) ≡ from_parked conn k q = found-value (from_parked conn k) (find is ps) q found in
    let c : from_parked conn k q ≡ count (q.conn == conn && q.number == k) = call-weight conn k q call in
    let d : total (from_parked conn k) ps ≡ 0 = h.parked in omega arith

rows : {conn k i : ℕ} {f : Bool} {o : ℕ} {ts : List Living} {ps : List ParkedFrame} {cs : List Connection} (ds : List Connection) → limit 1 k (find (λ (d : Connection). d.number == conn) ds) ≡ 1 → Started conn k i f o ts ps cs → Started conn k i f o ts ps ds
rows ds passed h = record { tasks = h.tasks; parked = h.parked; owed = h.owed; passed = passed }

is-one : (b : Bool) → count b ≡ 1 → b ≡ true
is-one true e = refl
is-one false e = absurd (omega (arith, e))

closed-passes : (conn k at : ℕ) (cs : List Connection) → limit 1 k (find (λ (d : Connection). d.number == conn) cs) ≡ 1 → limit 1 k (find (λ (d : Connection). d.number == conn) (filter (λ (d : Connection). not (d.number == at)) cs)) ≡ 1
closed-passes conn k at cs passed = by (at == conn) refl
  where
    by : (b : Bool) → (at == conn) ≡ b → limit 1 k (find (λ (d : Connection). d.number == conn) (filter (λ (d : Connection). not (d.number == at)) cs)) ≡ 1
    by true e = ap (limit 1 k) (subst (λ n. find (λ (d : Connection). d.number == conn) (filter (λ (d : Connection). not (d.number == n)) cs) ≡ None) (sym (eqb-true at conn e)) (closed-row conn cs))
    by false e = ap (limit 1 k) (open-row conn at (different at conn e) cs) ∙ passed

abbrev numbered : ℕ → Connection → Connection
numbered number d = record d { last = number }

-- one more call is counted, of another number
counted-passes : (conn k at number : ℕ) (cs : List Connection) (c : Connection) → find (λ (d : Connection). d.number == at) cs ≡ Some c → nat_le number c.last ≡ false → limit 1 k (find (λ (d : Connection). d.number == conn) cs) ≡ 1
    → (limit 1 k (find (λ (d : Connection). d.number == conn) (at_first (λ (d : Connection). d.number == at) (numbered number) cs)) ≡ 1) × (count (at == conn && number == k) ≡ 0)
counted-passes conn k at number cs c is low passed = by (at == conn) refl
  where
    by : (b : Bool) → (at == conn) ≡ b → (limit 1 k (find (λ (d : Connection). d.number == conn) (at_first (λ (d : Connection). d.number == at) (numbered number) cs)) ≡ 1) × (count (at == conn && number == k) ≡ 0)
    by false e = (ap (limit 1 k) (other-row conn at (different at conn e) (numbered number) (λ d. refl) cs) ∙ passed, ap (λ b. count (b && number == k)) e)
    by true e =
        let q : at ≡ conn = eqb-true at conn e in
        let was : find (λ (d : Connection). d.number == conn) cs ≡ Some c = subst (λ n. find (λ (d : Connection). d.number == n) cs ≡ Some c) q is in
        let now : find (λ (d : Connection). d.number == conn) (at_first (λ (d : Connection). d.number == at) (numbered number) cs) ≡ Some (numbered number c) = subst (λ n. find (λ (d : Connection). d.number == conn) (at_first (λ (d : Connection). d.number == n) (numbered number) cs) ≡ Some (numbered number c)) (sym q) (counted-row conn (numbered number) (λ d. refl) cs c was) in
        let b : k ≤ c.last = leb-true k c.last (is-one (nat_le k c.last) (sym (ap (limit 1 k) was) ∙ passed)) in
        let v : c.last < number = leb-false number c.last low in
        (ap (limit 1 k) now ∙ ap count (le-leb k number (omega arith)), ap (λ y. count (y && number == k)) e ∙ differs (number == k) refl b v)
      where
        differs : (y : Bool) → (number == k) ≡ y → k ≤ c.last → c.last < number → count y ≡ 0
        differs true f b v = let a : number ≡ k = eqb-true number k f in absurd (omega arith)
        differs false f b v = refl

-- ---- through the rules

abbrev view : Setting → Event → ℕ → ℕ → ℕ → View
view g e conn k i = record {
  setting = g;
  event = e;
  Dialled = λ c d. Unit {0};
  Answers = λ c m. Unit {0};
  Known = λ p. Unit {0};
  Fails = λ c. Unit {0};
  Ends = λ a r. Unit {0};
  Starts = λ o n a. Unit {0};
  Speaks = λ c version. Unit {0};
  Fits = λ c ids. Unit {0};
  Keeps = λ l s. Started conn k i (is_finish e) (owed_of conn k l) s.tasks s.parked s.connections;
}

all-unit : {A : Type 0} (xs : List A) → AllOf (λ (x : A). Unit {0}) xs
all-unit [] = tt
all-unit (x ∷ xs) = (tt, all-unit xs)

all-from : (g : Setting) (e : Event) (conn k i : ℕ) (ts : List Living) → AllOf (λ (t : Living). Rattle.sp_laws.proofs.EventRules.IsFrom (view g e conn k i) t.origin) ts
all-from g e conn k i [] = tt
all-from g e conn k i (t ∷ ts) = (one t.origin, all-from g e conn k i ts)
  where
    one : (o : Origin) → Rattle.sp_laws.proofs.EventRules.IsFrom (view g e conn k i) o
    one OfRoot = tt
    one (OfCall c n) = tt

started_flow : (g : Setting) (e : Event) (conn k i : ℕ) → Flows (view g e conn k i)
started_flow g e conn k i = record {
  known = λ l s h. all-unit s.parked;
  dialled = λ l s h. all-unit s.connections;
  origins = λ l s h. all-from g e conn k i s.tasks;
  sided = λ p a. tt;
  fails = λ asked class a. tt;
  starts = λ l s p target method fuel arguments o n going k known is stands finds. tt;
  gives = λ p value fuel asked is a b c. tt;
  refuses = λ c n class is. tt;
  finds = λ c n name r is own. tt;
  speaks = λ c version. tt;
  fits = λ c ids. tt;
  quiet = λ l s t eq h. subst (λ (c : EventParts). Started conn k i (is_finish e) (owed_of conn k l) c.tasks c.parked c.connections) (sym eq) h;
  says = λ l s output is so h. h;
  sends = λ l s turn c m may held h. h;
  clears = λ s h. h;
  stores = λ l s store is k. k;
  adds = λ l s q h. lower (omega arith) h;
  calls_out = λ l s turn c peer number task lent kind m there h. lower (omega arith) h;
  looks_out = λ l s turn c peer number task name there h. lower (omega arith) h;
  tells = λ l s q call group eq h. h;
  told = λ l s peer call group h. lower (omega arith) h;
  unfresh = λ l s h. lower (let a : owed_of conn k (removed s.fresh ++ l) ≡ owed_of conn k l = removed-none conn k s.fresh l in omega arith) h;
  removes = λ l s is h. lower (let a : owed_of conn k (removed (filter is s.requests) ++ l) ≡ owed_of conn k l = removed-none conn k (filter is s.requests) l in omega arith) h;
  sorts = λ l s is rs h. lower (
      let a : owed_of conn k (removed rs ++ l) ≡ owed_of conn k l = removed-none conn k rs l in
      let b : owed_of conn k (removed (filter (λ q. not (is q)) rs) ++ (removed (filter is rs) ++ l)) ≡ owed_of conn k (removed (filter is rs) ++ l) = removed-none conn k (filter (λ q. not (is q)) rs) (removed (filter is rs) ++ l) in
      let c : owed_of conn k (removed (filter is rs) ++ l) ≡ owed_of conn k l = removed-none conn k (filter is rs) l in omega arith) h;
  removes_one = λ l s finds is n q eq passes has h. lower (omega arith) h;
  removes_told = λ l s dirty c sequence h. h;
  answers = λ l s c n h. h;
  begins = λ l s origin method arguments fuel going at h.
      let a : owed_of conn k (of_origin origin ++ l) ≡ from_origin conn k origin + owed_of conn k l = origin-owed conn k origin l in
      let b : owed_of conn k (of_origin origin ++ l) ≡ 0 = h.owed going in
      tasks-more (new_row g origin method arguments fuel s) (omega (arith, a, b)) (lower (omega (arith, a)) h);
  ends = λ l s id t over is h. tasks-gone id over h;
  replies = λ l s peer number task lent kind m reply t may is h. tasks-set task (LivingTasks.after_reply g reply) (record { id = λ u. refl; origin = λ u. refl }) (lower (omega arith) h);
  replies_none = λ l s peer number task lent kind m is h. lower (omega arith) h;
  looked_up = λ l s peer number task name reply may h. lower (omega arith) h;
  works = λ l s id t f lent row ready is h. tasks-set id f row h;
  keeps = λ l s until value h. lower (let a : owed_of conn k (of_until until ++ l) ≡ Rattle.sp_laws.specs.Inbound.from_until conn k until + owed_of conn k l = until-owed conn k until l in omega arith) h;
  results_go = λ l s is goes h. h;
  falls = λ l s c n h. lower (omega arith) h;
  row = λ l s at f num last dialled h. rows _ (same-limit 1 k conn at f num last s.connections ∙ h.passed) h;
  counts = λ l s at number c there is low h.
      let x = counted-passes conn k at number s.connections c is low h.passed in
      rows _ x.0 (lower (omega (arith, x.1)) h);
  parks_call = λ l s p going known is h.
      let a : owed_of conn k (Inbound p.conn p.number ∷ l) ≡ 0 = h.owed going in
      let b : from_parked conn k p ≡ count (p.conn == conn && p.number == k) = call-weight conn k p is in
      frames-more p (omega arith) (lower (omega arith) h);
  parks_result = λ l s p known is h. frames-more p (result-weight conn k p is) h;
  takes = λ l s p h. frames-gone (λ q. not (ParkedFrames.is_parked_at p.conn p.number q)) h;
  takes_call = λ l s p q is call h.
      let a : count (q.conn == conn && q.number == k) ≡ 0 = other-call (ParkedFrames.is_parked_at p.conn p.number) q is call h in
      frames-gone (λ x. not (ParkedFrames.is_parked_at p.conn p.number x)) (lower (omega arith) h);
  closes = λ l s at why h. rows _ (closed-passes conn k at s.connections h.passed) h;
}

started-begin : (g : Setting) (s : State) (conn k i : ℕ) (e : Event) → opens conn e ≡ false → Begins (view g e conn k i) s
started-begin g s conn k i e old = record {
  opens = λ c dialled is h. rows _ (ap (limit 1 k) (more-row conn (record { number = c; dialled = dialled; peer = None; version = 1; last = 0; sent = [] }) (sym (ap (opens conn) is) ∙ old) s.connections) ∙ h.passed) h;
  parks = λ id n t target method arguments is ready stands h. tasks-set id (LivingTasks.waiting n) (record { id = λ u. refl; origin = λ u. refl }) h;
  looks = λ peer name is h. h;
  roots = λ method arguments fuel is. tt;
  unmarshal = λ is. tt;
  connect = λ is. tt;
  marshal = λ is. tt;
  threw = λ c n class is q found has. tt;
  spent = λ c n is q found has. tt;
  finished = λ id n t outcome c m is ready stands origin. tt;
  call_came = λ p target o method passed arguments is there stands may fit names. tt;
  result_came = λ p value fuel is frame there q found fits names. tt;
}

-- ---- through histories

abbrev After : Setting → ℕ → ℕ → ℕ → List Event → Type 0
After g conn k i h = Started conn k i true 0 (Space.state_of g h).tasks (Space.state_of g h).parked (Space.state_of g h).connections

-- what is under way at the end of an event says nothing of the next one
between : {conn k i : ℕ} {f b : Bool} {ts : List Living} {ps : List ParkedFrame} {cs : List Connection} → Started conn k i f 0 ts ps cs → Started conn k i b 0 ts ps cs
between h = record { tasks = h.tasks; parked = h.parked; owed = λ e. refl; passed = h.passed }

later-started : (g : Setting) (conn k i : ℕ) (h more : List Event) → opened conn h ≡ true → OpensOnce (more ++ h) → After g conn k i h → After g conn k i (more ++ h)
unfolding Space.state_of
later-started g conn k i h [] was once x = x
later-started g conn k i h (e ∷ more) was once x =
    between (on_flow (started_flow g e conn k i) (Space.state_of g (more ++ h)) (started-begin g (Space.state_of g (more ++ h)) conn k i e (old (opens conn e) refl)) (between (later-started g conn k i h more was once.1 x)))
  where
    still : (es : List Event) → opened conn (es ++ h) ≡ true
    still [] = was
    still (d ∷ es) = Rattle.sp_rules.proofs.AllLemmas.or-right (opens conn d) (opened conn (es ++ h)) (still es)

    old : (b : Bool) → opens conn e ≡ b → b ≡ false
    old true o = absurd (true≢false (sym (still more) ∙ once.0 conn o))
    old false o = refl

-- a task that a call started is the one that it started
first-started : (g : Setting) (conn k i : ℕ) (h : List Event) → OpensOnce h → IsStartedBy conn k i (Space.state_of g h) → (opened conn h ≡ true) × After g conn k i h
first-started g conn k i h once x = by (came-of g h conn k once)
  where
    s : State
    s = Space.state_of g h

    lives : Lives conn k i s.tasks
    lives = (x.task, (x.lives, x.origin))

    counted : 1 ≤ started_in conn k s.tasks
    counted = lives-counts conn k i s.tasks lives

    small : (b : Bool) → count b ≤ 1
    small true = omega arith
    small false = omega arith

    up : (o : ℕ) → o ≤ 1 → (c : Option Connection) → limit o k c ≤ limit 1 k c
    up o le None = le
    up o le (Some c) = omega arith

    most : (o : ℕ) → o ≤ 1 → (c : Option Connection) → limit o k c ≤ 1
    most o le None = le
    most o le (Some c) = small (nat_le k c.last)

    is-opened : (b : Bool) → opened conn h ≡ b → CameOnce conn k (count b) [] s → b ≡ true
    is-opened true e came = refl
    is-opened false e came = absurd (none (connection_at s conn) came.live came.bound)
      where
        none : (c : Option Connection) → count (Rattle.std.specs.Prelude.is_some c) ≤ 0 → occurrences_of conn k s + 0 ≤ limit 0 k c → ⊥
        none None live bound = omega (arith, bound, counted)
        none (Some c) live bound = omega (arith, live)

    by : CameOnce conn k (count (opened conn h)) [] s → (opened conn h ≡ true) × After g conn k i h
    by came =
        let bound : occurrences_of conn k s + 0 ≤ limit (count (opened conn h)) k (connection_at s conn) = came.bound in
        let a : limit (count (opened conn h)) k (connection_at s conn) ≤ limit 1 k (connection_at s conn) = up (count (opened conn h)) (small (opened conn h)) (connection_at s conn) in
        let b : limit 1 k (connection_at s conn) ≤ 1 = most 1 (omega arith) (connection_at s conn) in (
          is-opened (opened conn h) refl came,
          record {
            tasks = inr (omega (arith, counted, bound, a, b), lives);
            parked = omega (arith, counted, bound, a, b);
            owed = λ e. refl;
            passed = omega (arith, counted, bound, a, b);
          },
        )

pub calls_start_one_task : CallsStartOneTask
calls_start_one_task g h more once conn k i j x y =
    let first = first-started g conn k i h (shorter more once) x in
    by (later-started g conn k i h more first.0 once first.1).tasks
  where
    shorter : (es : List Event) → OpensOnce (es ++ h) → OpensOnce h
    shorter [] o = o
    shorter (e ∷ es) o = shorter es o.1

    later : List Living
    later = (Space.state_of g (more ++ h)).tasks

    lives : Lives conn k j later
    lives = (y.task, (y.lives, y.origin))

    same : started_in conn k later ≡ 1 → Lives conn k i later → (b : Bool) → (i == j) ≡ b → i ≡ j
    same one z true e = eqb-true i j e
    same one z false e = absurd (two (lives-counts conn k j (filter (λ (u : Living). not (u.id == i)) later) (y.task, (gone-other i j (different i j e) later ∙ y.lives, y.origin))))
      where
        two : 1 ≤ started_in conn k (filter (λ (u : Living). not (u.id == i)) later) → ⊥
        two c =
            let a : value_in (λ (u : Living). from_origin conn k u.origin) (find (λ (u : Living). u.id == i) later) + started_in conn k (filter (λ (u : Living). not (u.id == i)) later) ≤ started_in conn k later = total-find (λ (u : Living). from_origin conn k u.origin) (λ (u : Living). u.id == i) later in
            let b : value_in (λ (u : Living). from_origin conn k u.origin) (find (λ (u : Living). u.id == i) later) ≡ from_origin conn k z.0.origin = found-value (λ (u : Living). from_origin conn k u.origin) (find (λ (u : Living). u.id == i) later) z.0 z.1.0 in
            let d : from_origin conn k z.0.origin ≡ 1 = ap (from_origin conn k) z.1.1 ∙ own-origin conn k in omega (arith, one, c)

    by : (started_in conn k later ≡ 0) ⊎ ((started_in conn k later ≡ 1) × Lives conn k i later) → i ≡ j
    by (inl e) = absurd (omega (arith, e, lives-counts conn k j later lives))
    by (inr z) = same z.0 z.1 (i == j) refl

pub calls_start_one_task_in_worlds : CallsStartOneTaskInWorlds
calls_start_one_task_in_worlds settings events = all-weaken IsOpenedOnce HasStartedOnce (run (new_world settings) events).spaces
    (λ s o h more e. calls_start_one_task s.setting h more (subst OpensOnce (sym e) o.0)) (connections_are_opened_once settings events).spaces
