-- An id is of one lookup or of one task at most, at all moments.
use mathlib.Core.Path.{sym, ap, subst, ◌∙◌}
use Rattle.std.proofs.Common.{arith, inl, inr}
use Rattle.std.proofs.lemmas.Bool.{true≢false, eqb-true, eq-eqb, leb-true, leb-false}
use Rattle.std.specs.Prelude.{◌≡◌, refl, ℕ, ◌+◌, ◌≤◌, ◌<◌, ◌==◌, not, nat_le, cond, Bool, true, false, List, [], ◌∷◌, ◌++◌, Option, None, Some, filter, find, map, if◌then◌else◌}
use Rattle.sp_rules.specs.Classes.{Setting}
use Rattle.sp_rules.specs.Events.{Event}
use Rattle.sp_rules.specs.Frames
use Rattle.sp_rules.specs.Lists.{at_first, total}
use Rattle.sp_rules.specs.LivingTasks
use Rattle.sp_rules.specs.Requests
use Rattle.sp_rules.specs.Space
use Rattle.sp_rules.specs.State.{State, Living, Request, Asked, Calls, LooksUp, Tells, opening, task_at}
use Rattle.sp_rules.proofs.AllLemmas.{some-none, found-is}
use Rattle.sp_rules.proofs.FuelSums.{total-snoc, total-filter, total-find, found-value, value_in}
use Rattle.sp_rules.proofs.OwnLemmas.{some-same}
use Rattle.sp_rules.proofs.Stable.{new_row}
use Rattle.sp_laws.specs.Waiting.{count}
use Rattle.sp_laws.proofs.FlowRules.{Owed, Removed, removed, of_origin, of_until, Flows, Begins, FlowParts, on_flow}
use Rattle.sp_laws.proofs.WaitLemmas.{asked_sum, owed_sum, flow_sum, adds-sum, unfresh-sum, removes-sum, sorts-sum, answers-sum, owed-origin, owed-until}
use Rattle.sp_laws.specs.LookupEnds.{IsAmong}
use Rattle.sp_laws.specs.Ends.{IsOfNoTask}

-- ---- what is counted

-- one for a lookup of this id
abbrev looks_of : ℕ → Asked → ℕ
looks_of id (Calls number task lent kind m) = 0
looks_of id (LooksUp number task name) = count (task == id)
looks_of id (Tells call group) = 0

-- the lookups of an id, of all that is asked
abbrev lookups : ℕ → List Owed → State → ℕ
lookups id l s = flow_sum (looks_of id) l s

-- the tasks of an id
abbrev living : ℕ → List Living → ℕ
living id ts = total (λ (t : Living). count (t.id == id)) ts

-- What is said of these two numbers and of the last id that was given holds of smaller ones, and goes on as an id is given.
record GoesOn (id : ℕ) (F : ℕ → ℕ → ℕ → Type 0) : Type 0 where
  less : (a b c d m : ℕ) → c ≤ a → d ≤ b → F a b m → F c d m
  task : (a b m : ℕ) → F a b m → F a (b + count (m + 1 == id)) (m + 1)
  lookup : (a b m : ℕ) → F a b m → F (a + count (m + 1 == id)) b (m + 1)

-- ---- rows

-- what is found and what is left make no more than all
found-part : (w : Asked → ℕ) (finds is : Request → Bool) (rs : List Request) (q : Request) → find finds rs ≡ Some q → ((p : Request) → finds p ≡ true → is p ≡ true)
    → w q.asked + asked_sum w (filter (λ p. not (is p)) rs) ≤ asked_sum w rs
found-part w finds is [] q e passes = absurd (some-none q (sym e))
found-part w finds is (p ∷ rs) q e passes = pick (finds p) refl (is p) refl e (found-part w finds is rs q)
  where
    pick : (a : Bool) → finds p ≡ a → (b : Bool) → is p ≡ b → cond a (Some p) (find finds rs) ≡ Some q
        → (find finds rs ≡ Some q → ((x : Request) → finds x ≡ true → is x ≡ true) → w q.asked + asked_sum w (filter (λ x. not (is x)) rs) ≤ asked_sum w rs)
        → w q.asked + asked_sum w (cond (not b) (p ∷ filter (λ x. not (is x)) rs) (filter (λ x. not (is x)) rs)) ≤ asked_sum w (p ∷ rs)
    pick true t true u f rest =
        let same : w p.asked ≡ w q.asked = ap (λ (y : Request). w y.asked) (some-same f) in
        let less : asked_sum w (filter (λ x. not (is x)) rs) ≤ asked_sum w rs = total-filter (λ (y : Request). w y.asked) (λ x. not (is x)) rs in omega arith
    pick true t false u f rest = absurd (true≢false (sym (passes p t) ∙ u))
    pick false t true u f rest = let less : w q.asked + asked_sum w (filter (λ x. not (is x)) rs) ≤ asked_sum w rs = rest f passes in omega arith
    pick false t false u f rest = let less : w q.asked + asked_sum w (filter (λ x. not (is x)) rs) ≤ asked_sum w rs = rest f passes in omega arith

-- a row that is changed keeps its id
same-living : (id : ℕ) (is : Living → Bool) (f : Living → Living) → ((t : Living) → (f t).id ≡ t.id) → (ts : List Living) → living id (at_first is f ts) ≡ living id ts
same-living id is f same [] = refl
same-living id is f same (t ∷ ts) = pick (is t) (same-living id is f same ts)
  where
    pick : (b : Bool) → living id (at_first is f ts) ≡ living id ts → living id (if b then f t ∷ ts else t ∷ at_first is f ts) ≡ living id (t ∷ ts)
    pick true rest = let e : count ((f t).id == id) ≡ count (t.id == id) = ap (λ n. count (n == id)) (same t) in omega arith
    pick false rest = omega arith

-- a living task counts
lives-counts : (s : State) (id : ℕ) (t : Living) → task_at s id ≡ Some t → 1 ≤ living id s.tasks
lives-counts s id t is =
    let a : value_in (λ (u : Living). count (u.id == id)) (task_at s id) + total (λ (u : Living). count (u.id == id)) (filter (λ (u : Living). not (u.id == id)) s.tasks) ≤ living id s.tasks = total-find (λ (u : Living). count (u.id == id)) (λ (u : Living). u.id == id) s.tasks in
    let b : value_in (λ (u : Living). count (u.id == id)) (task_at s id) ≡ count (t.id == id) = found-value (λ (u : Living). count (u.id == id)) (task_at s id) t is in
    let c : count (t.id == id) ≡ 1 = ap count (found-is (λ (u : Living). u.id == id) s.tasks t is) in omega arith

-- a lookup among the requests counts
among-counts : (id : ℕ) (rs : List Request) (q : Request) (number : ℕ) (name : List ℕ) → IsAmong q rs → q.asked ≡ LooksUp number id name → 1 ≤ asked_sum (looks_of id) rs
among-counts id [] q number name among is = absurd among
among-counts id (p ∷ rs) q number name (inl same) is =
    let a : looks_of id p.asked ≡ count (id == id) = ap (λ (x : Request). looks_of id x.asked) (sym same) ∙ ap (looks_of id) is in
    let b : count (id == id) ≡ 1 = ap count (eq-eqb id id refl) in omega arith
among-counts id (p ∷ rs) q number name (inr among) is = let a : 1 ≤ asked_sum (looks_of id) rs = among-counts id rs q number name among is in omega arith

-- ---- through the rules

abbrev Keeps : ℕ → (ℕ → ℕ → ℕ → Type 0) → List Owed → State → Type 0
Keeps id F l s = F (lookups id l s) (living id s.tasks) s.tasks_made

-- a smaller number of lookups
fewer : {id : ℕ} {F : ℕ → ℕ → ℕ → Type 0} (C : GoesOn id F) (a b m : ℕ) {c : ℕ} → c ≤ a → F a b m → F c b m
fewer C a b m {c} le h = C.less a b c b m le (omega arith) h

ids_flow : (g : Setting) (id : ℕ) (F : ℕ → ℕ → ℕ → Type 0) → GoesOn id F → Flows g (Keeps id F)
ids_flow g id F C = record {
  quiet = λ l s t e h. subst (λ (c : FlowParts). F (asked_sum w c.requests + (asked_sum w c.fresh + owed_sum w l)) (living id c.tasks) c.tasks_made) (sym e) h;
  adds = λ l s q h. fewer C _ _ _ (let a : flow_sum w l (Requests.add_request q s) ≡ flow_sum w (Removed q.peer q.asked ∷ l) s = adds-sum w l s q in omega arith) h;
  tells = λ l s q call group e h. fewer C _ _ _ (
      let a : flow_sum w l (Requests.add_request q s) ≡ flow_sum w (Removed q.peer q.asked ∷ l) s = adds-sum w l s q in
      let z : w q.asked ≡ 0 = ap w e in omega arith) h;
  told = λ l s peer call group h. fewer C _ _ _ (omega arith) h;
  unfresh = λ l s h. fewer C _ _ _ (let a : flow_sum w (removed s.fresh ++ l) (record s { fresh = [] }) ≡ flow_sum w l s = unfresh-sum w l s in omega arith) h;
  removes = λ l s is h. fewer C _ _ _ (let a : flow_sum w (removed (filter is s.requests) ++ l) (record s { requests = filter (λ q. not (is q)) s.requests }) ≡ flow_sum w l s = removes-sum w l s is in omega arith) h;
  sorts = λ l s is rs h. fewer C _ _ _ (let a : flow_sum w (removed (filter (λ q. not (is q)) rs) ++ (removed (filter is rs) ++ l)) s ≡ flow_sum w (removed rs ++ l) s = sorts-sum w l s is rs in omega arith) h;
  removes_one = λ l s finds is k q e passes has h. fewer C _ _ _ (let a : w q.asked + asked_sum w (filter (λ p. not (is p)) s.requests) ≤ asked_sum w s.requests = found-part w finds is s.requests q e passes in omega arith) h;
  removes_told = λ l s dirty conn sequence h. fewer C _ _ _ (let a : asked_sum w (filter (λ q. not (Frames.tells_on dirty conn sequence q)) s.requests) ≤ asked_sum w s.requests = total-filter (λ (q : Request). w q.asked) (λ q. not (Frames.tells_on dirty conn sequence q)) s.requests in omega arith) h;
  begins = λ l s origin method arguments fuel h. C.less _ _ _ _ _
      (let a : owed_sum w (of_origin origin ++ l) ≡ owed_sum w l = owed-origin w origin l in omega arith)
      (let b : living id (s.tasks ++ new_row g origin method arguments fuel s ∷ []) ≡ living id s.tasks + count (s.tasks_made + 1 == id) = total-snoc (λ (t : Living). count (t.id == id)) s.tasks (new_row g origin method arguments fuel s) in omega arith)
      (C.task (lookups id (of_origin origin ++ l) s) (living id s.tasks) s.tasks_made h);
  ends = λ l s task t is h. C.less (lookups id l s) (living id s.tasks) _ _ _
      (let a : owed_sum w (of_origin t.origin ++ l) ≡ owed_sum w l = owed-origin w t.origin l in omega arith)
      (let b : living id (filter (λ (u : Living). not (u.id == task)) s.tasks) ≤ living id s.tasks = total-filter (λ (u : Living). count (u.id == id)) (λ (u : Living). not (u.id == task)) s.tasks in omega arith) h;
  replies = λ l s peer number task lent kind m reply t is h. C.less (lookups id (Removed peer (Calls number task lent kind m) ∷ l) s) (living id s.tasks) _ _ _ (omega arith)
      (let b : living id (at_first (λ (u : Living). u.id == task) (LivingTasks.after_reply g reply) s.tasks) ≡ living id s.tasks = same-living id (λ (u : Living). u.id == task) (LivingTasks.after_reply g reply) (λ u. refl) s.tasks in omega arith) h;
  replies_none = λ l s peer number task lent kind m is h. fewer C _ _ _ (omega arith) h;
  looked_up = λ l s peer number task name h. fewer C _ _ _ (omega arith) h;
  works = λ l s task t f row ready is h. C.less (lookups id l s) (living id s.tasks) _ _ _ (omega arith)
      (let b : living id (at_first (λ (u : Living). u.id == task) f s.tasks) ≡ living id s.tasks = same-living id (λ (u : Living). u.id == task) f row.id s.tasks in omega arith) h;
  keeps = λ l s until value h. fewer C _ _ _ (let a : owed_sum w (of_until until ++ l) ≡ owed_sum w l = owed-until w until l in omega arith) h;
  results_go = λ l s is h. h;
  falls = λ l s conn number h. fewer C _ _ _ (omega arith) h;
  row = λ l s conn f a b c h. h;
  counts = λ l s conn number c is le h. fewer C _ _ _ (omega arith) h;
  parks_call = λ l s p is h. fewer C _ _ _ (omega arith) h;
  parks_result = λ l s p is h. h;
  answers = λ l s conn number h. fewer C _ _ _ (let a : asked_sum w (map (Frames.answered_on conn number) s.requests) ≡ asked_sum w s.requests = answers-sum w conn number s.requests in omega arith) h;
  takes = λ l s p h. h;
  takes_call = λ l s p q is call h. fewer C _ _ _ (omega arith) h;
  closes = λ l s conn h. h;
}
  where
    w : Asked → ℕ
    w = looks_of id

ids-begin : (g : Setting) (id : ℕ) (F : ℕ → ℕ → ℕ → Type 0) → GoesOn id F → (s : State) (e : Event) → Begins g (Keeps id F) s e
ids-begin g id F C s e = record {
  opens = λ conn dialled is h. h;
  parks = λ task k t target method arguments is ready stands h. C.less (lookups id [] s) (living id s.tasks) _ _ _ (omega arith)
      (let b : living id (at_first (λ (u : Living). u.id == task) (LivingTasks.waiting k) s.tasks) ≡ living id s.tasks = same-living id (λ (u : Living). u.id == task) (LivingTasks.waiting k) (λ u. refl) s.tasks in omega arith) h;
  looks = λ peer name is h. fewer C _ _ _ (omega arith) (C.lookup (lookups id [] s) (living id s.tasks) s.tasks_made h);
}

-- ---- one lookup or one task

small : (b : Bool) → count b ≤ 1
small true = omega arith
small false = omega arith

-- an id is given once
given-once : (id m : ℕ) → count (m + 1 == id) + count (nat_le id m) ≤ count (nat_le id (m + 1))
given-once id m = pick (m + 1 == id) refl (nat_le id m) refl (nat_le id (m + 1)) refl
  where
    pick : (x : Bool) → (m + 1 == id) ≡ x → (y : Bool) → nat_le id m ≡ y → (z : Bool) → nat_le id (m + 1) ≡ z → count x + count y ≤ count z
    pick true e true f z i = let a : m + 1 ≡ id = eqb-true (m + 1) id e in let b : id ≤ m = leb-true id m f in absurd (omega arith)
    pick true e false f true i = omega arith
    pick true e false f false i = let a : m + 1 ≡ id = eqb-true (m + 1) id e in let b : m + 1 < id = leb-false id (m + 1) i in absurd (omega arith)
    pick false e true f true i = omega arith
    pick false e true f false i = let a : id ≤ m = leb-true id m f in let b : m + 1 < id = leb-false id (m + 1) i in absurd (omega arith)
    pick false e false f true i = omega arith
    pick false e false f false i = omega arith

abbrev IsOnce : ℕ → ℕ → ℕ → ℕ → Type 0
IsOnce id a b m = a + b ≤ count (nat_le id m)

once-goes : (id : ℕ) → GoesOn id (IsOnce id)
once-goes id = record {
  less = λ a b c d m x y h. omega (arith, x, y, h);
  task = λ a b m h. omega (arith, h, given-once id m);
  lookup = λ a b m h. omega (arith, h, given-once id m);
}

once-of : (g : Setting) (id : ℕ) (h : List Event) → Keeps id (IsOnce id) [] (Space.state_of g h)
unfolding Space.state_of opening
once-of g id [] = omega arith
once-of g id (e ∷ h) = on_flow (ids_flow g id (IsOnce id) (once-goes id)) (Space.state_of g h) e (ids-begin g id (IsOnce id) (once-goes id) (Space.state_of g h) e) (once-of g id h)

-- ---- no more of an id that was given

abbrev IsGiven : ℕ → ℕ → ℕ → ℕ → ℕ → ℕ → Type 0
IsGiven id most many a b m = (id ≤ m) × ((a ≤ most) × (b ≤ many))

-- the next id is another
next-other : (id m : ℕ) → id ≤ m → count (m + 1 == id) ≡ 0
next-other id m le = pick (m + 1 == id) refl
  where
    pick : (b : Bool) → (m + 1 == id) ≡ b → count b ≡ 0
    pick true e = let a : m + 1 ≡ id = eqb-true (m + 1) id e in absurd (omega (arith, a, le))
    pick false e = refl

given-goes : (id most many : ℕ) → GoesOn id (IsGiven id most many)
given-goes id most many = record {
  less = λ a b c d m x y h. (h.0, (omega (arith, x, h.1.0), omega (arith, y, h.1.1)));
  task = λ a b m h. (omega (arith, h.0), (h.1.0, omega (arith, h.1.1, next-other id m h.0)));
  lookup = λ a b m h. (omega (arith, h.0), (omega (arith, h.1.0, next-other id m h.0), h.1.1));
}

given-on : (g : Setting) (id most many : ℕ) (more h : List Event) → Keeps id (IsGiven id most many) [] (Space.state_of g h) → Keeps id (IsGiven id most many) [] (Space.state_of g (more ++ h))
unfolding Space.state_of
given-on g id most many [] h k = k
given-on g id most many (e ∷ more) h k = on_flow (ids_flow g id (IsGiven id most many) (given-goes id most many)) (Space.state_of g (more ++ h)) e
    (ids-begin g id (IsGiven id most many) (given-goes id most many) (Space.state_of g (more ++ h)) e) (given-on g id most many more h k)

-- one that is counted was given
was-given : (id n m : ℕ) → 1 ≤ n → n ≤ count (nat_le id m) → id ≤ m
was-given id n m one le = pick (nat_le id m) refl le
  where
    pick : (b : Bool) → nat_le id m ≡ b → n ≤ count b → id ≤ m
    pick true e f = leb-true id m e
    pick false e f = absurd (omega (arith, one, f))

-- The id of a lookup that stands among the requests is no task's, at any moment.
pub lookups-alone : (g : Setting) (h : List Event) (id number : ℕ) (name : List ℕ) (q : Request) → IsAmong q (Space.state_of g h).requests → q.asked ≡ LooksUp number id name → IsOfNoTask g h id
lookups-alone g h id number name q among is = record {
  before = λ more early parts. earlier more early parts (task_at (Space.state_of g early) id) refl;
  after = λ more. later more (task_at (Space.state_of g (more ++ h)) id) refl;
}
  where
    stands : 1 ≤ asked_sum (looks_of id) (Space.state_of g h).requests
    stands = among-counts id (Space.state_of g h).requests q number name among is

    given : id ≤ (Space.state_of g h).tasks_made
    given = was-given id (lookups id [] (Space.state_of g h) + living id (Space.state_of g h).tasks) (Space.state_of g h).tasks_made (omega (arith, stands)) (once-of g id h)

    none : living id (Space.state_of g h).tasks ≤ 0
    none = omega (arith, stands, once-of g id h, small (nat_le id (Space.state_of g h).tasks_made))

    later : (more : List Event) (o : Option Living) → task_at (Space.state_of g (more ++ h)) id ≡ o → o ≡ None
    later more None e = refl
    later more (Some t) e =
        let k = given-on g id (lookups id [] (Space.state_of g h)) 0 more h (given, (omega arith, none)) in
        absurd (omega (arith, k.1.1, lives-counts (Space.state_of g (more ++ h)) id t e))

    earlier : (more early : List Event) → more ++ early ≡ h → (o : Option Living) → task_at (Space.state_of g early) id ≡ o → o ≡ None
    earlier more early parts None e = refl
    earlier more early parts (Some t) e =
        let one : 1 ≤ living id (Space.state_of g early).tasks = lives-counts (Space.state_of g early) id t e in
        let o : lookups id [] (Space.state_of g early) + living id (Space.state_of g early).tasks ≤ count (nat_le id (Space.state_of g early).tasks_made) = once-of g id early in
        let made : id ≤ (Space.state_of g early).tasks_made = was-given id _ (Space.state_of g early).tasks_made (omega (arith, one)) o in
        let no : lookups id [] (Space.state_of g early) ≤ 0 = omega (arith, one, o, small (nat_le id (Space.state_of g early).tasks_made)) in
        let k = given-on g id 0 (living id (Space.state_of g early).tasks) more early (made, (no, omega arith)) in
        let still : lookups id [] (Space.state_of g h) ≤ 0 = subst (λ x. lookups id [] (Space.state_of g x) ≤ 0) parts k.1.0 in
        absurd (omega (arith, still, stands))
