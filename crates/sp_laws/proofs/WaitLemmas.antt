-- Each task that waits has one call, and each call and lookup a number of its own, through every rule.
use mathlib.Core.Path.{sym, ap, subst, ◌∙◌}
use Rattle.std.proofs.Common.{arith}
use Rattle.std.proofs.lemmas.Bool.{true≢false, eqb-true}
use Rattle.std.specs.Prelude.{◌≡◌, refl, ℕ, ◌+◌, ◌≤◌, ◌==◌, ◌&&◌, not, nat_le, Bool, true, false, List, [], ◌∷◌, ◌++◌, Option, None, Some, filter, find, map, if◌then◌else◌}
use Rattle.dgc_client.specs.declared.groups.Group.{Group}
use Rattle.net_message.specs.declared.message.Message.{Message}
use Rattle.uuid.specs.declared.Uuid.{Uuid}
use Rattle.sp_rules.specs.Behaviours.{Reply}
use Rattle.sp_rules.specs.Classes.{Setting, blank, field_kind, fit_kinds, fits_field}
use Rattle.sp_rules.specs.Frames
use Rattle.sp_rules.specs.Lists.{at_first, total}
use Rattle.sp_rules.specs.LivingTasks
use Rattle.sp_rules.specs.ParkedFrames
use Rattle.sp_rules.specs.Requests
use Rattle.sp_rules.specs.State as state
use Rattle.sp_rules.specs.State.{State, Object, Stored, Made, Written, Gone, Living, Origin, OfRoot, OfCall, Until, Request, Asked, Calls, LooksUp, Tells, Connection, KeptResult, Frame, CallFrame, ReturnedFrame, ParkedFrame, standing, last_written, task_at, ready_at, object_at, connection_at, connection_to, is_open, set_task, send, opening}
use Rattle.sp_rules.proofs.AllLemmas.{some-none}
use Rattle.sp_rules.proofs.FuelSums.{total-snoc, total-parts}
use Rattle.sp_rules.proofs.OwnLemmas.{unrefused, later, first-of, not-false, and-left, and-right, has-some, own-only, fresh-of}
use Rattle.sp_rules.proofs.ReadyLemmas.{ready-is}
use Rattle.sp_rules.proofs.Stable.{new_row}
use Rattle.std.specs.Prelude.{cond}
use Rattle.std.proofs.lemmas.Bool.{eq-eqb}
use Rattle.sp_laws.specs.Waiting.{count, call_of, calls_numbered}
use Rattle.sp_laws.proofs.FlowRules.{Owed, Removed, Inbound, removed, of_origin, of_until, IsSameRow, Flows, FlowParts}

-- ---- sums of what is asked

abbrev pub asked_sum : (Asked → ℕ) → List Request → ℕ
asked_sum w rs = total (λ (q : Request). w q.asked) rs

abbrev pub owed_one : (Asked → ℕ) → Owed → ℕ
owed_one w (Removed peer asked) = w asked
owed_one w (Inbound conn number) = 0

abbrev pub owed_sum : (Asked → ℕ) → List Owed → ℕ
owed_sum w l = total (owed_one w) l

-- all that is asked, in each part of the state
abbrev pub flow_sum : (Asked → ℕ) → List Owed → State → ℕ
flow_sum w l s = asked_sum w s.requests + (asked_sum w s.fresh + owed_sum w l)

pub owed-append : (w : Asked → ℕ) (l m : List Owed) → owed_sum w (l ++ m) ≡ owed_sum w l + owed_sum w m
owed-append w [] m = omega arith
owed-append w (x ∷ l) m = let e : owed_sum w (l ++ m) ≡ owed_sum w l + owed_sum w m = owed-append w l m in omega arith

pub owed-removed : (w : Asked → ℕ) (rs : List Request) → owed_sum w (removed rs) ≡ asked_sum w rs
owed-removed w [] = refl
owed-removed w (q ∷ rs) = let e : owed_sum w (removed rs) ≡ asked_sum w rs = owed-removed w rs in omega arith

pub owed-origin : (w : Asked → ℕ) (origin : Origin) (l : List Owed) → owed_sum w (of_origin origin ++ l) ≡ owed_sum w l
owed-origin w OfRoot l = refl
owed-origin w (OfCall conn number) l = omega arith

pub owed-until : (w : Asked → ℕ) (until : Until) (l : List Owed) → owed_sum w (of_until until ++ l) ≡ owed_sum w l
owed-until w (state.RootAcked task) l = refl
owed-until w (state.Acked conn number) l = omega arith
owed-until w (state.Passed moment) l = refl

-- the moves that keep the sum
pub adds-sum : (w : Asked → ℕ) (l : List Owed) (s : State) (q : Request) → flow_sum w l (Requests.add_request q s) ≡ flow_sum w (Removed q.peer q.asked ∷ l) s
adds-sum w l s q = let e : asked_sum w (s.requests ++ q ∷ []) ≡ asked_sum w s.requests + w q.asked = total-snoc (λ (p : Request). w p.asked) s.requests q in omega arith

pub unfresh-sum : (w : Asked → ℕ) (l : List Owed) (s : State) → flow_sum w (removed s.fresh ++ l) (record s { fresh = [] }) ≡ flow_sum w l s
unfresh-sum w l s =
    let a : owed_sum w (removed s.fresh ++ l) ≡ owed_sum w (removed s.fresh) + owed_sum w l = owed-append w (removed s.fresh) l in
    let b : owed_sum w (removed s.fresh) ≡ asked_sum w s.fresh = owed-removed w s.fresh in omega arith

pub removes-sum : (w : Asked → ℕ) (l : List Owed) (s : State) (is : Request → Bool) → flow_sum w (removed (filter is s.requests) ++ l) (record s { requests = filter (λ q. not (is q)) s.requests }) ≡ flow_sum w l s
removes-sum w l s is =
    let a : owed_sum w (removed (filter is s.requests) ++ l) ≡ owed_sum w (removed (filter is s.requests)) + owed_sum w l = owed-append w (removed (filter is s.requests)) l in
    let b : owed_sum w (removed (filter is s.requests)) ≡ asked_sum w (filter is s.requests) = owed-removed w (filter is s.requests) in
    let c : asked_sum w (filter is s.requests) + asked_sum w (filter (λ q. not (is q)) s.requests) ≡ asked_sum w s.requests = total-parts (λ (q : Request). w q.asked) is s.requests in omega arith

pub sorts-sum : (w : Asked → ℕ) (l : List Owed) (s : State) (is : Request → Bool) (rs : List Request) → flow_sum w (removed (filter (λ q. not (is q)) rs) ++ (removed (filter is rs) ++ l)) s ≡ flow_sum w (removed rs ++ l) s
sorts-sum w l s is rs =
    let a : owed_sum w (removed (filter (λ q. not (is q)) rs) ++ (removed (filter is rs) ++ l)) ≡ owed_sum w (removed (filter (λ q. not (is q)) rs)) + owed_sum w (removed (filter is rs) ++ l) = owed-append w (removed (filter (λ q. not (is q)) rs)) (removed (filter is rs) ++ l) in
    let b : owed_sum w (removed (filter is rs) ++ l) ≡ owed_sum w (removed (filter is rs)) + owed_sum w l = owed-append w (removed (filter is rs)) l in
    let c : owed_sum w (removed (filter (λ q. not (is q)) rs)) ≡ asked_sum w (filter (λ q. not (is q)) rs) = owed-removed w (filter (λ q. not (is q)) rs) in
    let d : owed_sum w (removed (filter is rs)) ≡ asked_sum w (filter is rs) = owed-removed w (filter is rs) in
    let e : owed_sum w (removed rs ++ l) ≡ owed_sum w (removed rs) + owed_sum w l = owed-append w (removed rs) l in
    let f : owed_sum w (removed rs) ≡ asked_sum w rs = owed-removed w rs in
    let k : asked_sum w (filter is rs) + asked_sum w (filter (λ q. not (is q)) rs) ≡ asked_sum w rs = total-parts (λ (q : Request). w q.asked) is rs in omega arith

pub answers-sum : (w : Asked → ℕ) (conn number : ℕ) (rs : List Request) → asked_sum w (map (Frames.answered_on conn number) rs) ≡ asked_sum w rs
answers-sum w conn number [] = refl
answers-sum w conn number (q ∷ rs) = let e : asked_sum w (map (Frames.answered_on conn number) rs) ≡ asked_sum w rs = answers-sum w conn number rs in let f : w (Frames.answered_on conn number q).asked ≡ w q.asked = pick (ParkedFrames.is_call_on conn number q) in omega arith
  where
    pick : (b : Bool) → w (if b then record q { stage = state.Answered conn } else q).asked ≡ w q.asked
    pick true = refl
    pick false = refl

-- dirty and clean calls weigh nothing
told-sum : (w : Asked → ℕ) → ((call : ℕ) (group : Group) → w (Tells call group) ≡ 0) → (dirty : Bool) (conn sequence : ℕ) (rs : List Request) → asked_sum w (filter (λ q. not (Frames.tells_on dirty conn sequence q)) rs) ≡ asked_sum w rs
told-sum w none dirty conn sequence [] = refl
told-sum w none dirty conn sequence (q ∷ rs) = pick (Frames.tells_on dirty conn sequence q) refl (told-sum w none dirty conn sequence rs)
  where
    both : (a b : Bool) → a && b ≡ true → b ≡ true
    both true b e = e
    both false b e = absurd (true≢false (sym e))

    of : (asked : Asked) → Frames.tells_of dirty asked ≡ true → w asked ≡ 0
    of (Calls number task lent kind m) e = absurd (true≢false (sym e))
    of (LooksUp number task name) e = absurd (true≢false (sym e))
    of (Tells call group) e = none call group

    pick : (b : Bool) → Frames.tells_on dirty conn sequence q ≡ b → asked_sum w (filter (λ p. not (Frames.tells_on dirty conn sequence p)) rs) ≡ asked_sum w rs
        → asked_sum w (if not b then q ∷ filter (λ p. not (Frames.tells_on dirty conn sequence p)) rs else filter (λ p. not (Frames.tells_on dirty conn sequence p)) rs) ≡ w q.asked + asked_sum w rs
    pick true e rest = let z : w q.asked ≡ 0 = of q.asked (both (Frames.has_sequence sequence q.stage) _ (both (ParkedFrames.is_unanswered_on conn q.stage) _ e)) in omega arith
    pick false e rest = omega arith

-- ---- one request of a number

abbrev pub one_of : ℕ → Asked → ℕ
one_of k asked = count (ParkedFrames.has_number k asked)

-- if no request has the number, none passes
none-pass : (w : Asked → ℕ) (is : Request → Bool) (k : ℕ) (rs : List Request) → ((p : Request) → is p ≡ true → ParkedFrames.has_number k p.asked ≡ true) → calls_numbered k rs ≡ 0 → asked_sum w (filter is rs) ≡ 0
none-pass w is k [] has e = refl
none-pass w is k (q ∷ rs) has e = pick (is q) refl (none-pass w is k rs has)
  where
    pick : (b : Bool) → is q ≡ b → (calls_numbered k rs ≡ 0 → asked_sum w (filter is rs) ≡ 0) → asked_sum w (cond b (q ∷ filter is rs) (filter is rs)) ≡ 0
    pick true t rest = let c : count (ParkedFrames.has_number k q.asked) ≡ 1 = ap count (has q t) in absurd (omega arith)
    pick false t rest = rest (omega arith)

found-counts : (finds : Request → Bool) (k : ℕ) (rs : List Request) (q : Request) → ((p : Request) → finds p ≡ true → ParkedFrames.has_number k p.asked ≡ true) → find finds rs ≡ Some q → 1 ≤ calls_numbered k rs
found-counts finds k [] q has e = absurd (some-none q (sym e))
found-counts finds k (p ∷ rs) q has e = pick (finds p) refl e (found-counts finds k rs q has)
  where
    pick : (b : Bool) → finds p ≡ b → cond b (Some p) (find finds rs) ≡ Some q → (find finds rs ≡ Some q → 1 ≤ calls_numbered k rs) → 1 ≤ count (ParkedFrames.has_number k p.asked) + calls_numbered k rs
    pick true t f rest = let c : count (ParkedFrames.has_number k p.asked) ≡ 1 = ap count (has p t) in omega arith
    pick false t f rest = let c : 1 ≤ calls_numbered k rs = rest f in omega arith

-- the request found is the only one that passes
one-passes : (w : Asked → ℕ) (finds is : Request → Bool) (k : ℕ) (rs : List Request) (q : Request) → find finds rs ≡ Some q → ((p : Request) → finds p ≡ true → is p ≡ true) → ((p : Request) → is p ≡ true → ParkedFrames.has_number k p.asked ≡ true)
    → calls_numbered k rs ≤ 1 → asked_sum w (filter is rs) ≡ w q.asked
one-passes w finds is k [] q e passes has le = absurd (some-none q (sym e))
one-passes w finds is k (p ∷ rs) q e passes has le = pick (finds p) refl (is p) refl e (one-passes w finds is k rs q)
  where
    none : ParkedFrames.has_number k p.asked ≡ true → calls_numbered k rs ≡ 0
    none t = let c : count (ParkedFrames.has_number k p.asked) ≡ 1 = ap count t in omega arith

    fewer : calls_numbered k rs ≤ 1
    fewer = omega (arith, le)

    pick : (a : Bool) → finds p ≡ a → (b : Bool) → is p ≡ b → cond a (Some p) (find finds rs) ≡ Some q
        → (find finds rs ≡ Some q → ((x : Request) → finds x ≡ true → is x ≡ true) → ((x : Request) → is x ≡ true → ParkedFrames.has_number k x.asked ≡ true) → calls_numbered k rs ≤ 1 → asked_sum w (filter is rs) ≡ w q.asked)
        → asked_sum w (cond b (p ∷ filter is rs) (filter is rs)) ≡ w q.asked
    pick true t true u f rest = let z : asked_sum w (filter is rs) ≡ 0 = none-pass w is k rs has (none (has p u)) in let x : w p.asked ≡ w q.asked = ap (λ (y : Request). w y.asked) (Rattle.sp_rules.proofs.OwnLemmas.some-same f) in omega arith
    pick true t false u f rest = absurd (true≢false (sym (passes p t) ∙ u))
    pick false t true u f rest = let z : calls_numbered k rs ≡ 0 = none (has p u) in let y : 1 ≤ calls_numbered k rs = found-counts finds k rs q (λ x v. has x (passes x v)) f in absurd (omega arith)
    pick false t false u f rest = rest f passes has fewer

-- ---- the task of an id

abbrev pub waits_in : Option Living → ℕ
waits_in None = 0
waits_in (Some t) = count t.waits

-- one row is changed, which keeps its id
pub changed-at : (f : Living → Living) → ((t : Living) → (f t).id ≡ t.id) → (id : ℕ) (ts : List Living) (t : Living) → find (λ (u : Living). u.id == id) ts ≡ Some t → find (λ (u : Living). u.id == id) (at_first (λ (u : Living). u.id == id) f ts) ≡ Some (f t)
changed-at f same id [] t e = absurd (some-none t (sym e))
changed-at f same id (u ∷ ts) t e = pick (u.id == id) refl e (changed-at f same id ts t)
  where
    here : (b : Bool) → b ≡ true → (x y : Option Living) → cond b x y ≡ x
    here true g x y = refl
    here false g x y = absurd (true≢false (sym g))

    pick : (b : Bool) → (u.id == id) ≡ b → cond b (Some u) (find (λ (v : Living). v.id == id) ts) ≡ Some t → (find (λ (v : Living). v.id == id) ts ≡ Some t → find (λ (v : Living). v.id == id) (at_first (λ (v : Living). v.id == id) f ts) ≡ Some (f t))
        → find (λ (v : Living). v.id == id) (if b then f u ∷ ts else u ∷ at_first (λ (v : Living). v.id == id) f ts) ≡ Some (f t)
    pick true g h rest = here ((f u).id == id) (ap (λ n. n == id) (same u) ∙ g) (Some (f u)) (find (λ (v : Living). v.id == id) ts) ∙ ap {A = Living} {B = Option Living} (λ v. Some (f v)) (Rattle.sp_rules.proofs.OwnLemmas.some-same h)
    pick false g h rest = subst (λ b. cond b (Some u) (find (λ (v : Living). v.id == id) (at_first (λ (v : Living). v.id == id) f ts)) ≡ Some (f t)) (sym g) (rest h)

-- the rows of other ids stay
pub changed-other : (f : Living → Living) → ((t : Living) → (f t).id ≡ t.id) → (id other : ℕ) → (id ≡ other → ⊥) → (ts : List Living) → find (λ (u : Living). u.id == other) (at_first (λ (u : Living). u.id == id) f ts) ≡ find (λ (u : Living). u.id == other) ts
changed-other f same id other no-one [] = refl
changed-other f same id other no-one (u ∷ ts) = pick (u.id == id) refl (u.id == other) refl (changed-other f same id other no-one ts)
  where
    pick : (b : Bool) → (u.id == id) ≡ b → (c : Bool) → (u.id == other) ≡ c → find (λ (v : Living). v.id == other) (at_first (λ (v : Living). v.id == id) f ts) ≡ find (λ (v : Living). v.id == other) ts
        → find (λ (v : Living). v.id == other) (if b then f u ∷ ts else u ∷ at_first (λ (v : Living). v.id == id) f ts) ≡ find (λ (v : Living). v.id == other) (u ∷ ts)
    pick true g true h rest = absurd (no-one (sym (eqb-true u.id id g) ∙ eqb-true u.id other h))
    pick true g false h rest = ap (λ b. cond b (Some (f u)) (find (λ (v : Living). v.id == other) ts)) (ap (λ n. n == other) (same u) ∙ h) ∙ sym (ap (λ b. cond b (Some u) (find (λ (v : Living). v.id == other) ts)) h)
    pick false g c h rest = ap (λ o. cond (u.id == other) (Some u) o) rest

-- rows of an id go, and no other
pub gone-at : (id : ℕ) (ts : List Living) → find (λ (u : Living). u.id == id) (filter (λ (u : Living). not (u.id == id)) ts) ≡ None
gone-at id [] = refl
gone-at id (u ∷ ts) = pick (u.id == id) refl (gone-at id ts)
  where
    pick : (b : Bool) → (u.id == id) ≡ b → find (λ (v : Living). v.id == id) (filter (λ (v : Living). not (v.id == id)) ts) ≡ None → find (λ (v : Living). v.id == id) (cond (not b) (u ∷ filter (λ (v : Living). not (v.id == id)) ts) (filter (λ (v : Living). not (v.id == id)) ts)) ≡ None
    pick true g rest = rest
    pick false g rest = subst (λ b. cond b (Some u) (find (λ (v : Living). v.id == id) (filter (λ (v : Living). not (v.id == id)) ts)) ≡ None) (sym g) rest

pub gone-other : (id other : ℕ) → (id ≡ other → ⊥) → (ts : List Living) → find (λ (u : Living). u.id == other) (filter (λ (u : Living). not (u.id == id)) ts) ≡ find (λ (u : Living). u.id == other) ts
gone-other id other no-one [] = refl
gone-other id other no-one (u ∷ ts) = pick (u.id == id) refl (u.id == other) refl (gone-other id other no-one ts)
  where
    pick : (b : Bool) → (u.id == id) ≡ b → (c : Bool) → (u.id == other) ≡ c → find (λ (v : Living). v.id == other) (filter (λ (v : Living). not (v.id == id)) ts) ≡ find (λ (v : Living). v.id == other) ts
        → find (λ (v : Living). v.id == other) (cond (not b) (u ∷ filter (λ (v : Living). not (v.id == id)) ts) (filter (λ (v : Living). not (v.id == id)) ts)) ≡ find (λ (v : Living). v.id == other) (u ∷ ts)
    pick true g true h rest = absurd (no-one (sym (eqb-true u.id id g) ∙ eqb-true u.id other h))
    pick true g false h rest = rest ∙ sym (ap (λ b. cond b (Some u) (find (λ (v : Living). v.id == other) ts)) h)
    pick false g c h rest = ap (λ o. cond (u.id == other) (Some u) o) rest

-- a row that does not wait goes last
more-at : (id : ℕ) (ts : List Living) (row : Living) → row.waits ≡ false → waits_in (find (λ (u : Living). u.id == id) (ts ++ row ∷ [])) ≡ waits_in (find (λ (u : Living). u.id == id) ts)
more-at id [] row e = pick (row.id == id)
  where
    pick : (b : Bool) → waits_in (cond b (Some row) None) ≡ 0
    pick true = ap count e
    pick false = refl
more-at id (u ∷ ts) row e = pick (u.id == id) (more-at id ts row e)
  where
    pick : (b : Bool) → waits_in (find (λ (v : Living). v.id == id) (ts ++ row ∷ [])) ≡ waits_in (find (λ (v : Living). v.id == id) ts) → waits_in (cond b (Some u) (find (λ (v : Living). v.id == id) (ts ++ row ∷ []))) ≡ waits_in (cond b (Some u) (find (λ (v : Living). v.id == id) ts))
    pick true rest = refl
    pick false rest = rest

-- ---- what the rules keep

-- The calls of a task and those under way are together those that it waits for; and each number that was given stands once.
pub record Waits (l : List Owed) (s : State) : Type 0 where
  pub tasks : (id : ℕ) → flow_sum (call_of id) l s ≡ waits_in (task_at s id)
  pub numbers : (k : ℕ) → flow_sum (one_of k) l s ≤ count (nat_le k s.calls_made)

-- a state of the same sums
same-sums : {l m : List Owed} {s t : State} → ((w : Asked → ℕ) → ((call : ℕ) (group : Group) → w (Tells call group) ≡ 0) → flow_sum w m t ≡ flow_sum w l s) → ((id : ℕ) → waits_in (task_at t id) ≡ waits_in (task_at s id)) → t.calls_made ≡ s.calls_made → Waits l s → Waits m t
same-sums {l} {m} {s} {t} e f c h = record {
  tasks = λ id. e (call_of id) (λ call group. refl) ∙ h.tasks id ∙ sym (f id);
  numbers = λ k. let a : flow_sum (one_of k) m t ≡ flow_sum (one_of k) l s = e (one_of k) (λ call group. refl) in let b : flow_sum (one_of k) l s ≤ count (nat_le k s.calls_made) = h.numbers k in let d : count (nat_le k t.calls_made) ≡ count (nat_le k s.calls_made) = ap (λ n. count (nat_le k n)) c in omega arith;
}

-- how often a number stands among the requests
pub stands-once : {l : List Owed} {s : State} (k : ℕ) → Waits l s → calls_numbered k s.requests ≤ 1
stands-once {l} {s} k h =
    let a : flow_sum (one_of k) l s ≤ count (nat_le k s.calls_made) = h.numbers k in
    let b : count (nat_le k s.calls_made) ≤ 1 = small (nat_le k s.calls_made) in omega arith
  where
    small : (b : Bool) → count b ≤ 1
    small true = omega arith
    small false = omega arith

pub different : (a b : ℕ) → (a == b) ≡ false → a ≡ b → ⊥
different a b e f = true≢false (sym (eq-eqb a b f) ∙ e)

-- a task that is changed waits as it waited, or as it is said
pub set-waits : (s : State) (id : ℕ) (t : Living) (f : Living → Living) → ((u : Living) → (f u).id ≡ u.id) → task_at s id ≡ Some t → (other : ℕ) → waits_in (task_at (set_task f id s) other) ≡ (if id == other then count (f t).waits else waits_in (task_at s other))
set-waits s id t f same is other = pick (id == other) refl
  where
    pick : (b : Bool) → (id == other) ≡ b → waits_in (task_at (set_task f id s) other) ≡ (if b then count (f t).waits else waits_in (task_at s other))
    pick true e = subst (λ n. waits_in (find (λ (u : Living). u.id == n) (at_first (λ (u : Living). u.id == id) f s.tasks)) ≡ count (f t).waits) (eqb-true id other e) (ap waits_in (changed-at f same id s.tasks t is))
    pick false e = ap waits_in (changed-other f same id other (different id other e) s.tasks)

pub waits_flow : (g : Setting) → Flows g Waits
waits_flow g = record {
  quiet = λ l s t e h. same-sums (λ w none. ap (λ (c : FlowParts). asked_sum w c.requests + (asked_sum w c.fresh + owed_sum w l)) e) (λ id. ap (λ (c : FlowParts). waits_in (find (λ (u : Living). u.id == id) c.tasks)) e) (ap (λ (c : FlowParts). c.calls_made) e) h;
  adds = λ l s q h. same-sums (λ w none. adds-sum w l s q) (λ id. refl) refl h;
  tells = λ l s q call group e h. same-sums (λ w none. let a : flow_sum w l (Requests.add_request q s) ≡ flow_sum w (Removed q.peer q.asked ∷ l) s = adds-sum w l s q in let z : w q.asked ≡ 0 = ap w e ∙ none call group in omega arith) (λ id. refl) refl h;
  told = λ l s peer call group h. same-sums {l = Removed peer (Tells call group) ∷ l} {m = l} {s = s} {t = s} (λ w none. let z : w (Tells call group) ≡ 0 = none call group in omega arith) (λ id. refl) refl h;
  unfresh = λ l s h. same-sums (λ w none. unfresh-sum w l s) (λ id. refl) refl h;
  removes = λ l s is h. same-sums (λ w none. removes-sum w l s is) (λ id. refl) refl h;
  sorts = λ l s is rs h. same-sums {l = removed rs ++ l} {m = removed (filter (λ q. not (is q)) rs) ++ (removed (filter is rs) ++ l)} {s = s} {t = s} (λ w none. sorts-sum w l s is rs) (λ id. refl) refl h;
  removes_one = λ l s finds is k q e passes has h. same-sums (λ w none.
      let a : asked_sum w (filter is s.requests) ≡ w q.asked = one-passes w finds is k s.requests q e passes has (stands-once k h) in
      let b : asked_sum w (filter is s.requests) + asked_sum w (filter (λ p. not (is p)) s.requests) ≡ asked_sum w s.requests = total-parts (λ (p : Request). w p.asked) is s.requests in omega arith) (λ id. refl) refl h;
  removes_told = λ l s dirty conn sequence h. same-sums (λ w none. let e : asked_sum w (filter (λ q. not (Frames.tells_on dirty conn sequence q)) s.requests) ≡ asked_sum w s.requests = told-sum w none dirty conn sequence s.requests in omega arith) (λ id. refl) refl h;
  begins = λ l s origin method arguments fuel h. same-sums {l = of_origin origin ++ l} (λ w none. let e : owed_sum w (of_origin origin ++ l) ≡ owed_sum w l = owed-origin w origin l in omega arith) (λ id. more-at id s.tasks (new_row g origin method arguments fuel s) refl) refl h;
  ends = λ l s id t is h. same-sums (λ w none. let e : owed_sum w (of_origin t.origin ++ l) ≡ owed_sum w l = owed-origin w t.origin l in omega arith) (ended s id t is) refl h;
  replies = λ l s peer number task lent kind m reply t is h. replied l s peer number task lent kind m reply t is h;
  replies_none = λ l s peer number task lent kind m is h. no-reply l s peer number task lent kind m is h;
  looked_up = λ l s peer number task name h. record {
    tasks = λ id. let a : flow_sum (call_of id) (Removed peer (LooksUp number task name) ∷ l) s ≡ waits_in (task_at s id) = h.tasks id in omega arith;
    numbers = λ k. let a : flow_sum (one_of k) (Removed peer (LooksUp number task name) ∷ l) s ≤ count (nat_le k s.calls_made) = h.numbers k in omega arith;
  };
  works = λ l s id t f row ready is h. same-sums {l = l} {m = l} {s = s} (λ w none. refl) (worked s id t f row ready is) refl h;
  keeps = λ l s until value h. same-sums {l = of_until until ++ l} {m = l} {s = s} (λ w none. let e : owed_sum w (of_until until ++ l) ≡ owed_sum w l = owed-until w until l in omega arith) (λ id. refl) refl h;
  results_go = λ l s is h. same-sums {l = l} {m = l} {s = s} (λ w none. refl) (λ id. refl) refl h;
  falls = λ l s conn number h. same-sums {l = Inbound conn number ∷ l} {m = l} {s = s} {t = s} (λ w none. omega arith) (λ id. refl) refl h;
  row = λ l s conn f a b c h. same-sums {l = l} {m = l} {s = s} (λ w none. refl) (λ id. refl) refl h;
  counts = λ l s conn number c is le h. same-sums {l = l} {m = Inbound conn number ∷ l} {s = s} (λ w none. omega arith) (λ id. refl) refl h;
  parks_call = λ l s p is h. same-sums {l = Inbound p.conn p.number ∷ l} {m = l} {s = s} (λ w none. omega arith) (λ id. refl) refl h;
  parks_result = λ l s p is h. same-sums {l = l} {m = l} {s = s} (λ w none. refl) (λ id. refl) refl h;
  answers = λ l s conn number h. same-sums {l = l} {m = l} {s = s} (λ w none. let e : asked_sum w (map (Frames.answered_on conn number) s.requests) ≡ asked_sum w s.requests = answers-sum w conn number s.requests in omega arith) (λ id. refl) refl h;
  takes = λ l s p h. same-sums {l = l} {m = l} {s = s} (λ w none. refl) (λ id. refl) refl h;
  takes_call = λ l s p q is call h. same-sums {l = l} {m = Inbound q.conn q.number ∷ l} {s = s} (λ w none. omega arith) (λ id. refl) refl h;
  closes = λ l s conn h. same-sums {l = l} {m = l} {s = s} (λ w none. refl) (λ id. refl) refl h;
}
  where
    ended : (s : State) (id : ℕ) (t : Living) → ready_at s id ≡ Some t → (other : ℕ) → waits_in (task_at (record s { tasks = filter (λ (u : Living). not (u.id == id)) s.tasks }) other) ≡ waits_in (task_at s other)
    ended s id t is other = pick (id == other) refl
      where
        pick : (b : Bool) → (id == other) ≡ b → waits_in (find (λ (u : Living). u.id == other) (filter (λ (u : Living). not (u.id == id)) s.tasks)) ≡ waits_in (task_at s other)
        pick true e = subst (λ n. waits_in (find (λ (u : Living). u.id == n) (filter (λ (u : Living). not (u.id == id)) s.tasks)) ≡ waits_in (task_at s n)) (eqb-true id other e)
            (ap waits_in (gone-at id s.tasks) ∙ sym (ap waits_in (ready-is (task_at s id) t is).0 ∙ ap count (ready-is (task_at s id) t is).1))
        pick false e = ap waits_in (gone-other id other (different id other e) s.tasks)

    worked : (s : State) (id : ℕ) (t : Living) (f : Living → Living) → IsSameRow f → (f t).waits ≡ false → ready_at s id ≡ Some t → (other : ℕ) → waits_in (task_at (set_task f id s) other) ≡ waits_in (task_at s other)
    worked s id t f same quiet is other = set-waits s id t f same.id (ready-is (task_at s id) t is).0 other ∙ pick (id == other) refl
      where
        pick : (b : Bool) → (id == other) ≡ b → (if b then count (f t).waits else waits_in (task_at s other)) ≡ waits_in (task_at s other)
        pick true e = ap count quiet ∙ sym (subst (λ n. waits_in (task_at s n) ≡ 0) (eqb-true id other e) (ap waits_in (ready-is (task_at s id) t is).0 ∙ ap count (ready-is (task_at s id) t is).1))
        pick false e = refl

    replied : (l : List Owed) (s : State) (peer : Uuid) (number task lent : ℕ) (kind : Rattle.sp_rules.specs.Classes.Kind) (m : Message) (reply : Reply) (t : Living) → task_at s task ≡ Some t → Waits (Removed peer (Calls number task lent kind m) ∷ l) s → Waits l (set_task (LivingTasks.after_reply g reply) task s)
    replied l s peer number task lent kind m reply t is h = record {
      tasks = λ id. of id (task == id) refl (h.tasks id) (set-waits s task t (LivingTasks.after_reply g reply) (λ u. refl) is id);
      numbers = λ k. let a : flow_sum (one_of k) (Removed peer (Calls number task lent kind m) ∷ l) s ≤ count (nat_le k s.calls_made) = h.numbers k in omega arith;
    }
      where
        small : (b : Bool) → count b ≤ 1
        small true = omega arith
        small false = omega arith

        of : (id : ℕ) (b : Bool) → (task == id) ≡ b → asked_sum (call_of id) s.requests + (asked_sum (call_of id) s.fresh + (count (task == id) + owed_sum (call_of id) l)) ≡ waits_in (task_at s id)
            → waits_in (task_at (set_task (LivingTasks.after_reply g reply) task s) id) ≡ (if task == id then 0 else waits_in (task_at s id)) → flow_sum (call_of id) l s ≡ waits_in (task_at (set_task (LivingTasks.after_reply g reply) task s) id)
        of id true e a w =
            let w' : waits_in (task_at (set_task (LivingTasks.after_reply g reply) task s) id) ≡ 0 = w ∙ ap (λ b. if b then 0 else waits_in (task_at s id)) e in
            let c : count (task == id) ≡ 1 = ap count e in
            let d : waits_in (task_at s id) ≡ count t.waits = subst (λ n. waits_in (task_at s n) ≡ count t.waits) (eqb-true task id e) (ap waits_in is) in
            let f : count t.waits ≤ 1 = small t.waits in omega arith
        of id false e a w =
            let w' : waits_in (task_at (set_task (LivingTasks.after_reply g reply) task s) id) ≡ waits_in (task_at s id) = w ∙ ap (λ b. if b then 0 else waits_in (task_at s id)) e in
            let c : count (task == id) ≡ 0 = ap count e in omega arith

    no-reply : (l : List Owed) (s : State) (peer : Uuid) (number task lent : ℕ) (kind : Rattle.sp_rules.specs.Classes.Kind) (m : Message) → task_at s task ≡ None → Waits (Removed peer (Calls number task lent kind m) ∷ l) s → Waits l s
    no-reply l s peer number task lent kind m is h = absurd (impossible (h.tasks task))
      where
        impossible : asked_sum (call_of task) s.requests + (asked_sum (call_of task) s.fresh + (count (task == task) + owed_sum (call_of task) l)) ≡ waits_in (task_at s task) → ⊥
        impossible a = let c : count (task == task) ≡ 1 = ap count (eq-eqb task task refl) in let d : waits_in (task_at s task) ≡ 0 = ap waits_in is in absurd (omega arith)
