-- Each call that came occurs once, through every rule.
use mathlib.Core.Path.{sym, ap, subst, ◌∙◌}
use Rattle.std.proofs.Common.{arith}
use Rattle.std.proofs.lemmas.Bool.{true≢false, eqb-true}
use Rattle.std.specs.Prelude.{◌≡◌, refl, ℕ, ◌+◌, ◌≤◌, ◌<◌, ◌==◌, ◌&&◌, ◌||◌, not, nat_le, is_some, Bool, true, false, List, [], ◌∷◌, ◌++◌, Option, None, Some, filter, find, map, if◌then◌else◌}
use Rattle.uuid.specs.declared.Uuid.{Uuid}
use Rattle.space_ids.specs.declared.value.Value.{Value}
use Rattle.sp_rules.specs.Classes.{Setting}
use Rattle.sp_rules.specs.Endings
use Rattle.sp_rules.specs.Events.{Event}
use Rattle.sp_rules.specs.Frames
use Rattle.sp_rules.specs.Lists.{at_first, total}
use Rattle.sp_rules.specs.LivingTasks
use Rattle.sp_rules.specs.OwnEvents
use Rattle.sp_rules.specs.ParkedFrames
use Rattle.sp_rules.specs.Space
use Rattle.sp_rules.specs.State as state
use Rattle.sp_rules.specs.State.{State, Object, Stored, Made, Written, Gone, Living, Origin, OfRoot, OfCall, Until, Request, Asked, Calls, LooksUp, Tells, Connection, KeptResult, Frame, CallFrame, ReturnedFrame, ParkedFrame, standing, last_written, task_at, ready_at, object_at, connection_at, connection_to, is_open, set_task, send, opening}
use Rattle.sp_rules.proofs.AllLemmas.{some-none}
use Rattle.sp_rules.proofs.FuelSums.{total-snoc, value_in, found-value}
use Rattle.sp_rules.proofs.OwnLemmas.{unrefused, later, first-of, not-false, and-left, and-right, has-some, own-only, fresh-of}
use Rattle.sp_rules.proofs.ReadyLemmas.{ready-is}
use Rattle.sp_rules.proofs.Stable.{new_row}
use Rattle.std.specs.Prelude.{cond}
use Rattle.std.proofs.lemmas.Bool.{eq-eqb, leb-true, leb-false}
use Rattle.sp_rules.proofs.FuelSums.{total-filter, total-find}
use Rattle.sp_laws.specs.Waiting.{count}
use Rattle.sp_laws.specs.Inbound.{from_origin, from_until, from_parked, occurrences_of, opens, opened, OpensOnce, CallsCameOnce, CallsThatComeAreOnce}
use Rattle.sp_laws.proofs.FlowRules.{Owed, Removed, Inbound, removed, of_origin, of_until, Flows, Begins, FlowParts, on_flow}

-- ---- what is counted

abbrev pub owed_at : ℕ → ℕ → Owed → ℕ
owed_at conn k (Removed peer asked) = 0
owed_at conn k (Inbound c n) = count (c == conn && n == k)

abbrev pub owed_of : ℕ → ℕ → List Owed → ℕ
owed_of conn k l = total (owed_at conn k) l

-- how often it may occur: not at all above the last number; and `o` times if the connection is not open
abbrev pub limit : ℕ → ℕ → Option Connection → ℕ
limit o k None = o
limit o k (Some c) = count (nat_le k c.last)

pub record CameOnce (conn k o : ℕ) (l : List Owed) (s : State) : Type 0 where
  pub live : count (is_open s conn) ≤ o
  pub bound : occurrences_of conn k s + owed_of conn k l ≤ limit o k (connection_at s conn)

pub removed-none : (conn k : ℕ) (rs : List Request) (l : List Owed) → owed_of conn k (removed rs ++ l) ≡ owed_of conn k l
removed-none conn k [] l = refl
removed-none conn k (q ∷ rs) l = let e : owed_of conn k (removed rs ++ l) ≡ owed_of conn k l = removed-none conn k rs l in omega arith

pub origin-owed : (conn k : ℕ) (origin : Origin) (l : List Owed) → owed_of conn k (of_origin origin ++ l) ≡ from_origin conn k origin + owed_of conn k l
origin-owed conn k OfRoot l = omega arith
origin-owed conn k (OfCall c n) l = refl

pub until-owed : (conn k : ℕ) (until : Until) (l : List Owed) → owed_of conn k (of_until until ++ l) ≡ from_until conn k until + owed_of conn k l
until-owed conn k (state.RootAcked task) l = omega arith
until-owed conn k (state.Acked c n) l = refl
until-owed conn k (state.Passed moment) l = omega arith

-- a row that is changed and weighs the same
pub first-same : {A : Type 0} (v : A → ℕ) (is : A → Bool) (f : A → A) (xs : List A) → ((x : A) → v (f x) ≡ v x) → total v (at_first is f xs) ≡ total v xs
first-same v is f [] same = refl
first-same v is f (x ∷ xs) same = pick (is x) (first-same v is f xs same)
  where
    pick : (b : Bool) → total v (at_first is f xs) ≡ total v xs → total v (if b then f x ∷ xs else x ∷ at_first is f xs) ≡ v x + total v xs
    pick true rest = let e : v (f x) ≡ v x = same x in omega arith
    pick false rest = omega arith

-- ---- connections

pub same-limit : (o k conn at : ℕ) (f : Connection → Connection) → ((c : Connection) → (f c).number ≡ c.number) → ((c : Connection) → (f c).last ≡ c.last) → (cs : List Connection)
    → limit o k (find (λ (c : Connection). c.number == conn) (at_first (λ (c : Connection). c.number == at) f cs)) ≡ limit o k (find (λ (c : Connection). c.number == conn) cs)
same-limit o k conn at f num last [] = refl
same-limit o k conn at f num last (c ∷ cs) = pick (c.number == at) (same-limit o k conn at f num last cs)
  where
    found : (b d : Bool) → b ≡ d → (x y : Option Connection) → limit o k x ≡ limit o k y → limit o k (cond b (Some (f c)) x) ≡ limit o k (cond d (Some c) y)
    found true true e x y z = ap (λ n. count (nat_le k n)) (last c)
    found true false e x y z = absurd (true≢false e)
    found false true e x y z = absurd (true≢false (sym e))
    found false false e x y z = z

    same : (b : Bool) (x y : Option Connection) → limit o k x ≡ limit o k y → limit o k (cond b (Some c) x) ≡ limit o k (cond b (Some c) y)
    same true x y z = refl
    same false x y z = z

    pick : (b : Bool) → limit o k (find (λ (d : Connection). d.number == conn) (at_first (λ (d : Connection). d.number == at) f cs)) ≡ limit o k (find (λ (d : Connection). d.number == conn) cs)
        → limit o k (find (λ (d : Connection). d.number == conn) (if b then f c ∷ cs else c ∷ at_first (λ (d : Connection). d.number == at) f cs)) ≡ limit o k (find (λ (d : Connection). d.number == conn) (c ∷ cs))
    pick true rest = found ((f c).number == conn) (c.number == conn) (ap (λ n. n == conn) (num c)) (find (λ (d : Connection). d.number == conn) cs) (find (λ (d : Connection). d.number == conn) cs) refl
    pick false rest = same (c.number == conn) (find (λ (d : Connection). d.number == conn) (at_first (λ (d : Connection). d.number == at) f cs)) (find (λ (d : Connection). d.number == conn) cs) rest

same-open : (conn at : ℕ) (f : Connection → Connection) → ((c : Connection) → (f c).number ≡ c.number) → (cs : List Connection)
    → is_some (find (λ (c : Connection). c.number == conn) (at_first (λ (c : Connection). c.number == at) f cs)) ≡ is_some (find (λ (c : Connection). c.number == conn) cs)
same-open conn at f num [] = refl
same-open conn at f num (c ∷ cs) = pick (c.number == at) (same-open conn at f num cs)
  where
    found : (b d : Bool) → b ≡ d → (u v : Connection) (x y : Option Connection) → is_some x ≡ is_some y → is_some (cond b (Some u) x) ≡ is_some (cond d (Some v) y)
    found true true e u v x y z = refl
    found true false e u v x y z = absurd (true≢false e)
    found false true e u v x y z = absurd (true≢false (sym e))
    found false false e u v x y z = z

    pick : (b : Bool) → is_some (find (λ (d : Connection). d.number == conn) (at_first (λ (d : Connection). d.number == at) f cs)) ≡ is_some (find (λ (d : Connection). d.number == conn) cs)
        → is_some (find (λ (d : Connection). d.number == conn) (if b then f c ∷ cs else c ∷ at_first (λ (d : Connection). d.number == at) f cs)) ≡ is_some (find (λ (d : Connection). d.number == conn) (c ∷ cs))
    pick true rest = found ((f c).number == conn) (c.number == conn) (ap (λ n. n == conn) (num c)) (f c) c (find (λ (d : Connection). d.number == conn) cs) (find (λ (d : Connection). d.number == conn) cs) refl
    pick false rest = found (c.number == conn) (c.number == conn) refl c c (find (λ (d : Connection). d.number == conn) (at_first (λ (d : Connection). d.number == at) f cs)) (find (λ (d : Connection). d.number == conn) cs) rest

-- the first row of a number that is changed
pub counted-row : (conn : ℕ) (f : Connection → Connection) → ((c : Connection) → (f c).number ≡ c.number) → (cs : List Connection) (c : Connection) → find (λ (d : Connection). d.number == conn) cs ≡ Some c
    → find (λ (d : Connection). d.number == conn) (at_first (λ (d : Connection). d.number == conn) f cs) ≡ Some (f c)
counted-row conn f num [] c e = absurd (some-none c (sym e))
counted-row conn f num (d ∷ cs) c e = pick (d.number == conn) refl e (counted-row conn f num cs c)
  where
    here : (b : Bool) → b ≡ true → (x y : Option Connection) → cond b x y ≡ x
    here true g x y = refl
    here false g x y = absurd (true≢false (sym g))

    pick : (b : Bool) → (d.number == conn) ≡ b → cond b (Some d) (find (λ (x : Connection). x.number == conn) cs) ≡ Some c → (find (λ (x : Connection). x.number == conn) cs ≡ Some c → find (λ (x : Connection). x.number == conn) (at_first (λ (x : Connection). x.number == conn) f cs) ≡ Some (f c))
        → find (λ (x : Connection). x.number == conn) (if b then f d ∷ cs else d ∷ at_first (λ (x : Connection). x.number == conn) f cs) ≡ Some (f c)
    pick true g h rest = here ((f d).number == conn) (ap (λ n. n == conn) (num d) ∙ g) (Some (f d)) (find (λ (x : Connection). x.number == conn) cs) ∙ ap {A = Connection} {B = Option Connection} (λ x. Some (f x)) (Rattle.sp_rules.proofs.OwnLemmas.some-same h)
    pick false g h rest = subst (λ b. cond b (Some d) (find (λ (x : Connection). x.number == conn) (at_first (λ (x : Connection). x.number == conn) f cs)) ≡ Some (f c)) (sym g) (rest h)

pub other-row : (conn at : ℕ) → (at ≡ conn → ⊥) → (f : Connection → Connection) → ((c : Connection) → (f c).number ≡ c.number) → (cs : List Connection) → find (λ (d : Connection). d.number == conn) (at_first (λ (d : Connection). d.number == at) f cs) ≡ find (λ (d : Connection). d.number == conn) cs
other-row conn at apart f num [] = refl
other-row conn at apart f num (d ∷ cs) = pick (d.number == at) refl (d.number == conn) refl (other-row conn at apart f num cs)
  where
    pick : (b : Bool) → (d.number == at) ≡ b → (e : Bool) → (d.number == conn) ≡ e → find (λ (x : Connection). x.number == conn) (at_first (λ (x : Connection). x.number == at) f cs) ≡ find (λ (x : Connection). x.number == conn) cs
        → find (λ (x : Connection). x.number == conn) (if b then f d ∷ cs else d ∷ at_first (λ (x : Connection). x.number == at) f cs) ≡ find (λ (x : Connection). x.number == conn) (d ∷ cs)
    pick true g true h rest = absurd (apart (sym (eqb-true d.number at g) ∙ eqb-true d.number conn h))
    pick true g false h rest = ap (λ b. cond b (Some (f d)) (find (λ (x : Connection). x.number == conn) cs)) (ap (λ n. n == conn) (num d) ∙ h) ∙ sym (ap (λ b. cond b (Some d) (find (λ (x : Connection). x.number == conn) cs)) h)
    pick false g e h rest = ap (λ o. cond (d.number == conn) (Some d) o) rest

pub closed-row : (conn : ℕ) (cs : List Connection) → find (λ (d : Connection). d.number == conn) (filter (λ (d : Connection). not (d.number == conn)) cs) ≡ None
closed-row conn [] = refl
closed-row conn (d ∷ cs) = pick (d.number == conn) refl (closed-row conn cs)
  where
    pick : (b : Bool) → (d.number == conn) ≡ b → find (λ (x : Connection). x.number == conn) (filter (λ (x : Connection). not (x.number == conn)) cs) ≡ None → find (λ (x : Connection). x.number == conn) (cond (not b) (d ∷ filter (λ (x : Connection). not (x.number == conn)) cs) (filter (λ (x : Connection). not (x.number == conn)) cs)) ≡ None
    pick true g rest = rest
    pick false g rest = subst (λ b. cond b (Some d) (find (λ (x : Connection). x.number == conn) (filter (λ (x : Connection). not (x.number == conn)) cs)) ≡ None) (sym g) rest

pub open-row : (conn at : ℕ) → (at ≡ conn → ⊥) → (cs : List Connection) → find (λ (d : Connection). d.number == conn) (filter (λ (d : Connection). not (d.number == at)) cs) ≡ find (λ (d : Connection). d.number == conn) cs
open-row conn at apart [] = refl
open-row conn at apart (d ∷ cs) = pick (d.number == at) refl (d.number == conn) refl (open-row conn at apart cs)
  where
    pick : (b : Bool) → (d.number == at) ≡ b → (e : Bool) → (d.number == conn) ≡ e → find (λ (x : Connection). x.number == conn) (filter (λ (x : Connection). not (x.number == at)) cs) ≡ find (λ (x : Connection). x.number == conn) cs
        → find (λ (x : Connection). x.number == conn) (cond (not b) (d ∷ filter (λ (x : Connection). not (x.number == at)) cs) (filter (λ (x : Connection). not (x.number == at)) cs)) ≡ find (λ (x : Connection). x.number == conn) (d ∷ cs)
    pick true g true h rest = absurd (apart (sym (eqb-true d.number at g) ∙ eqb-true d.number conn h))
    pick true g false h rest = rest ∙ sym (ap (λ b. cond b (Some d) (find (λ (x : Connection). x.number == conn) cs)) h)
    pick false g e h rest = ap (λ o. cond (d.number == conn) (Some d) o) rest

-- a connection more, of another number, or of this one if none is open
pub more-row : (conn : ℕ) (row : Connection) → (row.number == conn) ≡ false → (cs : List Connection) → find (λ (d : Connection). d.number == conn) (cs ++ row ∷ []) ≡ find (λ (d : Connection). d.number == conn) cs
more-row conn row e [] = ap (λ b. cond b (Some row) None) e
more-row conn row e (d ∷ cs) = ap (λ o. cond (d.number == conn) (Some d) o) (more-row conn row e cs)

new-row : (conn : ℕ) (row : Connection) → (row.number == conn) ≡ true → (cs : List Connection) → is_some (find (λ (d : Connection). d.number == conn) cs) ≡ false → find (λ (d : Connection). d.number == conn) (cs ++ row ∷ []) ≡ Some row
new-row conn row e [] shut = ap (λ b. cond b (Some row) None) e
new-row conn row e (d ∷ cs) shut = pick (d.number == conn) shut (new-row conn row e cs)
  where
    pick : (b : Bool) → is_some (cond b (Some d) (find (λ (x : Connection). x.number == conn) cs)) ≡ false → (is_some (find (λ (x : Connection). x.number == conn) cs) ≡ false → find (λ (x : Connection). x.number == conn) (cs ++ row ∷ []) ≡ Some row) → cond b (Some d) (find (λ (x : Connection). x.number == conn) (cs ++ row ∷ [])) ≡ Some row
    pick true f rest = absurd (true≢false f)
    pick false f rest = rest f

-- results whose connection ends are held for a time, and for no Ack
pub orphans-less : (conn k at moment : ℕ) (ks : List KeptResult) → total (λ (x : KeptResult). from_until conn k x.until) (map (Endings.orphan at moment) ks) ≤ total (λ (x : KeptResult). from_until conn k x.until) ks
orphans-less conn k at moment [] = omega arith
orphans-less conn k at moment (x ∷ ks) =
    let a : from_until conn k (Endings.orphan at moment x).until ≤ from_until conn k x.until = one x.until x.value in
    let b : total (λ (y : KeptResult). from_until conn k y.until) (map (Endings.orphan at moment) ks) ≤ total (λ (y : KeptResult). from_until conn k y.until) ks = orphans-less conn k at moment ks in omega arith
  where
    one : (until : Until) (value : Option Value) → from_until conn k (Endings.orphan at moment (record { until = until; value = value })).until ≤ from_until conn k until
    one (state.RootAcked task) value = omega arith
    one (state.Acked c n) value = pick (c == at)
      where
        pick : (b : Bool) → from_until conn k (if◌then◌else◌ {A = KeptResult} b (record { until = state.Passed (moment + 600000); value = value }) (record { until = state.Acked c n; value = value })).until ≤ count (c == conn && n == k)
        pick true = omega arith
        pick false = omega arith
    one (state.Passed m) value = omega arith

small : (b : Bool) → count b ≤ 1
small true = omega arith
small false = omega arith

limit-small : (conn k o : ℕ) (l : List Owed) (s : State) → CameOnce conn k o l s → limit o k (connection_at s conn) ≤ o
limit-small conn k o l s h = pick (connection_at s conn) h.live
  where
    pick : (c : Option Connection) → count (is_some c) ≤ o → limit o k c ≤ o
    pick None e = omega arith
    pick (Some c) e = let a : count (nat_le k c.last) ≤ 1 = small (nat_le k c.last) in omega arith

-- a state in which it occurs no more often, whose connections are as they were
fewer : {conn k o : ℕ} {l m : List Owed} {s t : State} → occurrences_of conn k t + owed_of conn k m ≤ occurrences_of conn k s + owed_of conn k l → connection_at t conn ≡ connection_at s conn → CameOnce conn k o l s → CameOnce conn k o m t
fewer {conn} {k} {o} {l} {m} {s} {t} e c h = record {
  live = let a : count (is_open t conn) ≡ count (is_open s conn) = ap (λ x. count (is_some x)) c in let b : count (is_open s conn) ≤ o = h.live in omega arith;
  bound = let a : limit o k (connection_at t conn) ≡ limit o k (connection_at s conn) = ap (limit o k) c in let b : occurrences_of conn k s + owed_of conn k l ≤ limit o k (connection_at s conn) = h.bound in omega arith;
}

pub call-weight : (conn k : ℕ) (p : ParkedFrame) → Frames.is_call_frame p.frame ≡ true → from_parked conn k p ≡ count (p.conn == conn && p.number == k)
call-weight conn k p e = ap (λ b. count (b && (p.conn == conn && p.number == k))) e

pub result-weight : (conn k : ℕ) (p : ParkedFrame) → Frames.is_call_frame p.frame ≡ false → from_parked conn k p ≡ 0
result-weight conn k p e = ap (λ b. count (b && (p.conn == conn && p.number == k))) e

came_flow : (g : Setting) (conn k o : ℕ) → Flows g (CameOnce conn k o)
came_flow g conn k o = record {
  quiet = λ l s t e h. fewer {l = l} {m = l} {s = s} {t = t} (let a : occurrences_of conn k t ≡ occurrences_of conn k s = ap (λ (c : FlowParts). total (from_parked conn k) c.parked + (total (λ (u : Living). from_origin conn k u.origin) c.tasks + total (λ (x : KeptResult). from_until conn k x.until) c.results)) e in omega arith)
      (ap (λ (c : FlowParts). find (λ (d : Connection). d.number == conn) c.connections) e) h;
  adds = λ l s q h. fewer {l = Removed q.peer q.asked ∷ l} {m = l} {s = s} (omega arith) refl h;
  tells = λ l s q call group e h. fewer {l = l} {m = l} {s = s} (omega arith) refl h;
  told = λ l s peer call group h. fewer {l = Removed peer (Tells call group) ∷ l} {m = l} {s = s} {t = s} (omega arith) refl h;
  unfresh = λ l s h. fewer {l = l} {m = removed s.fresh ++ l} {s = s} (let a : owed_of conn k (removed s.fresh ++ l) ≡ owed_of conn k l = removed-none conn k s.fresh l in omega arith) refl h;
  removes = λ l s is h. fewer {l = l} {m = removed (filter is s.requests) ++ l} {s = s} (let a : owed_of conn k (removed (filter is s.requests) ++ l) ≡ owed_of conn k l = removed-none conn k (filter is s.requests) l in omega arith) refl h;
  sorts = λ l s is rs h. fewer {l = removed rs ++ l} {m = removed (filter (λ q. not (is q)) rs) ++ (removed (filter is rs) ++ l)} {s = s} {t = s} (
      let a : owed_of conn k (removed rs ++ l) ≡ owed_of conn k l = removed-none conn k rs l in
      let b : owed_of conn k (removed (filter (λ q. not (is q)) rs) ++ (removed (filter is rs) ++ l)) ≡ owed_of conn k (removed (filter is rs) ++ l) = removed-none conn k (filter (λ q. not (is q)) rs) (removed (filter is rs) ++ l) in
      let c : owed_of conn k (removed (filter is rs) ++ l) ≡ owed_of conn k l = removed-none conn k (filter is rs) l in omega arith) refl h;
  removes_one = λ l s finds is n q e passes has h. fewer {l = l} {m = Removed q.peer q.asked ∷ l} {s = s} (omega arith) refl h;
  removes_told = λ l s dirty c sequence h. fewer {l = l} {m = l} {s = s} (omega arith) refl h;
  begins = λ l s origin method arguments fuel h. fewer {l = of_origin origin ++ l} {m = l} {s = s} (
      let a : owed_of conn k (of_origin origin ++ l) ≡ from_origin conn k origin + owed_of conn k l = origin-owed conn k origin l in
      let b : total (λ (u : Living). from_origin conn k u.origin) (s.tasks ++ new_row g origin method arguments fuel s ∷ []) ≡ total (λ (u : Living). from_origin conn k u.origin) s.tasks + from_origin conn k origin = total-snoc (λ (u : Living). from_origin conn k u.origin) s.tasks (new_row g origin method arguments fuel s) in omega arith) refl h;
  ends = λ l s id t is h. fewer {l = l} {m = of_origin t.origin ++ l} {s = s} (
      let a : owed_of conn k (of_origin t.origin ++ l) ≡ from_origin conn k t.origin + owed_of conn k l = origin-owed conn k t.origin l in
      let b : value_in (λ (u : Living). from_origin conn k u.origin) (task_at s id) + total (λ (u : Living). from_origin conn k u.origin) (filter (λ (u : Living). not (u.id == id)) s.tasks) ≤ total (λ (u : Living). from_origin conn k u.origin) s.tasks = total-find (λ (u : Living). from_origin conn k u.origin) (λ (u : Living). u.id == id) s.tasks in
      let c : value_in (λ (u : Living). from_origin conn k u.origin) (task_at s id) ≡ from_origin conn k t.origin = found-value (λ (u : Living). from_origin conn k u.origin) (task_at s id) t (ready-is (task_at s id) t is).0 in omega arith) refl h;
  replies = λ l s peer number task lent kind m reply t is h. fewer {l = Removed peer (Calls number task lent kind m) ∷ l} {m = l} {s = s} (
      let a : total (λ (u : Living). from_origin conn k u.origin) (at_first (λ (u : Living). u.id == task) (LivingTasks.after_reply g reply) s.tasks) ≡ total (λ (u : Living). from_origin conn k u.origin) s.tasks = first-same (λ (u : Living). from_origin conn k u.origin) (λ (u : Living). u.id == task) (LivingTasks.after_reply g reply) s.tasks (λ u. refl) in omega arith) refl h;
  replies_none = λ l s peer number task lent kind m is h. fewer {l = Removed peer (Calls number task lent kind m) ∷ l} {m = l} {s = s} {t = s} (omega arith) refl h;
  looked_up = λ l s peer number task name h. fewer {l = Removed peer (LooksUp number task name) ∷ l} {m = l} {s = s} {t = s} (omega arith) refl h;
  works = λ l s id t f row ready is h. fewer {l = l} {m = l} {s = s} (
      let a : total (λ (u : Living). from_origin conn k u.origin) (at_first (λ (u : Living). u.id == id) f s.tasks) ≡ total (λ (u : Living). from_origin conn k u.origin) s.tasks = first-same (λ (u : Living). from_origin conn k u.origin) (λ (u : Living). u.id == id) f s.tasks (λ u. ap (from_origin conn k) (row.origin u)) in omega arith) refl h;
  keeps = λ l s until value h. fewer {l = of_until until ++ l} {m = l} {s = s} (
      let a : owed_of conn k (of_until until ++ l) ≡ from_until conn k until + owed_of conn k l = until-owed conn k until l in
      let b : total (λ (x : KeptResult). from_until conn k x.until) (s.results ++ record { until = until; value = value } ∷ []) ≡ total (λ (x : KeptResult). from_until conn k x.until) s.results + from_until conn k until = total-snoc (λ (x : KeptResult). from_until conn k x.until) s.results (record { until = until; value = value }) in omega arith) refl h;
  results_go = λ l s is h. fewer {l = l} {m = l} {s = s} (let a : total (λ (x : KeptResult). from_until conn k x.until) (filter is s.results) ≤ total (λ (x : KeptResult). from_until conn k x.until) s.results = total-filter (λ (x : KeptResult). from_until conn k x.until) is s.results in omega arith) refl h;
  falls = λ l s c n h. fewer {l = Inbound c n ∷ l} {m = l} {s = s} {t = s} (omega arith) refl h;
  row = λ l s at f num last dialled h. record {
    live = let a : count (is_some (find (λ (c : Connection). c.number == conn) (at_first (λ (c : Connection). c.number == at) f s.connections))) ≡ count (is_open s conn) = ap count (same-open conn at f num s.connections) in let b : count (is_open s conn) ≤ o = h.live in omega arith;
    bound = let a : limit o k (find (λ (c : Connection). c.number == conn) (at_first (λ (c : Connection). c.number == at) f s.connections)) ≡ limit o k (connection_at s conn) = same-limit o k conn at f num last s.connections in let b : occurrences_of conn k s + owed_of conn k l ≤ limit o k (connection_at s conn) = h.bound in omega arith;
  };
  counts = λ l s at number c is low h. one-more l s at number c is low h (at == conn) refl;
  parks_call = λ l s p is h. fewer {l = Inbound p.conn p.number ∷ l} {m = l} {s = s} (
      let a : total (from_parked conn k) (s.parked ++ p ∷ []) ≡ total (from_parked conn k) s.parked + from_parked conn k p = total-snoc (from_parked conn k) s.parked p in
      let b : from_parked conn k p ≡ count (p.conn == conn && p.number == k) = call-weight conn k p is in omega arith) refl h;
  parks_result = λ l s p is h. fewer {l = l} {m = l} {s = s} (
      let a : total (from_parked conn k) (s.parked ++ p ∷ []) ≡ total (from_parked conn k) s.parked + from_parked conn k p = total-snoc (from_parked conn k) s.parked p in
      let b : from_parked conn k p ≡ 0 = result-weight conn k p is in omega arith) refl h;
  answers = λ l s c n h. fewer {l = l} {m = l} {s = s} (omega arith) refl h;
  takes = λ l s p h. fewer {l = l} {m = l} {s = s} (let a : total (from_parked conn k) (filter (λ q. not (ParkedFrames.is_parked_at p.conn p.number q)) s.parked) ≤ total (from_parked conn k) s.parked = total-filter (from_parked conn k) (λ q. not (ParkedFrames.is_parked_at p.conn p.number q)) s.parked in omega arith) refl h;
  takes_call = λ l s p q is call h. fewer {l = l} {m = Inbound q.conn q.number ∷ l} {s = s} (
      let a : value_in (from_parked conn k) (find (ParkedFrames.is_parked_at p.conn p.number) s.parked) + total (from_parked conn k) (filter (λ x. not (ParkedFrames.is_parked_at p.conn p.number x)) s.parked) ≤ total (from_parked conn k) s.parked = total-find (from_parked conn k) (ParkedFrames.is_parked_at p.conn p.number) s.parked in
      let b : value_in (from_parked conn k) (find (ParkedFrames.is_parked_at p.conn p.number) s.parked) ≡ from_parked conn k q = found-value (from_parked conn k) (find (ParkedFrames.is_parked_at p.conn p.number) s.parked) q is in
      let c : from_parked conn k q ≡ count (q.conn == conn && q.number == k) = call-weight conn k q call in omega arith) refl h;
  closes = λ l s at h. shuts l s at h (at == conn) refl;
}
  where
    apart : (a b : ℕ) → (a == b) ≡ false → a ≡ b → ⊥
    apart a b e f = true≢false (sym (eq-eqb a b f) ∙ e)

    shuts : (l : List Owed) (s : State) (at : ℕ) → CameOnce conn k o l s → (b : Bool) → (at == conn) ≡ b → CameOnce conn k o l (Endings.without_connection at s)
    shuts l s at h true e =
        let q : at ≡ conn = eqb-true at conn e in
        let n : connection_at (Endings.without_connection at s) conn ≡ None = subst (λ n. find (λ (d : Connection). d.number == conn) (filter (λ (d : Connection). not (d.number == n)) s.connections) ≡ None) (sym q) (closed-row conn s.connections) in
        let r : total (λ (x : KeptResult). from_until conn k x.until) (map (Endings.orphan at s.moment) s.results) ≤ total (λ (x : KeptResult). from_until conn k x.until) s.results = orphans-less conn k at s.moment s.results in
        let a : occurrences_of conn k s + owed_of conn k l ≤ limit o k (connection_at s conn) = h.bound in
        let b : limit o k (connection_at s conn) ≤ o = limit-small conn k o l s h in record {
          live = let z : count (is_open (Endings.without_connection at s) conn) ≡ 0 = ap (λ x. count (is_some x)) n in omega arith;
          bound = let z : limit o k (connection_at (Endings.without_connection at s) conn) ≡ o = ap (limit o k) n in omega arith;
        }
    shuts l s at h false e = fewer {l = l} {m = l} {s = s} (let r : total (λ (x : KeptResult). from_until conn k x.until) (map (Endings.orphan at s.moment) s.results) ≤ total (λ (x : KeptResult). from_until conn k x.until) s.results = orphans-less conn k at s.moment s.results in omega arith)
        (open-row conn at (apart at conn e) s.connections) h

    one-more : (l : List Owed) (s : State) (at number : ℕ) (c : Connection) → connection_at s at ≡ Some c → nat_le number c.last ≡ false → CameOnce conn k o l s → (b : Bool) → (at == conn) ≡ b → CameOnce conn k o (Inbound at number ∷ l) (Frames.counted at number s)
    one-more l s at number c is low h false e =
        fewer {l = l} {m = Inbound at number ∷ l} {s = s} (let z : count (at == conn && number == k) ≡ 0 = ap (λ b. count (b && number == k)) e in omega arith) (other-row conn at (apart at conn e) (λ (d : Connection). record d { last = number }) (λ d. refl) s.connections) h
    one-more l s at number c is low h true e =
        let q : at ≡ conn = eqb-true at conn e in
        let was : connection_at s conn ≡ Some c = subst (λ n. connection_at s n ≡ Some c) q is in
        let now : connection_at (Frames.counted at number s) conn ≡ Some (record c { last = number }) = subst (λ n. find (λ (d : Connection). d.number == conn) (at_first (λ (d : Connection). d.number == n) (λ (d : Connection). record d { last = number }) s.connections) ≡ Some (record c { last = number })) (sym q) (counted-row conn (λ (d : Connection). record d { last = number }) (λ d. refl) s.connections c was) in
        let a : occurrences_of conn k s + owed_of conn k l ≤ limit o k (connection_at s conn) = h.bound in
        let b : limit o k (connection_at s conn) ≡ count (nat_le k c.last) = ap (limit o k) was in
        let d : limit o k (connection_at (Frames.counted at number s) conn) ≡ count (nat_le k number) = ap (limit o k) now in
        let x : count (at == conn && number == k) ≡ count (number == k) = ap (λ y. count (y && number == k)) e in
        let y : count (number == k) + count (nat_le k c.last) ≤ count (nat_le k number) = rises in record {
          live = let z : count (is_open (Frames.counted at number s) conn) ≡ 1 = ap (λ v. count (is_some v)) now in let v : count (is_open s conn) ≡ 1 = ap (λ v. count (is_some v)) was in let w : count (is_open s conn) ≤ o = h.live in omega arith;
          bound = omega arith;
        }
      where
        rises : count (number == k) + count (nat_le k c.last) ≤ count (nat_le k number)
        rises = pick (number == k) refl (nat_le k c.last) refl (nat_le k number) refl
          where
            over : c.last < number
            over = leb-false number c.last low

            pick : (x : Bool) → (number == k) ≡ x → (y : Bool) → nat_le k c.last ≡ y → (z : Bool) → nat_le k number ≡ z → count x + count y ≤ count z
            pick true e true f z g = let a : number ≡ k = eqb-true number k e in let b : k ≤ c.last = leb-true k c.last f in let d : c.last < number = leb-false number c.last low in absurd (omega arith)
            pick true e false f true g = omega arith
            pick true e false f false g = let a : number ≡ k = eqb-true number k e in let b : number < k = leb-false k number g in absurd (omega arith)
            pick false e true f true g = omega arith
            pick false e true f false g = let b : k ≤ c.last = leb-true k c.last f in let d : number < k = leb-false k number g in let v : c.last < number = leb-false number c.last low in absurd (omega arith)
            pick false e false f true g = omega arith
            pick false e false f false g = omega arith

-- ---- events

came-begin : (g : Setting) (s : State) (conn k o : ℕ) (e : Event) → (opens conn e ≡ true → (occurrences_of conn k s ≡ 0) × ((is_open s conn ≡ false) × (1 ≤ o))) → Begins g (CameOnce conn k o) s e
came-begin g s conn k o e new = record {
  opens = λ c dialled is h. opening-row c dialled h (c == conn) refl (λ t. new (ap (opens conn) is ∙ t));
  parks = λ id n t target method arguments is ready stands h. fewer {l = []} {m = []} {s = s} (
      let a : total (λ (u : Living). from_origin conn k u.origin) (at_first (λ (u : Living). u.id == id) (LivingTasks.waiting n) s.tasks) ≡ total (λ (u : Living). from_origin conn k u.origin) s.tasks = first-same (λ (u : Living). from_origin conn k u.origin) (λ (u : Living). u.id == id) (LivingTasks.waiting n) s.tasks (λ u. refl) in omega arith) refl h;
  looks = λ peer name is h. fewer {l = []} {m = []} {s = s} (omega arith) refl h;
}
  where
    opening-row : (c : ℕ) (dialled : Option Uuid) → CameOnce conn k o [] s → (b : Bool) → (c == conn) ≡ b → ((c == conn) ≡ true → (occurrences_of conn k s ≡ 0) × ((is_open s conn ≡ false) × (1 ≤ o))) → CameOnce conn k o [] (OwnEvents.add_connection c dialled s)
    opening-row c dialled h false e n = fewer {l = []} {m = []} {s = s} (omega arith) (more-row conn (record { number = c; dialled = dialled; peer = None; version = 1; last = 0; sent = [] }) e s.connections) h
    opening-row c dialled h true e n =
        let x : (occurrences_of conn k s ≡ 0) × ((is_open s conn ≡ false) × (1 ≤ o)) = n e in
        let z : occurrences_of conn k s ≡ 0 = x.0 in
        let w : 1 ≤ o = x.1.1 in
        let now : connection_at (OwnEvents.add_connection c dialled s) conn ≡ Some (record { number = c; dialled = dialled; peer = None; version = 1; last = 0; sent = [] }) = new-row conn (record { number = c; dialled = dialled; peer = None; version = 1; last = 0; sent = [] }) e s.connections x.1.0 in record {
          live = let v : count (is_open (OwnEvents.add_connection c dialled s) conn) ≡ 1 = ap (λ y. count (is_some y)) now in omega arith;
          bound = omega arith;
        }

pub came-of : (g : Setting) (h : List Event) (conn k : ℕ) → OpensOnce h → CameOnce conn k (count (opened conn h)) [] (Space.state_of g h)
unfolding Space.state_of opening
came-of g [] conn k t = record { live = omega arith; bound = omega arith }
came-of g (e ∷ h) conn k t = pick (opens conn e) refl (came-of g h conn k t.1)
  where
    zero-first : opens conn e ≡ true → CameOnce conn k (count (opened conn h)) [] (Space.state_of g h) → (occurrences_of conn k (Space.state_of g h) ≡ 0) × (is_open (Space.state_of g h) conn ≡ false)
    zero-first f r =
        let z : count (opened conn h) ≡ 0 = ap count (t.0 conn f) in
        let a : occurrences_of conn k (Space.state_of g h) + 0 ≤ limit (count (opened conn h)) k (connection_at (Space.state_of g h) conn) = r.bound in
        let b : limit (count (opened conn h)) k (connection_at (Space.state_of g h) conn) ≤ count (opened conn h) = limit-small conn k (count (opened conn h)) [] (Space.state_of g h) r in
        let c : count (is_open (Space.state_of g h) conn) ≤ count (opened conn h) = r.live in (omega arith, shut (is_open (Space.state_of g h) conn) (omega arith))
      where
        shut : (b : Bool) → count b ≤ 0 → b ≡ false
        shut true le = absurd (omega (arith, le))
        shut false le = refl

    wider : (o : ℕ) (s : State) → o ≤ 1 → is_open s conn ≡ false → CameOnce conn k o [] s → CameOnce conn k 1 [] s
    wider o s le shut r = record {
      live = let a : count (is_open s conn) ≤ o = r.live in omega arith;
      bound = let a : occurrences_of conn k s + 0 ≤ limit o k (connection_at s conn) = r.bound in let b : limit o k (connection_at s conn) ≤ limit 1 k (connection_at s conn) = up (connection_at s conn) in omega arith;
    }
      where
        up : (c : Option Connection) → limit o k c ≤ limit 1 k c
        up None = le
        up (Some c) = omega arith

    pick : (b : Bool) → opens conn e ≡ b → CameOnce conn k (count (opened conn h)) [] (Space.state_of g h) → CameOnce conn k (count (b || opened conn h)) [] (Space.on g e (Space.state_of g h)).0
    pick true f r =
        let z : (occurrences_of conn k (Space.state_of g h) ≡ 0) × (is_open (Space.state_of g h) conn ≡ false) = zero-first f r in
        on_flow (came_flow g conn k 1) (Space.state_of g h) e (came-begin g (Space.state_of g h) conn k 1 e (λ x. (z.0, (z.1, omega arith)))) (wider (count (opened conn h)) (Space.state_of g h) (small (opened conn h)) z.1 r)
    pick false f r = on_flow (came_flow g conn k (count (opened conn h))) (Space.state_of g h) e (came-begin g (Space.state_of g h) conn k (count (opened conn h)) e (λ x. absurd (true≢false (sym x ∙ f)))) r

pub calls_that_come_are_once : CallsThatComeAreOnce
calls_that_come_are_once g h t = by (Space.state_of g h) (λ conn k. came-of g h conn k t)
  where
    by : (s : State) → ((conn k : ℕ) → CameOnce conn k (count (opened conn h)) [] s) → CallsCameOnce s
    by s w = record {
      once = λ conn k.
          let a : occurrences_of conn k s + 0 ≤ limit (count (opened conn h)) k (connection_at s conn) = (w conn k).bound in
          let b : limit (count (opened conn h)) k (connection_at s conn) ≤ count (opened conn h) = limit-small conn k (count (opened conn h)) [] s (w conn k) in
          let c : count (opened conn h) ≤ 1 = small (opened conn h) in omega arith;
      above = λ conn k c is high.
          let a : occurrences_of conn k s + 0 ≤ limit (count (opened conn h)) k (connection_at s conn) = (w conn k).bound in
          let b : limit (count (opened conn h)) k (connection_at s conn) ≡ count (nat_le k c.last) = ap (limit (count (opened conn h)) k) is in
          let d : count (nat_le k c.last) ≡ 0 = none k c.last high in omega arith;
    }
      where
        none : (k last : ℕ) → last + 1 ≤ k → count (nat_le k last) ≡ 0
        none k last high = pick (nat_le k last) refl
          where
            pick : (b : Bool) → nat_le k last ≡ b → count b ≡ 0
            pick true e = let f : k ≤ last = leb-true k last e in absurd (omega arith)
            pick false e = refl
