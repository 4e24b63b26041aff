-- A call that came and occurs no more never occurs again.
use mathlib.Core.Path.{sym, ap, subst, ◌∙◌}
use Rattle.std.proofs.Common.{arith}
use Rattle.std.proofs.lemmas.Bool.{true≢false, eqb-true}
use Rattle.std.specs.Prelude.{◌≡◌, refl, ℕ, ◌+◌, ◌≤◌, ◌<◌, ◌==◌, ◌&&◌, not, nat_le, Bool, true, false, List, [], ◌∷◌, ◌++◌, Option, None, Some, filter, find, map}
use Rattle.sp_rules.specs.Classes.{Setting}
use Rattle.sp_rules.specs.Endings
use Rattle.sp_rules.specs.Events.{Event}
use Rattle.sp_rules.specs.Frames
use Rattle.sp_rules.specs.Lists.{at_first, total}
use Rattle.sp_rules.specs.LivingTasks
use Rattle.sp_rules.specs.ParkedFrames
use Rattle.sp_rules.specs.Space
use Rattle.sp_rules.specs.State.{State, Living, Calls, LooksUp, Tells, Connection, KeptResult, task_at, connection_at}
use Rattle.sp_rules.proofs.AllLemmas.{some-none, found-is}
use Rattle.sp_rules.proofs.FuelSums.{total-snoc, value_in, found-value}
use Rattle.sp_rules.proofs.ReadyLemmas.{ready-is}
use Rattle.sp_rules.proofs.Stable.{new_row}
use Rattle.std.proofs.lemmas.Bool.{eq-eqb, leb-true, leb-false, le-leb}
use Rattle.sp_rules.proofs.FuelSums.{total-filter, total-find}
use Rattle.sp_laws.specs.Waiting.{count}
use Rattle.sp_laws.specs.Inbound.{from_origin, from_until, from_parked, occurrences_of, opens, opened, OpensOnce, CallsThatWentStayGone}
use Rattle.sp_laws.proofs.FlowRules.{Owed, Removed, Inbound, removed, of_origin, of_until, Flows, Begins, FlowParts, on_flow}
use Rattle.sp_laws.proofs.InboundLemmas.{owed_of, limit, removed-none, origin-owed, until-owed, first-same, same-limit, counted-row, other-row, closed-row, open-row, more-row, orphans-less, call-weight, result-weight}

-- It occurs nowhere, and is not above the last number of its connection if that is open.
pub record IsPast (conn k : ℕ) (l : List Owed) (s : State) : Type 0 where
  pub nowhere : occurrences_of conn k s + owed_of conn k l ≡ 0
  pub passed : limit 1 k (connection_at s conn) ≡ 1

less : {conn k : ℕ} {l m : List Owed} {s t : State} → occurrences_of conn k t + owed_of conn k m ≤ occurrences_of conn k s + owed_of conn k l → limit 1 k (connection_at t conn) ≡ limit 1 k (connection_at s conn) → IsPast conn k l s → IsPast conn k m t
less {conn} {k} {l} {m} {s} {t} e c h = record {
  nowhere = let a : occurrences_of conn k s + owed_of conn k l ≡ 0 = h.nowhere in omega arith;
  passed = c ∙ h.passed;
}

apart : (a b : ℕ) → (a == b) ≡ false → a ≡ b → ⊥
apart a b e f = true≢false (sym (eq-eqb a b f) ∙ e)

is-one : (b : Bool) → count b ≡ 1 → b ≡ true
is-one true e = refl
is-one false e = absurd (omega (arith, e))

past_flow : (g : Setting) (conn k : ℕ) → Flows g (IsPast conn k)
past_flow g conn k = record {
  quiet = λ l s t e h. less {conn = conn} {k = k} {l = l} {m = l} {s = s} {t = t} (let a : occurrences_of conn k t ≡ occurrences_of conn k s = ap (λ (c : FlowParts). total (from_parked conn k) c.parked + (total (λ (u : Living). from_origin conn k u.origin) c.tasks + total (λ (x : KeptResult). from_until conn k x.until) c.results)) e in omega arith)
      (ap (λ (c : FlowParts). limit 1 k (find (λ (d : Connection). d.number == conn) c.connections)) e) h;
  adds = λ l s q h. less {conn = conn} {k = k} {l = Removed q.peer q.asked ∷ l} {m = l} {s = s} (omega arith) refl h;
  tells = λ l s q call group e h. less {conn = conn} {k = k} {l = l} {m = l} {s = s} (omega arith) refl h;
  told = λ l s peer call group h. less {conn = conn} {k = k} {l = Removed peer (Tells call group) ∷ l} {m = l} {s = s} {t = s} (omega arith) refl h;
  unfresh = λ l s h. less {conn = conn} {k = k} {l = l} {m = removed s.fresh ++ l} {s = s} (let a : owed_of conn k (removed s.fresh ++ l) ≡ owed_of conn k l = removed-none conn k s.fresh l in omega arith) refl h;
  removes = λ l s is h. less {conn = conn} {k = k} {l = l} {m = removed (filter is s.requests) ++ l} {s = s} (let a : owed_of conn k (removed (filter is s.requests) ++ l) ≡ owed_of conn k l = removed-none conn k (filter is s.requests) l in omega arith) refl h;
  sorts = λ l s is rs h. less {conn = conn} {k = k} {l = removed rs ++ l} {m = removed (filter (λ q. not (is q)) rs) ++ (removed (filter is rs) ++ l)} {s = s} {t = s} (
      let a : owed_of conn k (removed rs ++ l) ≡ owed_of conn k l = removed-none conn k rs l in
      let b : owed_of conn k (removed (filter (λ q. not (is q)) rs) ++ (removed (filter is rs) ++ l)) ≡ owed_of conn k (removed (filter is rs) ++ l) = removed-none conn k (filter (λ q. not (is q)) rs) (removed (filter is rs) ++ l) in
      let c : owed_of conn k (removed (filter is rs) ++ l) ≡ owed_of conn k l = removed-none conn k (filter is rs) l in omega arith) refl h;
  removes_one = λ l s finds is n q e passes has h. less {conn = conn} {k = k} {l = l} {m = Removed q.peer q.asked ∷ l} {s = s} (omega arith) refl h;
  removes_told = λ l s dirty c sequence h. less {conn = conn} {k = k} {l = l} {m = l} {s = s} (omega arith) refl h;
  begins = λ l s origin method arguments fuel h. less {conn = conn} {k = k} {l = of_origin origin ++ l} {m = l} {s = s} (
      let a : owed_of conn k (of_origin origin ++ l) ≡ from_origin conn k origin + owed_of conn k l = origin-owed conn k origin l in
      let b : total (λ (u : Living). from_origin conn k u.origin) (s.tasks ++ new_row g origin method arguments fuel s ∷ []) ≡ total (λ (u : Living). from_origin conn k u.origin) s.tasks + from_origin conn k origin = total-snoc (λ (u : Living). from_origin conn k u.origin) s.tasks (new_row g origin method arguments fuel s) in omega arith) refl h;
  ends = λ l s id t is h. less {conn = conn} {k = k} {l = l} {m = of_origin t.origin ++ l} {s = s} (
      let a : owed_of conn k (of_origin t.origin ++ l) ≡ from_origin conn k t.origin + owed_of conn k l = origin-owed conn k t.origin l in
      let b : value_in (λ (u : Living). from_origin conn k u.origin) (task_at s id) + total (λ (u : Living). from_origin conn k u.origin) (filter (λ (u : Living). not (u.id == id)) s.tasks) ≤ total (λ (u : Living). from_origin conn k u.origin) s.tasks = total-find (λ (u : Living). from_origin conn k u.origin) (λ (u : Living). u.id == id) s.tasks in
      let c : value_in (λ (u : Living). from_origin conn k u.origin) (task_at s id) ≡ from_origin conn k t.origin = found-value (λ (u : Living). from_origin conn k u.origin) (task_at s id) t (ready-is (task_at s id) t is).0 in omega arith) refl h;
  replies = λ l s peer number task lent kind m reply t is h. less {conn = conn} {k = k} {l = Removed peer (Calls number task lent kind m) ∷ l} {m = l} {s = s} (
      let a : total (λ (u : Living). from_origin conn k u.origin) (at_first (λ (u : Living). u.id == task) (LivingTasks.after_reply g reply) s.tasks) ≡ total (λ (u : Living). from_origin conn k u.origin) s.tasks = first-same (λ (u : Living). from_origin conn k u.origin) (λ (u : Living). u.id == task) (LivingTasks.after_reply g reply) s.tasks (λ u. refl) in omega arith) refl h;
  replies_none = λ l s peer number task lent kind m is h. less {conn = conn} {k = k} {l = Removed peer (Calls number task lent kind m) ∷ l} {m = l} {s = s} {t = s} (omega arith) refl h;
  looked_up = λ l s peer number task name h. less {conn = conn} {k = k} {l = Removed peer (LooksUp number task name) ∷ l} {m = l} {s = s} {t = s} (omega arith) refl h;
  works = λ l s id t f row ready is h. less {conn = conn} {k = k} {l = l} {m = l} {s = s} (
      let a : total (λ (u : Living). from_origin conn k u.origin) (at_first (λ (u : Living). u.id == id) f s.tasks) ≡ total (λ (u : Living). from_origin conn k u.origin) s.tasks = first-same (λ (u : Living). from_origin conn k u.origin) (λ (u : Living). u.id == id) f s.tasks (λ u. ap (from_origin conn k) (row.origin u)) in omega arith) refl h;
  keeps = λ l s until value h. less {conn = conn} {k = k} {l = of_until until ++ l} {m = l} {s = s} (
      let a : owed_of conn k (of_until until ++ l) ≡ from_until conn k until + owed_of conn k l = until-owed conn k until l in
      let b : total (λ (x : KeptResult). from_until conn k x.until) (s.results ++ record { until = until; value = value } ∷ []) ≡ total (λ (x : KeptResult). from_until conn k x.until) s.results + from_until conn k until = total-snoc (λ (x : KeptResult). from_until conn k x.until) s.results (record { until = until; value = value }) in omega arith) refl h;
  results_go = λ l s is h. less {conn = conn} {k = k} {l = l} {m = l} {s = s} (let a : total (λ (x : KeptResult). from_until conn k x.until) (filter is s.results) ≤ total (λ (x : KeptResult). from_until conn k x.until) s.results = total-filter (λ (x : KeptResult). from_until conn k x.until) is s.results in omega arith) refl h;
  falls = λ l s c n h. less {conn = conn} {k = k} {l = Inbound c n ∷ l} {m = l} {s = s} {t = s} (omega arith) refl h;
  row = λ l s at f num last dialled h. less {conn = conn} {k = k} {l = l} {m = l} {s = s} (omega arith) (same-limit 1 k conn at f num last s.connections) h;
  counts = λ l s at number c is low h. one-more l s at number c is low h (at == conn) refl;
  parks_call = λ l s p is h. less {conn = conn} {k = k} {l = Inbound p.conn p.number ∷ l} {m = l} {s = s} (
      let a : total (from_parked conn k) (s.parked ++ p ∷ []) ≡ total (from_parked conn k) s.parked + from_parked conn k p = total-snoc (from_parked conn k) s.parked p in
      let b : from_parked conn k p ≡ count (p.conn == conn && p.number == k) = call-weight conn k p is in omega arith) refl h;
  parks_result = λ l s p is h. less {conn = conn} {k = k} {l = l} {m = l} {s = s} (
      let a : total (from_parked conn k) (s.parked ++ p ∷ []) ≡ total (from_parked conn k) s.parked + from_parked conn k p = total-snoc (from_parked conn k) s.parked p in
      let b : from_parked conn k p ≡ 0 = result-weight conn k p is in omega arith) refl h;
  answers = λ l s c n h. less {conn = conn} {k = k} {l = l} {m = l} {s = s} (omega arith) refl h;
  takes = λ l s p h. less {conn = conn} {k = k} {l = l} {m = l} {s = s} (let a : total (from_parked conn k) (filter (λ q. not (ParkedFrames.is_parked_at p.conn p.number q)) s.parked) ≤ total (from_parked conn k) s.parked = total-filter (from_parked conn k) (λ q. not (ParkedFrames.is_parked_at p.conn p.number q)) s.parked in omega arith) refl h;
  takes_call = λ l s p q is call h. less {conn = conn} {k = k} {l = l} {m = Inbound q.conn q.number ∷ l} {s = s} (
      let a : value_in (from_parked conn k) (find (ParkedFrames.is_parked_at p.conn p.number) s.parked) + total (from_parked conn k) (filter (λ x. not (ParkedFrames.is_parked_at p.conn p.number x)) s.parked) ≤ total (from_parked conn k) s.parked = total-find (from_parked conn k) (ParkedFrames.is_parked_at p.conn p.number) s.parked in
      let b : value_in (from_parked conn k) (find (ParkedFrames.is_parked_at p.conn p.number) s.parked) ≡ from_parked conn k q = found-value (from_parked conn k) (find (ParkedFrames.is_parked_at p.conn p.number) s.parked) q is in
      let c : from_parked conn k q ≡ count (q.conn == conn && q.number == k) = call-weight conn k q call in omega arith) refl h;
  closes = λ l s at h. shuts l s at h (at == conn) refl;
}
  where
    shuts : (l : List Owed) (s : State) (at : ℕ) → IsPast conn k l s → (b : Bool) → (at == conn) ≡ b → IsPast conn k l (Endings.without_connection at s)
    shuts l s at h true e =
        let n : connection_at (Endings.without_connection at s) conn ≡ None = subst (λ n. find (λ (d : Connection). d.number == conn) (filter (λ (d : Connection). not (d.number == n)) s.connections) ≡ None) (sym (eqb-true at conn e)) (closed-row conn s.connections) in
        less {conn = conn} {k = k} {l = l} {m = l} {s = s} (let r : total (λ (x : KeptResult). from_until conn k x.until) (map (Endings.orphan at s.moment) s.results) ≤ total (λ (x : KeptResult). from_until conn k x.until) s.results = orphans-less conn k at s.moment s.results in omega arith)
        (ap (limit 1 k) n ∙ sym h.passed) h
    shuts l s at h false e = less {conn = conn} {k = k} {l = l} {m = l} {s = s} (let r : total (λ (x : KeptResult). from_until conn k x.until) (map (Endings.orphan at s.moment) s.results) ≤ total (λ (x : KeptResult). from_until conn k x.until) s.results = orphans-less conn k at s.moment s.results in omega arith)
        (ap (limit 1 k) (open-row conn at (apart at conn e) s.connections)) h

    one-more : (l : List Owed) (s : State) (at number : ℕ) (c : Connection) → connection_at s at ≡ Some c → nat_le number c.last ≡ false → IsPast conn k l s → (b : Bool) → (at == conn) ≡ b → IsPast conn k (Inbound at number ∷ l) (Frames.counted at number s)
    one-more l s at number c is low h false e =
        less {conn = conn} {k = k} {l = l} {m = Inbound at number ∷ l} {s = s} (let z : count (at == conn && number == k) ≡ 0 = ap (λ b. count (b && number == k)) e in omega arith) (ap (limit 1 k) (other-row conn at (apart at conn e) (λ (d : Connection). record d { last = number }) (λ d. refl) s.connections)) h
    one-more l s at number c is low h true e =
        let q : at ≡ conn = eqb-true at conn e in
        let was : connection_at s conn ≡ Some c = subst (λ n. connection_at s n ≡ Some c) q is in
        let now : connection_at (Frames.counted at number s) conn ≡ Some (record c { last = number }) = subst (λ n. find (λ (d : Connection). d.number == conn) (at_first (λ (d : Connection). d.number == n) (λ (d : Connection). record d { last = number }) s.connections) ≡ Some (record c { last = number })) (sym q) (counted-row conn (λ (d : Connection). record d { last = number }) (λ d. refl) s.connections c was) in
        let b : k ≤ c.last = leb-true k c.last (is-one (nat_le k c.last) (sym (ap (limit 1 k) was) ∙ h.passed)) in
        let v : c.last < number = leb-false number c.last low in
        let x : count (at == conn && number == k) ≡ count (number == k) = ap (λ y. count (y && number == k)) e in
        let z : count (number == k) ≡ 0 = differs (number == k) refl b v in record {
          nowhere = let a : occurrences_of conn k s + owed_of conn k l ≡ 0 = h.nowhere in omega arith;
          passed = ap (limit 1 k) now ∙ ap count (le-leb k number (omega arith));
        }
      where
        differs : (y : Bool) → (number == k) ≡ y → k ≤ c.last → c.last < number → count y ≡ 0
        differs true f b v = let a : number ≡ k = eqb-true number k f in absurd (omega arith)
        differs false f b v = refl

past-begin : (g : Setting) (s : State) (conn k : ℕ) (e : Event) → opens conn e ≡ false → Begins g (IsPast conn k) s e
past-begin g s conn k e old = record {
  opens = λ c dialled is h. less {conn = conn} {k = k} {l = []} {m = []} {s = s} (omega arith) (ap (limit 1 k) (more-row conn (record { number = c; dialled = dialled; peer = None; version = 1; last = 0; sent = [] }) (sym (ap (opens conn) is) ∙ old) s.connections)) h;
  parks = λ id n t target method arguments is ready stands h. less {conn = conn} {k = k} {l = []} {m = []} {s = s} (
      let a : total (λ (u : Living). from_origin conn k u.origin) (at_first (λ (u : Living). u.id == id) (LivingTasks.waiting n) s.tasks) ≡ total (λ (u : Living). from_origin conn k u.origin) s.tasks = first-same (λ (u : Living). from_origin conn k u.origin) (λ (u : Living). u.id == id) (LivingTasks.waiting n) s.tasks (λ u. refl) in omega arith) refl h;
  looks = λ peer name is h. less {conn = conn} {k = k} {l = []} {m = []} {s = s} (omega arith) refl h;
}

still-opened : (conn : ℕ) (h more : List Event) → opened conn h ≡ true → opened conn (more ++ h) ≡ true
still-opened conn h [] e = e
still-opened conn h (x ∷ more) e = Rattle.sp_rules.proofs.AllLemmas.or-right (opens conn x) _ (still-opened conn h more e)

past-after : (g : Setting) (conn k : ℕ) (h more : List Event) → OpensOnce (more ++ h) → opened conn h ≡ true → IsPast conn k [] (Space.state_of g h) → IsPast conn k [] (Space.state_of g (more ++ h))
unfolding Space.state_of
past-after g conn k h [] once was x = x
past-after g conn k h (e ∷ more) once was x = on_flow (past_flow g conn k) (Space.state_of g (more ++ h)) e (past-begin g (Space.state_of g (more ++ h)) conn k e (old (opens conn e) refl)) (past-after g conn k h more once.1 was x)
  where
    old : (b : Bool) → opens conn e ≡ b → b ≡ false
    old true f = absurd (true≢false (sym (still-opened conn h more was) ∙ once.0 conn f))
    old false f = refl

pub calls_that_went_stay_gone : CallsThatWentStayGone
calls_that_went_stay_gone g h more conn k once was last none =
    let start : IsPast conn k [] (Space.state_of g h) = record { nowhere = omega arith; passed = pick (connection_at (Space.state_of g h) conn) last } in
    let a : occurrences_of conn k (Space.state_of g (more ++ h)) + 0 ≡ 0 = (past-after g conn k h more once was start).nowhere in omega arith
  where
    pick : (o : Option Connection) → ((c : Connection) → o ≡ Some c → k ≤ c.last) → limit 1 k o ≡ 1
    pick None f = refl
    pick (Some c) f = ap count (le-leb k c.last (f c refl))
