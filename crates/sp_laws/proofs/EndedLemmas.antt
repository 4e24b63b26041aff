-- A call or lookup that ended is never among the requests again.
use mathlib.Core.Path.{ap}
use Rattle.std.proofs.Common.{arith}
use Rattle.std.proofs.lemmas.Bool.{eqb-true}
use Rattle.std.specs.Prelude.{◌≡◌, refl, ℕ, ◌+◌, ◌≤◌, ◌==◌, not, Bool, true, false, List, [], ◌∷◌, ◌++◌, filter, find, map}
use Rattle.sp_rules.specs.Classes.{Setting}
use Rattle.sp_rules.specs.Events.{Event}
use Rattle.sp_rules.specs.Frames
use Rattle.sp_rules.specs.Lists.{total}
use Rattle.sp_rules.specs.Requests
use Rattle.sp_rules.specs.Space
use Rattle.sp_rules.specs.State.{State, Request, Calls, LooksUp, Tells}
use Rattle.sp_rules.proofs.FuelSums.{value_in, found-value}
use Rattle.sp_rules.proofs.FuelSums.{total-filter, total-find}
use Rattle.sp_laws.specs.Waiting.{count, EndedCallsStayEnded}
use Rattle.sp_laws.proofs.FlowRules.{Owed, Removed, Inbound, removed, of_origin, of_until, Flows, Begins, FlowParts, on_flow}
use Rattle.sp_laws.proofs.WaitLemmas.{asked_sum, owed_sum, flow_sum, one_of, owed-origin, owed-until, adds-sum, unfresh-sum, removes-sum, sorts-sum, answers-sum}
use Rattle.sp_laws.proofs.WaitHistories.{no-fresh}

-- The number was given, and stands nowhere.
pub record IsOver (k : ℕ) (l : List Owed) (s : State) : Type 0 where
  pub given : k ≤ s.calls_made
  pub nowhere : flow_sum (one_of k) l s ≡ 0

-- a state in which it stands no more often
less : {k : ℕ} {l m : List Owed} {s t : State} → flow_sum (one_of k) m t ≤ flow_sum (one_of k) l s → t.calls_made ≡ s.calls_made → IsOver k l s → IsOver k m t
less {k} {l} {m} {s} {t} e c h = record {
  given = let a : k ≤ s.calls_made = h.given in omega arith;
  nowhere = let a : flow_sum (one_of k) l s ≡ 0 = h.nowhere in omega arith;
}

gone_flow : (g : Setting) (k : ℕ) → Flows g (IsOver k)
gone_flow g k = record {
  quiet = λ l s t e h. less {k = k} {l = l} {m = l} {s = s} {t = t} (let a : flow_sum (one_of k) l t ≡ flow_sum (one_of k) l s = ap (λ (c : FlowParts). asked_sum (one_of k) c.requests + (asked_sum (one_of k) c.fresh + owed_sum (one_of k) l)) e in omega arith) (ap (λ (c : FlowParts). c.calls_made) e) h;
  adds = λ l s q h. less {k = k} {l = Removed q.peer q.asked ∷ l} {m = l} {s = s} (let a : flow_sum (one_of k) l (Requests.add_request q s) ≡ flow_sum (one_of k) (Removed q.peer q.asked ∷ l) s = adds-sum (one_of k) l s q in omega arith) refl h;
  tells = λ l s q call group e h. less {k = k} {l = l} {m = l} {s = s} (
      let a : flow_sum (one_of k) l (Requests.add_request q s) ≡ flow_sum (one_of k) (Removed q.peer q.asked ∷ l) s = adds-sum (one_of k) l s q in
      let z : one_of k q.asked ≡ 0 = ap (one_of k) e in omega arith) refl h;
  told = λ l s peer call group h. less {k = k} {l = Removed peer (Tells call group) ∷ l} {m = l} {s = s} {t = s} (omega arith) refl h;
  unfresh = λ l s h. less {k = k} {l = l} {m = removed s.fresh ++ l} {s = s} (let a : flow_sum (one_of k) (removed s.fresh ++ l) (record s { fresh = [] }) ≡ flow_sum (one_of k) l s = unfresh-sum (one_of k) l s in omega arith) refl h;
  removes = λ l s is h. less {k = k} {l = l} {m = removed (filter is s.requests) ++ l} {s = s} (let a : flow_sum (one_of k) (removed (filter is s.requests) ++ l) (record s { requests = filter (λ q. not (is q)) s.requests }) ≡ flow_sum (one_of k) l s = removes-sum (one_of k) l s is in omega arith) refl h;
  sorts = λ l s is rs h. less {k = k} {l = removed rs ++ l} {m = removed (filter (λ q. not (is q)) rs) ++ (removed (filter is rs) ++ l)} {s = s} {t = s} (let a : flow_sum (one_of k) (removed (filter (λ q. not (is q)) rs) ++ (removed (filter is rs) ++ l)) s ≡ flow_sum (one_of k) (removed rs ++ l) s = sorts-sum (one_of k) l s is rs in omega arith) refl h;
  removes_one = λ l s finds is n q e passes has h. less {k = k} {l = l} {m = Removed q.peer q.asked ∷ l} {s = s} (
      let z : flow_sum (one_of k) l s ≡ 0 = h.nowhere in
      let a : value_in (λ (p : Request). one_of k p.asked) (find finds s.requests) + total (λ (p : Request). one_of k p.asked) (filter (λ p. not (finds p)) s.requests) ≤ asked_sum (one_of k) s.requests = total-find (λ (p : Request). one_of k p.asked) finds s.requests in
      let b : value_in (λ (p : Request). one_of k p.asked) (find finds s.requests) ≡ one_of k q.asked = found-value (λ (p : Request). one_of k p.asked) (find finds s.requests) q e in
      let c : asked_sum (one_of k) (filter (λ p. not (is p)) s.requests) ≤ asked_sum (one_of k) s.requests = total-filter (λ (p : Request). one_of k p.asked) (λ p. not (is p)) s.requests in omega arith) refl h;
  removes_told = λ l s dirty conn sequence h. less {k = k} {l = l} {m = l} {s = s} (let c : asked_sum (one_of k) (filter (λ q. not (Frames.tells_on dirty conn sequence q)) s.requests) ≤ asked_sum (one_of k) s.requests = total-filter (λ (p : Request). one_of k p.asked) (λ q. not (Frames.tells_on dirty conn sequence q)) s.requests in omega arith) refl h;
  begins = λ l s origin method arguments fuel h. less {k = k} {l = of_origin origin ++ l} {m = l} {s = s} (let e : owed_sum (one_of k) (of_origin origin ++ l) ≡ owed_sum (one_of k) l = owed-origin (one_of k) origin l in omega arith) refl h;
  ends = λ l s id t is h. less {k = k} {l = l} {m = of_origin t.origin ++ l} {s = s} (let e : owed_sum (one_of k) (of_origin t.origin ++ l) ≡ owed_sum (one_of k) l = owed-origin (one_of k) t.origin l in omega arith) refl h;
  replies = λ l s peer number task lent kind m reply t is h. less {k = k} {l = Removed peer (Calls number task lent kind m) ∷ l} {m = l} {s = s} (omega arith) refl h;
  replies_none = λ l s peer number task lent kind m is h. less {k = k} {l = Removed peer (Calls number task lent kind m) ∷ l} {m = l} {s = s} {t = s} (omega arith) refl h;
  looked_up = λ l s peer number task name h. less {k = k} {l = Removed peer (LooksUp number task name) ∷ l} {m = l} {s = s} {t = s} (omega arith) refl h;
  works = λ l s id t f row ready is h. less {k = k} {l = l} {m = l} {s = s} (omega arith) refl h;
  keeps = λ l s until value h. less {k = k} {l = of_until until ++ l} {m = l} {s = s} (let e : owed_sum (one_of k) (of_until until ++ l) ≡ owed_sum (one_of k) l = owed-until (one_of k) until l in omega arith) refl h;
  results_go = λ l s is h. less {k = k} {l = l} {m = l} {s = s} (omega arith) refl h;
  falls = λ l s conn number h. less {k = k} {l = Inbound conn number ∷ l} {m = l} {s = s} {t = s} (omega arith) refl h;
  row = λ l s conn f a b c h. less {k = k} {l = l} {m = l} {s = s} (omega arith) refl h;
  counts = λ l s conn number c is le h. less {k = k} {l = l} {m = Inbound conn number ∷ l} {s = s} (omega arith) refl h;
  parks_call = λ l s p is h. less {k = k} {l = Inbound p.conn p.number ∷ l} {m = l} {s = s} (omega arith) refl h;
  parks_result = λ l s p is h. less {k = k} {l = l} {m = l} {s = s} (omega arith) refl h;
  answers = λ l s conn number h. less {k = k} {l = l} {m = l} {s = s} (let e : asked_sum (one_of k) (map (Frames.answered_on conn number) s.requests) ≡ asked_sum (one_of k) s.requests = answers-sum (one_of k) conn number s.requests in omega arith) refl h;
  takes = λ l s p h. less {k = k} {l = l} {m = l} {s = s} (omega arith) refl h;
  takes_call = λ l s p q is call h. less {k = k} {l = l} {m = Inbound q.conn q.number ∷ l} {s = s} (omega arith) refl h;
  closes = λ l s conn h. less {k = k} {l = l} {m = l} {s = s} (omega arith) refl h;
}

-- a number that is given now is not one given before
other-number : (c k : ℕ) → k ≤ c → count (c + 1 == k) ≡ 0
other-number c k le = pick (c + 1 == k) refl
  where
    pick : (b : Bool) → (c + 1 == k) ≡ b → count b ≡ 0
    pick true e = let q : c + 1 ≡ k = eqb-true (c + 1) k e in absurd (omega arith)
    pick false e = refl

gone-begin : (g : Setting) (k : ℕ) (s : State) (e : Event) → Begins g (IsOver k) s e
gone-begin g k s e = record {
  opens = λ conn dialled is h. record { given = h.given; nowhere = h.nowhere };
  parks = λ id n t target method arguments is ready stands h. record {
    given = let a : k ≤ s.calls_made = h.given in omega arith;
    nowhere = let a : flow_sum (one_of k) [] s ≡ 0 = h.nowhere in let b : count (s.calls_made + 1 == k) ≡ 0 = other-number s.calls_made k h.given in omega arith;
  };
  looks = λ peer name is h. record {
    given = let a : k ≤ s.calls_made = h.given in omega arith;
    nowhere = let a : flow_sum (one_of k) [] s ≡ 0 = h.nowhere in let b : count (s.calls_made + 1 == k) ≡ 0 = other-number s.calls_made k h.given in omega arith;
  };
}

gone-after : (g : Setting) (k : ℕ) (h more : List Event) → IsOver k [] (Space.state_of g h) → IsOver k [] (Space.state_of g (more ++ h))
unfolding Space.state_of
gone-after g k h [] x = x
gone-after g k h (e ∷ more) x = on_flow (gone_flow g k) (Space.state_of g (more ++ h)) e (gone-begin g k (Space.state_of g (more ++ h)) e) (gone-after g k h more x)

pub ended_calls_stay_ended : EndedCallsStayEnded
ended_calls_stay_ended g h more k le zero =
    let start : IsOver k [] (Space.state_of g h) = record {
      given = le;
      nowhere = let z : asked_sum (one_of k) (Space.state_of g h).fresh ≡ 0 = ap (asked_sum (one_of k)) (no-fresh g h) in omega arith;
    } in
    let a : asked_sum (one_of k) (Space.state_of g (more ++ h)).requests + (asked_sum (one_of k) (Space.state_of g (more ++ h)).fresh + 0) ≡ 0 = (gone-after g k h more start).nowhere in omega arith
