-- What is asked of a peer as its connection goes, on which nothing but the Hello went out: it waits on.
use Rattle.std.proofs.Common.{◌≡◌, ℕ, ◌≤◌, length, suc, Bool, true, false, List, [], ◌∷◌, ◌++◌, Some, None, Option, refl, sym, ap, subst, ◌∙◌, true≢false, arith, lit≤}
use Rattle.std.specs.Prelude.{◌==◌, not}
use Rattle.std.specs.Map.{keys_of}
use Rattle.net_message.specs.declared.message.Message.{Message}
use Rattle.rising_map.specs.Rows.{AreBelow, AreRows}
use Rattle.uuid.specs.declared.Uuid.{Uuid}
use Rattle.sp_rules.proofs.AllLemmas.{all-weaken}
use Rattle.sp_rules.proofs.LineLemmas.{dialled-filter, numbers-filter}
use Rattle.sp_rules.specs.Laws.{AllOf}
use Rattle.sp_rules.specs.Lines.{dialled_to}
use Rattle.sp_rules.specs.Requests.{is_waiting}
use Rattle.sp_rules.specs.State as rules
use Rattle.sp_rules.specs.State.{Connection, Request}
use Rattle.sp_requests.specs.declared.asked.OutCall.{OutCall}
use Rattle.sp_requests.specs.declared.asked.OutGroup.{OutGroup}
use Rattle.sp_requests.specs.declared.requests.Requests.{Requests}
use Rattle.sp_requests.specs.declared.peers.Peers.{Peers}
use Rattle.sp_requests.specs.Asking.{AreRequests, IsOn, call_at, calls_in, group_at, groups_in, was_sent}
use Rattle.sp_requests.specs.AllAsked.{AreAsked, IsAsked}
use Rattle.sp_requests.specs.Peers.{of_peer}
use Rattle.sp_requests.proofs.AskedLemmas.{changed}
use Rattle.sp_requests.proofs.LineLemmas.{line-gone, line-left, without}
use Rattle.sp_requests.proofs.RowLemmas.{IsChange}

-- what waits
abbrev pub Waits : Request → Type 0
Waits r = is_waiting r.stage ≡ true

-- is out on no connection
no-calls : (sent : List Message) (rows : List Request) → AllOf Waits rows → calls_in sent rows ≡ []
no-calls sent [] a = refl
no-calls sent (r ∷ rows) a = ap (λ l. l ++ calls_in sent rows) (one r.stage a.0) ∙ no-calls sent rows a.1
  where
    one : (stage : rules.Stage) → is_waiting stage ≡ true → call_at sent stage r.asked ≡ []
    one rules.Waits e = refl
    one (rules.Out conn sequence) e = absurd (true≢false (sym e))
    one (rules.Answered conn) e = absurd (true≢false (sym e))

no-groups : (rows : List Request) → AllOf Waits rows → groups_in rows ≡ []
no-groups [] a = refl
no-groups (r ∷ rows) a = ap (λ l. l ++ groups_in rows) (one r.stage a.0) ∙ no-groups rows a.1
  where
    one : (stage : rules.Stage) → is_waiting stage ≡ true → group_at stage r.asked ≡ []
    one rules.Waits e = refl
    one (rules.Out conn sequence) e = absurd (true≢false (sym e))
    one (rules.Answered conn) e = absurd (true≢false (sym e))

on-any : (conn : ℕ) (r : Request) → Waits r → IsOn conn r.stage
on-any conn r w = at r.stage w
  where
    at : (stage : rules.Stage) → is_waiting stage ≡ true → IsOn conn stage
    at rules.Waits e = tt
    at (rules.Out c sequence) e = absurd (true≢false (sym e))
    at (rules.Answered c) e = absurd (true≢false (sym e))

-- what is asked of one peer
pub restarted : (conn other : ℕ) (rows : List Request) (sent : List Message) (table : Requests) → AreRequests conn rows sent table → AllOf Waits rows → AreRequests other rows [] (record table { frames = 0 })
restarted conn other rows sent table a waits =
    let none = no-calls [] rows waits in
    let groups = no-groups rows waits in record {
      on = all-weaken Waits (λ (r : Request). IsOn other r.stage) rows (on-any other) waits;
      answered = a.answered;
      named = a.named;
      waiting = a.waiting;
      calls = subst (λ (l : List (ℕ × OutCall)). AreRows l table.calls) (no-calls sent rows waits ∙ sym none) a.calls;
      groups = a.groups;
      were_sent = subst (λ (l : List (ℕ × OutCall)). AllOf (λ (row : ℕ × OutCall). was_sent row.0 [] ≡ true) l) (sym none) tt;
      frames = refl;
      called = subst (λ (l : List (ℕ × OutCall)). AreBelow 1 (keys_of l)) (sym none) tt;
      told_of = subst (λ (l : List (ℕ × OutGroup)). AreBelow 1 (keys_of l)) (sym groups) tt;
      call_fits = lit≤ tt;
      sequence_fits = lit≤ tt;
      few = let one : length (calls_in [] rows) ≤ 1 = subst (λ (l : List (ℕ × OutCall)). length l ≤ 1) (sym none) (lit≤ tt) in omega (arith, one);
    }

-- what is asked of all
pub restarted-line : {connections : List Connection} {requests : List Request} {old new : Peers} {peer : Uuid} {c : Connection} {t : Requests} → IsChange old new peer (Some t) → dialled_to connections peer ≡ Some c → ((conn : ℕ) → AreRequests conn (of_peer peer requests) [] t) → AreAsked connections requests old
    → AreAsked (without c.number connections) requests new
restarted-line {connections} {requests} {old} {new} {peer} {c} {t} step line each a =
    changed {more = without c.number connections} step
    (subst (λ (o : Option Connection). IsAsked o (of_peer peer requests) (Some t)) (sym (line-gone connections peer c a.numbered_once a.dialled_once line)) each)
    (λ q e. line-left connections peer q c a.numbered_once line e) (λ q e. refl)
    (numbers-filter (λ (d : Connection). not (d.number == c.number)) connections a.numbered_once) (dialled-filter (λ (d : Connection). not (d.number == c.number)) connections a.dialled_once) a
