-- What leaves the table of all peers as it is: connections that change but for who was dialled and what was sent, frames in another order, and connections that a peer dialled. And the order in which what is asked of a peer ends. (For the core of a space.)
use Rattle.std.proofs.Common.{◌≡◌, ℕ, Bool, true, false, cond, List, [], ◌∷◌, ◌++◌, Option, None, Some, refl, sym, ap, subst, ◌∙◌, true≢false, arith}
use Rattle.std.specs.Prelude.{◌==◌, not, is_some}
use Rattle.std.specs.Str.{bytes_eq}
use Rattle.net_message.specs.declared.message.Message.{Message}
use Rattle.uuid.specs.declared.Uuid.{Uuid}
use Rattle.sp_rules.proofs.LineLemmas.{IsRow, To, dialled-filter, gone-others, numbers-filter, one-peer, row-dialled, row-numbers, to-more}
use Rattle.sp_rules.specs.Laws.{AllOf}
use Rattle.sp_rules.specs.Lines.{AreDialledOnce, WaitsForHello, dialled_to}
use Rattle.sp_rules.specs.Lists.{at_first}
use Rattle.sp_rules.specs.Requests.{hello_came, is_waiting}
use Rattle.sp_rules.specs.State.{Connection, Request, is_to}
use Rattle.sp_requests.specs.Tables.{AreNumbered, numbered, opened}
use Rattle.sp_requests.proofs.TableLemmas.{dialled-more, numbered-more}
use Rattle.sp_requests.specs.Asking.{AreRequests}
use Rattle.sp_requests.specs.Ends.{in_turn}
use Rattle.sp_requests.specs.Peers.{of_peer}
use Rattle.sp_requests.specs.declared.requests.Requests.{Requests}
use Rattle.sp_requests.proofs.AlikeLemmas.{AreAlike, sent-alike}
use Rattle.sp_requests.proofs.EndLemmas.{in-turn-after, in-turn-before}
use Rattle.sp_requests.specs.declared.peers.Peers.{Peers}
use Rattle.sp_requests.specs.AllAsked.{AreAsked, HasRoom, IsAsked, IsRoom, row_of, sent_on}
use Rattle.sp_requests.proofs.LineLemmas.{sent-dialled, sent-numbered, without}

-- ---- connections

-- Two connections have one number, and what was sent on them is alike; or there is neither.
abbrev pub IsSameLine : Option Connection → Option Connection → Type 0
IsSameLine None None = Unit {0}
IsSameLine None (Some d) = ⊥
IsSameLine (Some c) None = ⊥
IsSameLine (Some c) (Some d) = (c.number ≡ d.number) × AreAlike c.sent d.sent

itself : (sent : List Message) → AreAlike sent sent
itself sent = record { calls = refl; sequences = refl }

pub one-line : (o : Option Connection) → IsSameLine o o
one-line None = tt
one-line (Some c) = (refl, itself c.sent)

same-asked : (o p : Option Connection) (rows : List Request) (row : Option Requests) → IsSameLine o p → IsAsked o rows row → IsAsked p rows row
same-asked None None rows row same is = is
same-asked None (Some d) rows row same is = absurd same
same-asked (Some c) None rows row same is = absurd same
same-asked (Some c) (Some d) rows None same is = absurd is
same-asked (Some c) (Some d) rows (Some t) same is = sent-alike same.1 (subst (λ (n : ℕ). AreRequests n rows c.sent t) same.0 is)

-- The connections that were dialled to peers are the same but for who spoke and what came, and frames that are no calls may stand in another order.
pub lines-alike : {connections more : List Connection} {requests : List Request} {table : Peers} → ((q : Uuid) → IsSameLine (dialled_to connections q) (dialled_to more q)) → AreNumbered more → AreDialledOnce more → AreAsked connections requests table → AreAsked more requests table
lines-alike {connections} {more} {requests} {table} same numbered dialled a = record {
  asked = λ q. same-asked (dialled_to connections q) (dialled_to more q) (of_peer q requests) (row_of q table) (same q) (a.asked q);
  numbered_once = numbered;
  dialled_once = dialled;
}

-- who spoke on a connection, or the last number that came, changes
pub row-asked : {connections : List Connection} {requests : List Request} {table : Peers} (is : Connection → Bool) (f : Connection → Connection) → IsRow f → ((c : Connection) → (f c).sent ≡ c.sent) → AreAsked connections requests table → AreAsked (at_first is f connections) requests table
row-asked {connections} {requests} {table} is f row sent a = lines-alike (λ q. same q connections) (row-numbers is f row connections a.numbered_once) (row-dialled is f row connections a.dialled_once) a
  where
    same : (q : Uuid) (cs : List Connection) → IsSameLine (dialled_to cs q) (dialled_to (at_first is f cs) q)
    same q [] = tt
    same q (c ∷ cs) = pick (is c) (same q cs)
      where
        rest : List Connection
        rest = at_first is f cs

        here : (b : Bool) → IsSameLine (cond b (Some c) (dialled_to cs q)) (cond b (Some (f c)) (dialled_to cs q))
        here true = (sym (row.number c), subst (λ (l : List Message). AreAlike c.sent l) (sym (sent c)) (itself c.sent))
        here false = one-line (dialled_to cs q)

        there : (b : Bool) → IsSameLine (dialled_to cs q) (dialled_to rest q) → IsSameLine (cond b (Some c) (dialled_to cs q)) (cond b (Some c) (dialled_to rest q))
        there true go = one-line (Some c)
        there false go = go

        pick : (b : Bool) → IsSameLine (dialled_to cs q) (dialled_to rest q) → IsSameLine (dialled_to (c ∷ cs) q) (dialled_to (cond b (f c ∷ cs) (c ∷ rest)) q)
        pick true go = subst (λ b. IsSameLine (cond (To q c) (Some c) (dialled_to cs q)) (cond b (Some (f c)) (dialled_to cs q))) (sym (ap (is_to q) (row.dialled c))) (here (To q c))
        pick false go = there (To q c) go

-- the dialled connections are the same
pub lines-same : {connections more : List Connection} {requests : List Request} {table : Peers} → ((q : Uuid) → dialled_to more q ≡ dialled_to connections q) → AreNumbered more → AreDialledOnce more → AreAsked connections requests table → AreAsked more requests table
lines-same {connections} {more} same numbered dialled a =
    lines-alike (λ q. subst (λ (o : Option Connection). IsSameLine (dialled_to connections q) o) (sym (same q)) (one-line (dialled_to connections q))) numbered dialled a

-- a peer dials a connection
pub accepted-asked : {connections : List Connection} {requests : List Request} {table : Peers} (conn : ℕ) → numbered conn connections ≡ None → AreAsked connections requests table → AreAsked (connections ++ opened conn None ∷ []) requests table
accepted-asked {connections} {requests} {table} conn free a =
    lines-same (λ q. to-more connections (opened conn None) q refl) (numbered-more connections (opened conn None) a.numbered_once free) (dialled-more connections (opened conn None) a.dialled_once (λ q to. absurd (true≢false (sym to)))) a

-- it ends
pub closed-asked : {connections : List Connection} {requests : List Request} {table : Peers} (conn : ℕ) (c : Connection) → numbered conn connections ≡ Some c → c.dialled ≡ None → AreAsked connections requests table → AreAsked (without conn connections) requests table
closed-asked {connections} {requests} {table} conn c found none a =
    lines-same (λ q. gone-others conn connections c q a.numbered_once found (ap (is_to q) none)) (numbers-filter (λ (d : Connection). not (d.number == conn)) connections a.numbered_once) (dialled-filter (λ (d : Connection). not (d.number == conn)) connections a.dialled_once) a

-- a frame that answers goes out on it
pub answered-asked : {connections : List Connection} {requests : List Request} {table : Peers} (conn : ℕ) (m : Message) (c : Connection) → numbered conn connections ≡ Some c → c.dialled ≡ None → AreAsked connections requests table → AreAsked (sent_on conn m connections) requests table
answered-asked {connections} {requests} {table} conn m c found none a =
    lines-same (λ q. same q connections found) (sent-numbered conn m connections a.numbered_once) (sent-dialled conn m connections a.dialled_once) a
  where
    only : (x y : Connection) → Some x ≡ Some y → x ≡ y
    only x y h = cc

    same : (q : Uuid) (cs : List Connection) → numbered conn cs ≡ Some c → dialled_to (sent_on conn m cs) q ≡ dialled_to cs q
    same q [] e = refl
    same q (x ∷ xs) e = pick (x.number == conn) e (same q xs)
      where
        more : Connection
        more = record x { sent = m ∷ x.sent }

        pick : (b : Bool) → cond b (Some x) (numbered conn xs) ≡ Some c → (numbered conn xs ≡ Some c → dialled_to (sent_on conn m xs) q ≡ dialled_to xs q) → dialled_to (cond b (more ∷ xs) (x ∷ sent_on conn m xs)) q ≡ dialled_to (x ∷ xs) q
        pick true g go =
            let out : To q x ≡ false = ap (λ (y : Connection). is_to q y.dialled) (only x c g) ∙ ap (is_to q) none in
            ap (λ b. cond b (Some more) (dialled_to xs q)) out ∙ sym (ap (λ b. cond b (Some x) (dialled_to xs q)) out)
        pick false g go = ap (λ (o : Option Connection). cond (To q x) (Some x) o) (go g)

-- ---- the order in which requests end

-- What is out went to a peer whose Hello came.
abbrev pub OutGreeted : List Connection → Request → Type 0
OutGreeted connections r = is_waiting r.stage ≡ false → is_some (hello_came (dialled_to connections r.peer)) ≡ true

-- What is asked of a peer ends in the order in which it was made: before its Hello all of it waits, after it none does.
pub in-turn-of : (connections : List Connection) (dialling : List Uuid) (requests : List Request) (peer : Uuid) → AllOf (WaitsForHello connections dialling) requests → AllOf (OutGreeted connections) requests → in_turn (of_peer peer requests) ≡ of_peer peer requests
in-turn-of connections dialling requests peer waiting out = pick (hello_came (dialled_to connections peer)) refl
  where
    each : (b : Bool) → ((r : Request) → WaitsForHello connections dialling r → OutGreeted connections r → r.peer ≡ peer → is_waiting r.stage ≡ b) → (rows : List Request) → AllOf (WaitsForHello connections dialling) rows → AllOf (OutGreeted connections) rows
        → AllOf (λ (r : Request). is_waiting r.stage ≡ b) (of_peer peer rows)
    each b is [] w o = tt
    each b is (r ∷ rs) w o = choose (bytes_eq r.peer peer) refl (each b is rs w.1 o.1)
      where
        choose : (d : Bool) → bytes_eq r.peer peer ≡ d → AllOf (λ (x : Request). is_waiting x.stage ≡ b) (of_peer peer rs) → AllOf (λ (x : Request). is_waiting x.stage ≡ b) (cond d (r ∷ of_peer peer rs) (of_peer peer rs))
        choose true e go = (is r w.0 o.0 (one-peer r.peer peer e), go)
        choose false e go = go

    before : hello_came (dialled_to connections peer) ≡ None → (r : Request) → OutGreeted connections r → r.peer ≡ peer → (b : Bool) → is_waiting r.stage ≡ b → b ≡ true
    before none r o mine true e = refl
    before none r o mine false e = absurd (true≢false (sym (o e) ∙ ap (λ (p : Uuid). is_some (hello_came (dialled_to connections p))) mine ∙ ap is_some none))

    after : (conn : ℕ) → hello_came (dialled_to connections peer) ≡ Some conn → (r : Request) → WaitsForHello connections dialling r → r.peer ≡ peer → (b : Bool) → is_waiting r.stage ≡ b → b ≡ false
    after conn some r w mine true e = absurd (true≢false (sym (ap is_some some) ∙ ap (λ (p : Uuid). is_some (hello_came (dialled_to connections p))) (sym mine) ∙ ap is_some (w e).1))
    after conn some r w mine false e = refl

    pick : (o : Option ℕ) → hello_came (dialled_to connections peer) ≡ o → in_turn (of_peer peer requests) ≡ of_peer peer requests
    pick None e = in-turn-before (of_peer peer requests) (each true (λ r w o mine. before e r o mine (is_waiting r.stage) refl) requests waiting out)
    pick (Some conn) e = in-turn-after (of_peer peer requests) (each false (λ r w o mine. after conn e r w mine (is_waiting r.stage) refl) requests waiting out)

-- ---- rows

-- a peer to which a connection was dialled has a row
pub has-row : {connections : List Connection} {requests : List Request} {table : Peers} (peer : Uuid) {c : Connection} → dialled_to connections peer ≡ Some c → AreAsked connections requests table → HasRoom peer 0 0 0 table
has-row {connections} {requests} {table} peer {c} line a = pick (row_of peer table) (subst (λ (o : Option Connection). IsAsked o (of_peer peer requests) (row_of peer table)) line (a.asked peer))
  where
    pick : (kept : Option Requests) → IsAsked (Some c) (of_peer peer requests) kept → IsRoom kept 0 0 0
    pick None is = absurd is
    pick (Some t) is = (omega arith, omega arith, omega arith)
