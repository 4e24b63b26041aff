-- Connections that end, and peers that refuse: what becomes of a transport, and what is told of all that was asked.
use Rattle.std.proofs.Common.{◌≡◌, ℕ, zero, suc, Bool, true, false, cond, List, [], ◌∷◌, ◌++◌, Option, None, Some, is_some, filter, map, refl, sym, ap, subst, ◌∙◌, true≢false, take}
use Rattle.std.specs.Prelude.{◌==◌, ◌||◌, ◌&&◌, not}
use Rattle.std.specs.List.{flat_map, list_any}
use Rattle.std.specs.Str.{bytes_eq}
use Rattle.net_message.specs.declared.message.Message.{Message}
use Rattle.uuid.specs.declared.Uuid.{Uuid}
use Rattle.sp_rules.proofs.AllLemmas.{all-both-filter, all-weaken, all-with, found-is}
use Rattle.sp_rules.proofs.LineLemmas.{any-others, gone-others, one-peer, other-way}
use Rattle.sp_rules.specs.Endings.{call_number_in, is_of_connection, sent_on, unsent_calls, without_connection}
use Rattle.sp_rules.specs.Events.{Note, in_order}
use Rattle.sp_rules.specs.Laws.{AllOf}
use Rattle.sp_rules.specs.Lines.{WaitsForHello, dialled_to}
use Rattle.sp_rules.specs.OwnEvents.{dialled_no_more}
use Rattle.sp_rules.specs.ParkedFrames.{remove_requests}
use Rattle.sp_rules.specs.Requests.{hello_came, is_waiting, waits_for}
use Rattle.sp_rules.specs.State as rules
use Rattle.sp_rules.specs.State.{State, Connection, Request, connection_at, is_dialling, is_to}
use Rattle.std.proofs.lemmas.Bool.{eqb-true}
use Rattle.sp_requests.specs.Tables.{AreConnections}
use Rattle.sp_requests.specs.declared.connections.Connections.{Connections}
use Rattle.sp_requests.proofs.EndLemmas.{in-turn-before}
use Rattle.sp_requests.specs.Asking.{asks_by}
use Rattle.sp_requests.specs.Ends.{IsEnded, ended_at, ended_call, ended_group, in_turn, unsent_among}
use Rattle.sp_requests.specs.declared.asked.Asker.{Asker}
use Rattle.sp_requests.specs.declared.ended.Ended.{Ended}
use Rattle.sp_requests.specs.declared.ended.EndedCall.{EndedCall}
use Rattle.sp_requests.specs.Peers.{of_peer}
use Rattle.sp_requests.proofs.AskedLemmas.{IsOfPeer, connection-is-peer, end-mine, waiting-is-peer}
use Rattle.sp_requests.proofs.CoreLemmas.{closed-asked, in-turn-of}
use Rattle.sp_requests.proofs.LineLemmas.{line-gone, line-left, number-line, without}
use Rattle.sp_requests.specs.AllAsked.{AreAsked}
use Rattle.sp_requests.specs.declared.peers.Peers.{Peers}
use Rattle.sp_transport.specs.Answers.{AreEnded, ended_as}
use Rattle.sp_transport.specs.Said.{recorded}
use Rattle.sp_transport.specs.Transports.{AreLines, IsTransport, WentAfterHello, asked_up_to, line_parts, waiting_number}
use Rattle.sp_transport.specs.declared.transport.Transport.{Transport}
use Rattle.sp_transport.proofs.SaidLemmas.{alike-self}
use Rattle.sp_transport.proofs.LinesLemmas.{rises-some}
use Rattle.sp_transport.proofs.OpeningLemmas.{asked-first, lines-first}

not-true : (b : Bool) → not b ≡ true → b ≡ false
not-true true e = absurd (true≢false (sym e))
not-true false e = refl

nothing : {A : Type 0} (x : A) → None ≡ Some x → ⊥
nothing x h = cc

pub number-is : (s : State) (conn : ℕ) (c : Connection) → connection_at s conn ≡ Some c → c.number ≡ conn
number-is s conn c at = eqb-true c.number conn (found-is (λ (d : Connection). d.number == conn) s.connections c at)

-- ---- lines that are left

-- The connections are fewer, and the requests; each that is left is of a peer whose connection is the same.
lines-left : (s : State) (cs : List Connection) (dialling : List Uuid) (is : Request → Bool) → AreLines (record (line_parts s) { notes = [] })
    → ((q : Uuid) (c : Connection) → dialled_to cs q ≡ Some c → dialled_to s.connections q ≡ Some c)
    → AllOf (λ (r : Request). is r ≡ true → (dialled_to cs r.peer ≡ dialled_to s.connections r.peer) × (list_any (bytes_eq r.peer) s.dialling ≡ true → list_any (bytes_eq r.peer) dialling ≡ true)) s.requests
    → AreLines (record (line_parts s) { connections = cs; dialling = dialling; requests = filter is s.requests; notes = [] })
unfolding in_order
lines-left s cs dialling is a found same = record {
  sent = λ q c e. a.sent q c (found q c e);
  waiting = all-weaken (λ (r : Request). W r × (is r ≡ true)) (WaitsForHello cs dialling) (filter is s.requests) (λ r w waits. waiting r w.0.0 (w.0.1 w.1) waits)
      (all-both-filter W is s.requests (all-with (WaitsForHello s.connections s.dialling) S W s.requests (λ r w t. (w, t)) a.waiting same));
  out = all-weaken (λ (r : Request). O r × (is r ≡ true)) (WentAfterHello cs) (filter is s.requests) (λ r w waits. ap (λ o. is_some (hello_came o)) (w.0.1 w.1).0 ∙ w.0.0 waits)
      (all-both-filter O is s.requests (all-with (WentAfterHello s.connections) S O s.requests (λ r w t. (w, t)) a.out same));
  rising = rises-some waiting_number is 0 (asked_up_to s.calls_made s.fresh) s.requests a.rising;
  fresh_is = a.fresh_is;
  noted = tt;
  alike = alike-self cs;
}
  where
    S : Request → Type 0
    S r = is r ≡ true → (dialled_to cs r.peer ≡ dialled_to s.connections r.peer) × (list_any (bytes_eq r.peer) s.dialling ≡ true → list_any (bytes_eq r.peer) dialling ≡ true)

    W : Request → Type 0
    W r = WaitsForHello s.connections s.dialling r × S r

    O : Request → Type 0
    O r = WentAfterHello s.connections r × S r

    waiting : (r : Request) → WaitsForHello s.connections s.dialling r → (dialled_to cs r.peer ≡ dialled_to s.connections r.peer) × (list_any (bytes_eq r.peer) s.dialling ≡ true → list_any (bytes_eq r.peer) dialling ≡ true) → WaitsForHello cs dialling r
    waiting r w t waits =
        let x = w waits in (ap (λ o. is_some o || list_any (bytes_eq r.peer) dialling) t.0 ∙ kept (is_some (dialled_to s.connections r.peer)) x.0, ap hello_came t.0 ∙ x.1)
      where
        kept : (b : Bool) → (b || list_any (bytes_eq r.peer) s.dialling) ≡ true → (b || list_any (bytes_eq r.peer) dialling) ≡ true
        kept true e = refl
        kept false e = t.1 e

-- ---- a connection ends

-- one that a peer dialled
pub now-closed : (s : State) (t : Transport) (conn : ℕ) (c : Connection) (connections : Connections) → s.notes ≡ [] → connection_at s conn ≡ Some c → c.dialled ≡ None → AreConnections (without conn s.connections) s.dialling connections → IsTransport s t
    → IsTransport (without_connection conn s) (record t { connections = connections })
unfolding in_order
now-closed s t conn c connections none at its links a = record {
  leases = a.leases;
  connections = links;
  noted = a.noted;
  asked = subst (λ (l : List Note). AreAsked (recorded (without conn s.connections) l) s.requests t.peers) (sym none) (closed-asked conn c at its (asked-first s t none a));
  calls_made = a.calls_made;
  groups_made = a.groups_made;
  fresh = a.fresh;
  notes = a.notes;
  lines = subst (λ (l : List Note). AreLines (record (line_parts s) { connections = without conn s.connections; notes = l })) (sym none) left;
}
  where
    same : (q : Uuid) → dialled_to (without conn s.connections) q ≡ dialled_to s.connections q
    same q = gone-others conn s.connections c q a.connections.numbered_once at (ap (is_to q) its)

    first : AreLines (record (line_parts s) { notes = [] })
    first = lines-first s t none a

    left : AreLines (record (line_parts s) { connections = without conn s.connections; notes = [] })
    left = record {
      sent = λ q d e. first.sent q d (sym (same q) ∙ e);
      waiting = all-weaken (WaitsForHello s.connections s.dialling) (WaitsForHello (without conn s.connections) s.dialling) s.requests (λ r w is. let x = w is in (ap (λ o. is_some o || list_any (bytes_eq r.peer) s.dialling) (same r.peer) ∙ x.0, ap hello_came (same r.peer) ∙ x.1)) first.waiting;
      out = all-weaken (WentAfterHello s.connections) (WentAfterHello (without conn s.connections)) s.requests (λ r w is. ap (λ o. is_some (hello_came o)) (same r.peer) ∙ w is) first.out;
      rising = first.rising;
      fresh_is = first.fresh_is;
      noted = tt;
      alike = alike-self (without conn s.connections);
    }

-- one that was dialled, with all that is asked of its peer
pub now-ended : (s : State) (t : Transport) (conn : ℕ) (peer : Uuid) (c : Connection) (connections : Connections) (peers : Peers) → s.notes ≡ [] → connection_at s conn ≡ Some c → c.dialled ≡ Some peer → AreConnections (without conn s.connections) s.dialling connections
    → AreAsked (without c.number s.connections) (filter (λ (r : Request). not (is_of_connection c.number (Some peer) r)) s.requests) peers → IsTransport s t
    → IsTransport (remove_requests (is_of_connection conn c.dialled) (without_connection conn s)) (record t { connections = connections; peers = peers })
now-ended s t conn peer c connections peers none at its links asked a =
    subst (λ (o : Option Uuid). IsTransport (remove_requests (is_of_connection conn o) (without_connection conn s)) (record t { connections = connections; peers = peers })) (sym its) (record {
      leases = a.leases;
      connections = links;
      noted = a.noted;
      asked = subst (λ (l : List Note). AreAsked (recorded (without conn s.connections) l) left peers) (sym none)
          (subst (λ (n : ℕ). AreAsked (without n s.connections) (filter (λ (r : Request). not (is_of_connection n (Some peer) r)) s.requests) peers) number asked);
      calls_made = a.calls_made;
      groups_made = a.groups_made;
      fresh = a.fresh;
      notes = a.notes;
      lines = subst (λ (l : List Note). AreLines (record (line_parts s) { connections = without conn s.connections; requests = left; notes = l })) (sym none)
          (lines-left s (without conn s.connections) s.dialling (λ (r : Request). not (is_of_connection conn (Some peer) r)) (lines-first s t none a) found
          (all-weaken (λ (r : Request). is_of_connection conn (Some peer) r ≡ bytes_eq r.peer peer) _ s.requests (λ r same stays. (kept r.peer (other-way r.peer peer (sym same ∙ not-true (is_of_connection conn (Some peer) r) stays)), λ is. is)) mine));
    })
  where
    number : c.number ≡ conn
    number = number-is s conn c at

    left : List Request
    left = filter (λ (r : Request). not (is_of_connection conn (Some peer) r)) s.requests

    line : dialled_to s.connections peer ≡ Some c
    line = number-line s.connections conn c peer a.connections.dialled_once at its

    kept : (q : Uuid) → bytes_eq peer q ≡ false → dialled_to (without conn s.connections) q ≡ dialled_to s.connections q
    kept q apart = subst (λ (n : ℕ). dialled_to (without n s.connections) q ≡ dialled_to s.connections q) number (line-left s.connections peer q c a.connections.numbered_once line apart)

    gone : dialled_to (without conn s.connections) peer ≡ None
    gone = subst (λ (n : ℕ). dialled_to (without n s.connections) peer ≡ None) number (line-gone s.connections peer c a.connections.numbered_once a.connections.dialled_once line)

    found : (q : Uuid) (d : Connection) → dialled_to (without conn s.connections) q ≡ Some d → dialled_to s.connections q ≡ Some d
    found q d e = pick (bytes_eq peer q) refl
      where
        pick : (b : Bool) → bytes_eq peer q ≡ b → dialled_to s.connections q ≡ Some d
        pick true is = absurd (nothing d (sym (subst (λ (p : Uuid). dialled_to (without conn s.connections) p ≡ None) (one-peer peer q is) gone) ∙ e))
        pick false is = sym (kept q is) ∙ e

    mine : AllOf (λ (r : Request). is_of_connection conn (Some peer) r ≡ bytes_eq r.peer peer) s.requests
    mine = subst (λ (n : ℕ). IsOfPeer (is_of_connection n (Some peer)) peer s.requests) number (connection-is-peer peer line (asked-first s t none a))

-- ---- a peer refuses

pub now-refused : (s : State) (t : Transport) (peer : Uuid) (connections : Connections) (peers : Peers) → s.notes ≡ [] → is_dialling s peer ≡ true → AreConnections s.connections (filter (λ (p : Uuid). not (bytes_eq peer p)) s.dialling) connections
    → AreAsked s.connections (filter (λ (r : Request). not (waits_for peer r)) s.requests) peers → IsTransport s t
    → IsTransport (remove_requests (waits_for peer) (dialled_no_more (Some peer) s)) (record t { connections = connections; peers = peers })
now-refused s t peer connections peers none is links asked a = record {
  leases = a.leases;
  connections = links;
  noted = a.noted;
  asked = subst (λ (l : List Note). AreAsked (recorded s.connections l) left peers) (sym none) asked;
  calls_made = a.calls_made;
  groups_made = a.groups_made;
  fresh = a.fresh;
  notes = a.notes;
  lines = subst (λ (l : List Note). AreLines (record (line_parts s) { dialling = others; requests = left; notes = l })) (sym none)
      (lines-left s s.connections others (λ (r : Request). not (waits_for peer r)) (lines-first s t none a) (λ q c e. e)
      (all-weaken (λ (r : Request). waits_for peer r ≡ bytes_eq r.peer peer) _ s.requests (λ r same stays. (refl, λ at. any-others peer r.peer s.dialling (other-way r.peer peer (sym same ∙ not-true (waits_for peer r) stays)) at)) mine));
}
  where
    left : List Request
    left = filter (λ (r : Request). not (waits_for peer r)) s.requests

    others : List Uuid
    others = filter (λ (p : Uuid). not (bytes_eq peer p)) s.dialling

    mine : AllOf (λ (r : Request). waits_for peer r ≡ bytes_eq r.peer peer) s.requests
    mine = waiting-is-peer peer (a.connections.apart peer is) (asked-first s t none a)

-- ---- what is told

both-empty : (xs ys : List ℕ) → xs ++ ys ≡ [] → (xs ≡ []) × (ys ≡ [])
both-empty [] ys f = (refl, f)
both-empty (x ∷ xs) ys f = absurd (cons x (xs ++ ys) f)
  where
    cons : (y : ℕ) (zs : List ℕ) → y ∷ zs ≡ [] → ⊥
    cons y zs h = cc

-- no call is among the last frames if none went out
none-unsent : (unsent : ℕ) (sent : List Message) → flat_map call_number_in sent ≡ [] → flat_map call_number_in (take unsent sent) ≡ []
none-unsent zero [] e = refl
none-unsent zero (m ∷ ms) e = refl
none-unsent (suc n) [] e = refl
none-unsent (suc n) (m ∷ ms) e =
    let parts = both-empty (call_number_in m) (flat_map call_number_in ms) e in ap (λ (l : List ℕ). l ++ flat_map call_number_in (take n ms)) parts.0 ∙ none-unsent n ms parts.1

told-alike : (unsent : List ℕ) (stage : rules.Stage) (asks : List (ℕ × Asker)) → (is_waiting stage ≡ true → unsent ≡ []) → map (ended_at unsent stage) asks ≡ map (λ (row : ℕ × Asker). record { asker = row.1; unsent = list_any (◌==◌ row.0) unsent }) asks
told-alike unsent stage [] quiet = refl
told-alike unsent rules.Waits (x ∷ xs) quiet =
    let e : false ≡ list_any (◌==◌ x.0) unsent = sym (ap (list_any (◌==◌ x.0)) (quiet refl)) in
    let first : EndedCall = record { asker = x.1; unsent = list_any (◌==◌ x.0) unsent } in
    ap (λ b. record { asker = x.1; unsent = b } ∷ map (ended_at unsent rules.Waits) xs) e ∙ ap (λ (l : List EndedCall). first ∷ l) (told-alike unsent rules.Waits xs quiet)
told-alike unsent (rules.Out c k) (x ∷ xs) quiet = let first : EndedCall = record { asker = x.1; unsent = list_any (◌==◌ x.0) unsent } in ap (λ (l : List EndedCall). first ∷ l) (told-alike unsent (rules.Out c k) xs quiet)
told-alike unsent (rules.Answered c) (x ∷ xs) quiet = let first : EndedCall = record { asker = x.1; unsent = list_any (◌==◌ x.0) unsent } in ap (λ (l : List EndedCall). first ∷ l) (told-alike unsent (rules.Answered c) xs quiet)

all-told : (unsent : List ℕ) (rs : List Request) → AllOf (λ (r : Request). is_waiting r.stage ≡ true → unsent ≡ []) rs → flat_map (ended_call unsent) rs ≡ flat_map (ended_as unsent) rs
all-told unsent [] a = refl
all-told unsent (r ∷ rs) a =
    ap (λ (l : List EndedCall). l ++ flat_map (ended_call unsent) rs) (told-alike unsent r.stage (asks_by r.asked) a.0) ∙ ap (λ (l : List EndedCall). ended_as unsent r ++ l) (all-told unsent rs a.1)

-- all that ends stands in the order in which it was made
told-in-order : (unsent : ℕ) (rows : List Request) (sent : List Message) (ended : Ended) → in_turn rows ≡ rows → AllOf (λ (r : Request). is_waiting r.stage ≡ true → unsent_among unsent sent ≡ []) rows → IsEnded unsent rows sent ended → AreEnded (unsent_among unsent sent) rows ended
told-in-order unsent rows sent ended turn quiet e = record {
  calls = e.calls ∙ (ap (flat_map (ended_call (unsent_among unsent sent))) turn ∙ all-told (unsent_among unsent sent) rows quiet);
  groups = e.groups ∙ ap (flat_map ended_group) turn;
}

-- of a connection
pub ended-told : (s : State) (t : Transport) (conn : ℕ) (peer : Uuid) (c : Connection) (unsent : ℕ) (ended : Ended) → s.notes ≡ [] → connection_at s conn ≡ Some c → c.dialled ≡ Some peer → IsEnded unsent (filter (is_of_connection conn (Some peer)) s.requests) c.sent ended → IsTransport s t
    → AreEnded (unsent_calls s conn unsent) (filter (is_of_connection conn c.dialled) s.requests) ended
ended-told s t conn peer c unsent ended none at its e a =
    subst (λ (o : Option Uuid). AreEnded (unsent_calls s conn unsent) (filter (is_of_connection conn o) s.requests) ended) (sym its)
    (subst (λ (o : Option Connection). AreEnded (flat_map call_number_in (take unsent (sent_on o))) (filter (is_of_connection conn (Some peer)) s.requests) ended) (sym at)
    (told-in-order unsent (filter (is_of_connection conn (Some peer)) s.requests) c.sent ended turn quiet e))
  where
    first : AreLines (record (line_parts s) { notes = [] })
    first = lines-first s t none a

    line : dialled_to s.connections peer ≡ Some c
    line = number-line s.connections conn c peer a.connections.dialled_once at its

    mine : filter (is_of_connection conn (Some peer)) s.requests ≡ of_peer peer s.requests
    mine = subst (λ (n : ℕ). filter (is_of_connection n (Some peer)) s.requests ≡ of_peer peer s.requests) (number-is s conn c at) (end-mine (is_of_connection c.number (Some peer)) peer s.requests (connection-is-peer peer line (asked-first s t none a)))

    turn : in_turn (filter (is_of_connection conn (Some peer)) s.requests) ≡ filter (is_of_connection conn (Some peer)) s.requests
    turn = ap in_turn mine ∙ (in-turn-of s.connections s.dialling s.requests peer first.waiting first.out ∙ sym mine)

    unheard : hello_came (Some c) ≡ None → c.peer ≡ None
    unheard f = pick c.peer f
      where
        pick : (o : Option Uuid) → cond (is_some o) (Some c.number) None ≡ None → o ≡ None
        pick None g = refl
        pick (Some p) g = absurd (nothing c.number (sym g))

    one : (r : Request) → WaitsForHello s.connections s.dialling r → bytes_eq r.peer peer ≡ true → is_waiting r.stage ≡ true → unsent_among unsent c.sent ≡ []
    one r w is waits =
        none-unsent unsent c.sent ((first.sent peer c line).quiet (unheard (sym (ap hello_came line) ∙ (ap (λ (q : Uuid). hello_came (dialled_to s.connections q)) (sym (one-peer r.peer peer is)) ∙ (w waits).1))))

    quiet : AllOf (λ (r : Request). is_waiting r.stage ≡ true → unsent_among unsent c.sent ≡ []) (filter (is_of_connection conn (Some peer)) s.requests)
    quiet = subst (AllOf (λ (r : Request). is_waiting r.stage ≡ true → unsent_among unsent c.sent ≡ [])) (sym mine)
        (all-weaken (λ (r : Request). WaitsForHello s.connections s.dialling r × (bytes_eq r.peer peer ≡ true)) (λ (r : Request). is_waiting r.stage ≡ true → unsent_among unsent c.sent ≡ []) (of_peer peer s.requests) (λ r w. one r w.0 w.1)
        (all-both-filter (WaitsForHello s.connections s.dialling) (λ (r : Request). bytes_eq r.peer peer) s.requests first.waiting))

-- of a peer that refused
pub refused-told : (s : State) (t : Transport) (peer : Uuid) (unsent : ℕ) (ended : Ended) → is_dialling s peer ≡ true → IsEnded unsent (filter (waits_for peer) s.requests) [] ended → IsTransport s t → AreEnded [] (filter (waits_for peer) s.requests) ended
refused-told s t peer unsent ended is e a =
    subst (λ (l : List ℕ). AreEnded l (filter (waits_for peer) s.requests) ended) (none-unsent unsent [] refl) (told-in-order unsent (filter (waits_for peer) s.requests) [] ended turn quiet e)
  where
    alone : dialled_to s.connections peer ≡ None
    alone = a.connections.apart peer is

    quiet : AllOf (λ (r : Request). is_waiting r.stage ≡ true → unsent_among unsent [] ≡ []) (filter (waits_for peer) s.requests)
    quiet = all-weaken (λ (r : Request). Unit {0}) (λ (r : Request). is_waiting r.stage ≡ true → unsent_among unsent [] ≡ []) (filter (waits_for peer) s.requests) (λ r u waits. none-unsent unsent [] refl) (units (filter (waits_for peer) s.requests))
      where
        units : (rs : List Request) → AllOf (λ (r : Request). Unit {0}) rs
        units [] = tt
        units (r ∷ rs) = (tt, units rs)

    waits : (rs : List Request) → AllOf (λ (r : Request). is_waiting r.stage ≡ true) (filter (waits_for peer) rs)
    waits [] = tt
    waits (r ∷ rs) = pick (bytes_eq r.peer peer) (is_waiting r.stage) refl (waits rs)
      where
        pick : (b w : Bool) → is_waiting r.stage ≡ w → AllOf (λ (x : Request). is_waiting x.stage ≡ true) (filter (waits_for peer) rs) → AllOf (λ (x : Request). is_waiting x.stage ≡ true) (cond (b && w) (r ∷ filter (waits_for peer) rs) (filter (waits_for peer) rs))
        pick true true f go = (f, go)
        pick true false f go = go
        pick false w f go = go

    turn : in_turn (filter (waits_for peer) s.requests) ≡ filter (waits_for peer) s.requests
    turn = in-turn-before (filter (waits_for peer) s.requests) (waits s.requests)
