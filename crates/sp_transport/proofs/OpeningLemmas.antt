-- Connections that open, and Hellos and calls that come on them, as an event begins.
use Rattle.std.proofs.Common.{◌≡◌, ℕ, Bool, true, false, cond, List, [], ◌∷◌, ◌++◌, Option, None, Some, is_some, filter, map, ◌⊎◌, inl, inr, refl, sym, ap, subst, ◌∙◌, true≢false, arith}
use Rattle.std.specs.Prelude.{◌==◌, ◌||◌, ◌&&◌, not}
use Rattle.std.specs.List.{flat_map, list_any}
use Rattle.std.specs.Str.{bytes_eq}
use Rattle.net_message.specs.declared.message.Message.{Message}
use Rattle.dgc_client.specs.Table as client
use Rattle.uuid.specs.declared.Uuid.{Uuid}
use Rattle.std.proofs.lemmas.Bool.{eqb-true}
use Rattle.sp_rules.proofs.AllLemmas.{all-both-filter, all-filter, all-weaken, found-is}
use Rattle.sp_rules.proofs.LineLemmas.{any-others, one-peer, other-way, row-hello, row-some, to-last, to-more}
use Rattle.sp_rules.proofs.OwnLemmas.{some-same}
use Rattle.sp_rules.specs.Endings.{call_number_in}
use Rattle.sp_rules.specs.Events.{Hellos, Note, Sends, in_order}
use Rattle.sp_rules.specs.Frames.{counted, greeted}
use Rattle.sp_rules.specs.Laws.{AllOf, RisesWithin}
use Rattle.sp_rules.specs.Lines.{WaitsForHello, dialled_to}
use Rattle.sp_rules.specs.Lists.{at_first}
use Rattle.sp_rules.specs.OwnEvents.{add_connection, dialled_no_more}
use Rattle.sp_rules.specs.Requests.{hello_came, is_waiting, waits_for}
use Rattle.sp_rules.specs.State.{State, Connection, Request, connection_at, connection_to, is_dialling, is_to, send}
use Rattle.sp_requests.specs.Tables.{AreConnections, opened}
use Rattle.sp_requests.specs.declared.connections.Connections.{Connections}
use Rattle.sp_requests.specs.Asking.{last_call, newest, sequence_in}
use Rattle.sp_requests.specs.AllAsked.{AreAsked, sent_on}
use Rattle.sp_requests.specs.declared.peers.Peers.{Peers}
use Rattle.sp_requests.proofs.CoreLemmas.{accepted-asked, lines-same, row-asked}
use Rattle.sp_requests.proofs.LineLemmas.{number-line, sent-dialled, sent-numbered}
use Rattle.sp_outputs.specs.Notes.{notes_of}
use Rattle.sp_outputs.specs.declared.outputs.Outputs.{Outputs}
use Rattle.sp_transport.specs.Asking.{AreNextOut, welcome}
use Rattle.sp_transport.specs.Opening.{IsHello}
use Rattle.sp_transport.specs.Said.{recorded}
use Rattle.sp_transport.specs.Transports.{AreLines, IsLine, IsTransport, LineParts, WentAfterHello, asked_up_to, call_number, line_parts, waiting_number}
use Rattle.sp_transport.specs.declared.transport.Transport.{Transport}
use Rattle.sp_transport.proofs.SaidLemmas.{IsSentOn, accepted-lines, alike-self, sent-found}
use Rattle.sp_transport.proofs.RowLemmas.{IsChangedOn, accepted-change, change-found, change-here, hello-stays, more-found, number-found, number-last}
use Rattle.sp_transport.proofs.LinesLemmas.{line-plain, rises-some}
use Rattle.sp_transport.proofs.StepLemmas.{accepts-all, send-open}

-- ---- as an event begins

-- nothing is noted, so what was sent is what the connections remember
pub asked-first : (s : State) (t : Transport) → s.notes ≡ [] → IsTransport s t → AreAsked s.connections s.requests t.peers
asked-first s t e a = subst (λ (l : List Note). AreAsked (recorded s.connections l) s.requests t.peers) e a.asked

pub lines-first : (s : State) (t : Transport) → s.notes ≡ [] → IsTransport s t → AreLines (record (line_parts s) { notes = [] })
lines-first s t e a = subst (λ (l : List Note). AreLines (record (line_parts s) { notes = l })) e a.lines

-- ---- a connection opens

hello-no-call : {m : Message} → IsHello m → call_number_in m ≡ []
hello-no-call {m} h = ap call_number_in h.says

hello-no-group : {m : Message} → IsHello m → sequence_in m ≡ []
hello-no-group {m} h = ap sequence_in h.says

-- the lines of the connections with one that opened, on which Hello was said
opened-lines : (asked told : ℕ) (cs : List Connection) (conn : ℕ) (dialled : Option Uuid) (m : Message) → IsHello m → ((q : Uuid) (c : Connection) → dialled_to cs q ≡ Some c → IsLine asked told c) → (q : Uuid) (c : Connection) → dialled_to (sent_on conn m (cs ++ opened conn dialled ∷ [])) q ≡ Some c → IsLine asked told c
opened-lines asked told cs conn dialled m hello lines q c e = pick (sent-found conn m (cs ++ new ∷ []) q c e)
  where
    new : Connection
    new = opened conn dialled

    fresh : IsLine asked told new
    fresh = record { called = omega arith; told_of = omega arith; quiet = λ none. refl }

    base : (d : Connection) → (dialled_to cs q ≡ Some d) ⊎ (d ≡ new) → IsLine asked told d
    base d (inl f) = lines q d f
    base d (inr f) = subst (IsLine asked told) (sym f) fresh

    pick : (dialled_to (cs ++ new ∷ []) q ≡ Some c) ⊎ IsSentOn conn m (dialled_to (cs ++ new ∷ []) q) c → IsLine asked told c
    pick (inl f) = base c (more-found cs new q c f)
    pick (inr s) = subst (IsLine asked told) (sym s.is) (line-plain {asked = asked} {told = told} {c = s.before} m (hello-no-call hello) (hello-no-group hello) (base s.before (more-found cs new q s.before s.there)))

lines-opened : (p : LineParts) (conn : ℕ) (dialled : Option Uuid) (dialling : List Uuid) (m : Message) → IsHello m → AreLines (record p { notes = [] }) → AllOf (WaitsForHello (p.connections ++ opened conn dialled ∷ []) dialling) p.requests → AllOf (WentAfterHello (p.connections ++ opened conn dialled ∷ [])) p.requests
    → AreLines (record p { connections = p.connections ++ opened conn dialled ∷ []; dialling = dialling; notes = Sends Hellos conn m ∷ [] })
unfolding in_order
lines-opened p conn dialled dialling m hello a waits out = record {
  sent = opened-lines (asked_up_to p.made p.fresh) p.told p.connections conn dialled m hello a.sent;
  waiting = waits;
  out = out;
  rising = a.rising;
  fresh_is = a.fresh_is;
  noted = (tt, tt);
  alike = alike-self (sent_on conn m (p.connections ++ opened conn dialled ∷ []));
}

none-after : (notes : List Note) (n : Note) → notes ≡ [] → notes ++ n ∷ [] ≡ n ∷ []
none-after notes n e = ap (λ (l : List Note). l ++ n ∷ []) e

-- a peer dialled
pub now-accepted : (s : State) (t : Transport) (conn : ℕ) (m : Message) (connections : Connections) (outputs : Outputs) → s.notes ≡ [] → connection_at s conn ≡ None → IsHello m → AreConnections (s.connections ++ opened conn None ∷ []) s.dialling connections
    → notes_of outputs ≡ notes_of t.outputs ++ Sends Hellos conn m ∷ [] → IsTransport s t → IsTransport (send Hellos conn m (dialled_no_more None (add_connection conn None s))) (record t { connections = connections; outputs = outputs })
now-accepted s t conn m connections outputs none free hello links e a =
    let cs = s.connections ++ opened conn None ∷ [] in
    let first = lines-first s t none a in
    let accepts = accepts-all conn cs links.numbered_once (λ c there. ap (λ (d : Connection). d.dialled) (number-found conn s.connections (opened conn None) c free there)) in
    subst (λ (u : State). IsTransport u (record t { connections = connections; outputs = outputs })) (send-open Hellos conn m (add_connection conn None s) (number-last conn s.connections (opened conn None) free refl)) (record {
      leases = a.leases;
      connections = links;
      noted = a.noted;
      asked = subst (λ (l : List Note). AreAsked (recorded cs l) s.requests t.peers) (sym (none-after s.notes (Sends Hellos conn m) none))
          (lines-same (λ q. accepted-lines conn m cs q accepts) (sent-numbered conn m cs links.numbered_once) (sent-dialled conn m cs links.dialled_once) (accepted-asked conn free (asked-first s t none a)));
      calls_made = a.calls_made;
      groups_made = a.groups_made;
      fresh = a.fresh;
      notes = e ∙ ap (λ (l : List Note). l ++ Sends Hellos conn m ∷ []) a.notes;
      lines = subst (λ (l : List Note). AreLines (record (line_parts s) { connections = cs; notes = l })) (sym (none-after s.notes (Sends Hellos conn m) none))
          (lines-opened (line_parts s) conn None s.dialling m hello first
          (all-weaken (WaitsForHello s.connections s.dialling) (WaitsForHello cs s.dialling) s.requests (λ r w is. let x = w is in
          (ap (λ o. is_some o || list_any (bytes_eq r.peer) s.dialling) (to-more s.connections (opened conn None) r.peer refl) ∙ x.0, ap hello_came (to-more s.connections (opened conn None) r.peer refl) ∙ x.1)) first.waiting)
          (all-weaken (WentAfterHello s.connections) (WentAfterHello cs) s.requests (λ r w is. ap (λ o. is_some (hello_came o)) (to-more s.connections (opened conn None) r.peer refl) ∙ w is) first.out));
    })

-- one on which this space says Hello once the peer's has come
pub now-accepted-late : (s : State) (t : Transport) (conn : ℕ) (connections : Connections) → s.notes ≡ [] → connection_at s conn ≡ None → AreConnections (s.connections ++ opened conn None ∷ []) s.dialling connections → IsTransport s t
    → IsTransport (dialled_no_more None (add_connection conn None s)) (record t { connections = connections })
unfolding in_order
now-accepted-late s t conn connections none free links a = record {
  leases = a.leases;
  connections = links;
  noted = a.noted;
  asked = subst (λ (l : List Note). AreAsked (recorded cs l) s.requests t.peers) (sym none) (accepted-asked conn free (asked-first s t none a));
  calls_made = a.calls_made;
  groups_made = a.groups_made;
  fresh = a.fresh;
  notes = a.notes;
  lines = subst (λ (l : List Note). AreLines (record (line_parts s) { connections = cs; notes = l })) (sym none) (record {
    sent = λ q c e. first.sent q c (sym (same q) ∙ e);
    waiting = all-weaken (WaitsForHello s.connections s.dialling) (WaitsForHello cs s.dialling) s.requests (λ r w is. let x = w is in (ap (λ o. is_some o || list_any (bytes_eq r.peer) s.dialling) (same r.peer) ∙ x.0, ap hello_came (same r.peer) ∙ x.1)) first.waiting;
    out = all-weaken (WentAfterHello s.connections) (WentAfterHello cs) s.requests (λ r w is. ap (λ o. is_some (hello_came o)) (same r.peer) ∙ w is) first.out;
    rising = first.rising;
    fresh_is = first.fresh_is;
    noted = tt;
    alike = alike-self cs;
  });
}
  where
    cs : List Connection
    cs = s.connections ++ opened conn None ∷ []

    first : AreLines (record (line_parts s) { notes = [] })
    first = lines-first s t none a

    same : (q : Uuid) → dialled_to cs q ≡ dialled_to s.connections q
    same q = to-more s.connections (opened conn None) q refl

-- a peer that is being dialled
pub now-opened : (s : State) (t : Transport) (conn : ℕ) (peer : Uuid) (m : Message) (connections : Connections) (peers : Peers) (outputs : Outputs) → s.notes ≡ [] → connection_at s conn ≡ None → is_dialling s peer ≡ true → IsHello m
    → AreConnections (s.connections ++ opened conn (Some peer) ∷ []) (filter (λ p. not (bytes_eq peer p)) s.dialling) connections → AreAsked (sent_on conn m (s.connections ++ opened conn (Some peer) ∷ [])) s.requests peers
    → notes_of outputs ≡ notes_of t.outputs ++ Sends Hellos conn m ∷ [] → IsTransport s t
    → IsTransport (send Hellos conn m (dialled_no_more (Some peer) (add_connection conn (Some peer) s))) (record t { connections = connections; peers = peers; outputs = outputs })
now-opened s t conn peer m connections peers outputs none free is hello links asked e a =
    subst (λ (u : State). IsTransport u (record t { connections = connections; peers = peers; outputs = outputs })) (send-open Hellos conn m (dialled_no_more (Some peer) (add_connection conn (Some peer) s)) (number-last conn s.connections (opened conn (Some peer)) free refl)) (record {
      leases = a.leases;
      connections = links;
      noted = a.noted;
      asked = subst (λ (l : List Note). AreAsked (recorded cs l) s.requests peers) (sym (none-after s.notes (Sends Hellos conn m) none)) asked;
      calls_made = a.calls_made;
      groups_made = a.groups_made;
      fresh = a.fresh;
      notes = e ∙ ap (λ (l : List Note). l ++ Sends Hellos conn m ∷ []) a.notes;
      lines = subst (λ (l : List Note). AreLines (record (line_parts s) { connections = cs; dialling = left; notes = l })) (sym (none-after s.notes (Sends Hellos conn m) none))
          (lines-opened (line_parts s) conn (Some peer) left m hello (lines-first s t none a)
          (all-weaken (WaitsForHello s.connections s.dialling) (WaitsForHello cs left) s.requests (λ r w is. still r (w is) (bytes_eq peer r.peer) refl) (lines-first s t none a).waiting)
          (all-weaken (WentAfterHello s.connections) (WentAfterHello cs) s.requests (λ r w is. went r (w is) (bytes_eq peer r.peer) refl) (lines-first s t none a).out));
    })
  where
    new : Connection
    new = opened conn (Some peer)

    cs : List Connection
    cs = s.connections ++ new ∷ []

    left : List Uuid
    left = filter (λ (p : Uuid). not (bytes_eq peer p)) s.dialling

    alone : dialled_to s.connections peer ≡ None
    alone = a.connections.apart peer is

    still : (r : Request) → ((is_some (dialled_to s.connections r.peer) || list_any (bytes_eq r.peer) s.dialling) ≡ true) × (hello_came (dialled_to s.connections r.peer) ≡ None) → (b : Bool) → bytes_eq peer r.peer ≡ b
        → ((is_some (dialled_to cs r.peer) || list_any (bytes_eq r.peer) left) ≡ true) × (hello_came (dialled_to cs r.peer) ≡ None)
    still r x true at =
        let f : dialled_to cs r.peer ≡ Some new = to-last s.connections new r.peer (subst (λ (q : Uuid). dialled_to s.connections q ≡ None) (one-peer peer r.peer at) alone) at in
        (ap (λ o. is_some o || list_any (bytes_eq r.peer) left) f, ap hello_came f)
    still r x false at =
        let f : dialled_to cs r.peer ≡ dialled_to s.connections r.peer = to-more s.connections new r.peer at in
        (ap (λ o. is_some o || list_any (bytes_eq r.peer) left) f ∙ kept (is_some (dialled_to s.connections r.peer)) x.0, ap hello_came f ∙ x.1)
      where
        kept : (b : Bool) → (b || list_any (bytes_eq r.peer) s.dialling) ≡ true → (b || list_any (bytes_eq r.peer) left) ≡ true
        kept true g = refl
        kept false g = any-others peer r.peer s.dialling at g

    went : (r : Request) → is_some (hello_came (dialled_to s.connections r.peer)) ≡ true → (b : Bool) → bytes_eq peer r.peer ≡ b → is_some (hello_came (dialled_to cs r.peer)) ≡ true
    went r x true at = absurd (true≢false (sym x ∙ ap (λ o. is_some (hello_came o)) (subst (λ (q : Uuid). dialled_to s.connections q ≡ None) (one-peer peer r.peer at) alone)))
    went r x false at = ap (λ o. is_some (hello_came o)) (to-more s.connections new r.peer at) ∙ x

-- ---- a Hello comes

-- who spoke on a connection
abbrev pub speaks : Uuid → Connection → Connection
speaks space c = record c { peer = Some space }

abbrev pub changed : (Connection → Connection) → ℕ → List Connection → List Connection
changed f conn cs = at_first (λ (c : Connection). c.number == conn) f cs

-- of a peer that dialled
pub now-greeted : (s : State) (t : Transport) (conn : ℕ) (space : Uuid) (connections : Connections) → s.notes ≡ [] → ((c : Connection) → connection_at s conn ≡ Some c → c.dialled ≡ None) → AreConnections (changed (speaks space) conn s.connections) s.dialling connections → IsTransport s t
    → IsTransport (greeted space conn s) (record t { connections = connections })
unfolding in_order
now-greeted s t conn space connections none is links a = record {
  leases = a.leases;
  connections = links;
  noted = a.noted;
  asked = subst (λ (l : List Note). AreAsked (recorded cs l) s.requests t.peers) (sym none) (row-asked (λ (c : Connection). c.number == conn) (speaks space) (record { number = λ c. refl; dialled = λ c. refl }) (λ c. refl) (asked-first s t none a));
  calls_made = a.calls_made;
  groups_made = a.groups_made;
  fresh = a.fresh;
  notes = a.notes;
  lines = subst (λ (l : List Note). AreLines (record (line_parts s) { connections = cs; notes = l })) (sym none) (record {
    sent = λ q c e. first.sent q c (sym (same q) ∙ e);
    waiting = all-weaken (WaitsForHello s.connections s.dialling) (WaitsForHello cs s.dialling) s.requests (λ r w at. let x = w at in (ap (λ o. is_some o || list_any (bytes_eq r.peer) s.dialling) (same r.peer) ∙ x.0, ap hello_came (same r.peer) ∙ x.1)) first.waiting;
    out = all-weaken (WentAfterHello s.connections) (WentAfterHello cs) s.requests (λ r w at. ap (λ o. is_some (hello_came o)) (same r.peer) ∙ w at) first.out;
    rising = first.rising;
    fresh_is = first.fresh_is;
    noted = tt;
    alike = alike-self cs;
  });
}
  where
    cs : List Connection
    cs = changed (speaks space) conn s.connections

    first : AreLines (record (line_parts s) { notes = [] })
    first = lines-first s t none a

    same : (q : Uuid) → dialled_to cs q ≡ dialled_to s.connections q
    same q = accepted-change conn (speaks space) s.connections q (λ d. refl) (accepts-all conn s.connections a.connections.numbered_once is)

-- the numbers of the calls that wait for a peer
taken-numbers : (peer : Uuid) (rs : List Request) → flat_map waiting_number (filter (waits_for peer) rs) ≡ flat_map call_number (map (λ (r : Request). r.asked) (filter (waits_for peer) rs))
taken-numbers peer [] = refl
taken-numbers peer (r ∷ rs) = pick (bytes_eq r.peer peer) (is_waiting r.stage) refl (taken-numbers peer rs)
  where
    rest : List Request
    rest = filter (waits_for peer) rs

    pick : (b w : Bool) → is_waiting r.stage ≡ w → flat_map waiting_number rest ≡ flat_map call_number (map (λ (x : Request). x.asked) rest)
        → flat_map waiting_number (cond (b && w) (r ∷ rest) rest) ≡ flat_map call_number (map (λ (x : Request). x.asked) (cond (b && w) (r ∷ rest) rest))
    pick true true e go = ap (λ c. cond c (call_number r.asked) [] ++ flat_map waiting_number rest) e ∙ ap (λ (l : List ℕ). call_number r.asked ++ l) go
    pick true false e go = go
    pick false w e go = go

-- of a peer that was dialled: what waits for it is taken
pub now-welcome : (s : State) (t : Transport) (conn : ℕ) (peer : Uuid) (c : Connection) (connections : Connections) (peers : Peers) → s.notes ≡ [] → connection_at s conn ≡ Some c → c.dialled ≡ Some peer → AreConnections (changed (speaks peer) conn s.connections) s.dialling connections
    → AreAsked s.connections (filter (λ (r : Request). not (waits_for peer r)) s.requests) peers → IsTransport s t → IsTransport (welcome peer conn s) (record t { connections = connections; peers = peers })
unfolding in_order
now-welcome s t conn peer c connections peers none at its links asked a = record {
  leases = a.leases;
  connections = links;
  noted = a.noted;
  asked = subst (λ (l : List Note). AreAsked (recorded cs l) left peers) (sym none) (row-asked (λ (d : Connection). d.number == conn) (speaks peer) (record { number = λ d. refl; dialled = λ d. refl }) (λ d. refl) asked);
  calls_made = a.calls_made;
  groups_made = a.groups_made;
  fresh = a.fresh;
  notes = a.notes;
  lines = subst (λ (l : List Note). AreLines (record (line_parts s) { connections = cs; requests = left; notes = l })) (sym none) (record {
    sent = λ q d e. line q d (change-found conn (speaks peer) s.connections q d (λ x. refl) e);
    waiting = all-weaken (λ (r : Request). WaitsForHello s.connections s.dialling r × (not (waits_for peer r) ≡ true)) (WaitsForHello cs s.dialling) left (λ r w is. let x = w.0 is in (
      ap (λ b. b || list_any (bytes_eq r.peer) s.dialling) (row-some (λ (d : Connection). d.number == conn) (speaks peer) (record { number = λ d. refl; dialled = λ d. refl }) s.connections r.peer) ∙ x.0,
      row-hello (λ (d : Connection). d.number == conn) (speaks peer) (record { number = λ d. refl; dialled = λ d. refl }) s.connections r.peer (λ d found. inl (ap (is_to r.peer) (ap (λ (y : Connection). y.dialled) (some-same (sym found ∙ at)) ∙ its) ∙ other-way r.peer peer (elsewhere r w.1 is))) ∙ x.1,
    )) (all-both-filter (WaitsForHello s.connections s.dialling) (λ (r : Request). not (waits_for peer r)) s.requests first.waiting);
    out = all-weaken (WentAfterHello s.connections) (WentAfterHello cs) left (λ r w is. hello-stays conn peer s.connections r.peer (w is)) (all-filter (WentAfterHello s.connections) (λ (r : Request). not (waits_for peer r)) s.requests first.out);
    rising = rises-some waiting_number (λ (r : Request). not (waits_for peer r)) 0 (asked_up_to s.calls_made s.fresh) s.requests first.rising;
    fresh_is = first.fresh_is;
    noted = tt;
    alike = alike-self cs;
  });
}
  where
    cs : List Connection
    cs = changed (speaks peer) conn s.connections

    left : List Request
    left = filter (λ (r : Request). not (waits_for peer r)) s.requests

    first : AreLines (record (line_parts s) { notes = [] })
    first = lines-first s t none a

    some : (x : Uuid) → Some x ≡ None → ⊥
    some x h = cc

    line : (q : Uuid) (d : Connection) → (dialled_to s.connections q ≡ Some d) ⊎ IsChangedOn (speaks peer) (dialled_to s.connections q) d → IsLine (asked_up_to s.calls_made s.fresh) (client.numbers_of s.leases) d
    line q d (inl f) = first.sent q d f
    line q d (inr x) = let old = first.sent q x.before x.there in subst (IsLine (asked_up_to s.calls_made s.fresh) (client.numbers_of s.leases)) (sym x.is) (record { called = old.called; told_of = old.told_of; quiet = λ isnt. absurd (some peer isnt) })

    not-true : (b : Bool) → not b ≡ true → b ≡ false
    not-true true e = absurd (true≢false (sym e))
    not-true false e = refl

    elsewhere : (r : Request) → not (waits_for peer r) ≡ true → is_waiting r.stage ≡ true → bytes_eq r.peer peer ≡ false
    elsewhere r out is = pick (bytes_eq r.peer peer) (is_waiting r.stage) is (not-true (waits_for peer r) out)
      where
        pick : (b w : Bool) → w ≡ true → (b && w) ≡ false → b ≡ false
        pick true true e f = f
        pick true false e f = absurd (true≢false (sym e))
        pick false w e f = refl

-- its Hello has come on this connection
pub welcome-hello : (s : State) (t : Transport) (conn : ℕ) (peer : Uuid) (c : Connection) → connection_at s conn ≡ Some c → c.dialled ≡ Some peer → IsTransport s t → hello_came (connection_to (welcome peer conn s) peer) ≡ Some conn
welcome-hello s t conn peer c at its a =
    let number : c.number ≡ conn = eqb-true c.number conn (found-is (λ (d : Connection). d.number == conn) s.connections c at) in
    ap hello_came (change-here conn (speaks peer) s.connections peer c (λ d. refl) a.connections.numbered_once (number-line s.connections conn c peer a.connections.dialled_once at its) number) ∙ ap (λ (n : ℕ). Some n) number

-- and may go out
pub next-welcome : (s : State) (t : Transport) (conn : ℕ) (peer : Uuid) (c : Connection) → s.notes ≡ [] → connection_at s conn ≡ Some c → c.dialled ≡ Some peer → c.peer ≡ None → IsTransport s t → AreNextOut (welcome peer conn s) peer (flat_map call_number (map (λ (r : Request). r.asked) (filter (waits_for peer) s.requests)))
next-welcome s t conn peer c none at its quiet a = λ d there. from d (change-found conn (speaks peer) s.connections peer d (λ x. refl) (subst (λ (l : List Note). dialled_to (recorded (changed (speaks peer) conn s.connections) l) peer ≡ Some d) none there))
  where
    first : AreLines (record (line_parts s) { notes = [] })
    first = lines-first s t none a

    line : dialled_to s.connections peer ≡ Some c
    line = number-line s.connections conn c peer a.connections.dialled_once at its

    nothing : last_call c.sent ≡ 0
    nothing = ap newest ((first.sent peer c line).quiet quiet)

    rises : RisesWithin 0 (asked_up_to s.calls_made s.fresh) (flat_map call_number (map (λ (r : Request). r.asked) (filter (waits_for peer) s.requests)))
    rises = subst (RisesWithin 0 (asked_up_to s.calls_made s.fresh)) (taken-numbers peer s.requests) (rises-some waiting_number (waits_for peer) 0 (asked_up_to s.calls_made s.fresh) s.requests first.rising)

    all : (d : Connection) → d.sent ≡ c.sent → RisesWithin (last_call d.sent) (asked_up_to s.calls_made s.fresh) (flat_map call_number (map (λ (r : Request). r.asked) (filter (waits_for peer) s.requests)))
    all d e = subst (λ (n : ℕ). RisesWithin n (asked_up_to s.calls_made s.fresh) (flat_map call_number (map (λ (r : Request). r.asked) (filter (waits_for peer) s.requests)))) (sym (ap last_call e ∙ nothing)) rises

    from : (d : Connection) → (dialled_to s.connections peer ≡ Some d) ⊎ IsChangedOn (speaks peer) (dialled_to s.connections peer) d → RisesWithin (last_call d.sent) (asked_up_to s.calls_made s.fresh) (flat_map call_number (map (λ (r : Request). r.asked) (filter (waits_for peer) s.requests)))
    from d (inl f) = all d (ap (λ (y : Connection). y.sent) (some-same (sym f ∙ line)))
    from d (inr x) = all d (ap (λ (y : Connection). y.sent) x.is ∙ ap (λ (y : Connection). y.sent) (some-same (sym x.there ∙ line)))

-- ---- the number of a call comes

abbrev pub counts : ℕ → Connection → Connection
counts number c = record c { last = number }

pub now-counted : (s : State) (t : Transport) (conn number : ℕ) (connections : Connections) → s.notes ≡ [] → AreConnections (changed (counts number) conn s.connections) s.dialling connections → IsTransport s t → IsTransport (counted conn number s) (record t { connections = connections })
unfolding in_order
now-counted s t conn number connections none links a = record {
  leases = a.leases;
  connections = links;
  noted = a.noted;
  asked = subst (λ (l : List Note). AreAsked (recorded cs l) s.requests t.peers) (sym none) (row-asked (λ (d : Connection). d.number == conn) (counts number) (record { number = λ d. refl; dialled = λ d. refl }) (λ d. refl) (asked-first s t none a));
  calls_made = a.calls_made;
  groups_made = a.groups_made;
  fresh = a.fresh;
  notes = a.notes;
  lines = subst (λ (l : List Note). AreLines (record (line_parts s) { connections = cs; notes = l })) (sym none) (record {
    sent = λ q d e. line q d (change-found conn (counts number) s.connections q d (λ x. refl) e);
    waiting = all-weaken (WaitsForHello s.connections s.dialling) (WaitsForHello cs s.dialling) s.requests (λ r w is. let x = w is in (
      ap (λ b. b || list_any (bytes_eq r.peer) s.dialling) (row-some (λ (d : Connection). d.number == conn) (counts number) (record { number = λ d. refl; dialled = λ d. refl }) s.connections r.peer) ∙ x.0,
      same r.peer ∙ x.1,
    )) first.waiting;
    out = all-weaken (WentAfterHello s.connections) (WentAfterHello cs) s.requests (λ r w is. ap is_some (same r.peer) ∙ w is) first.out;
    rising = first.rising;
    fresh_is = first.fresh_is;
    noted = tt;
    alike = alike-self cs;
  });
}
  where
    cs : List Connection
    cs = changed (counts number) conn s.connections

    first : AreLines (record (line_parts s) { notes = [] })
    first = lines-first s t none a

    line : (q : Uuid) (d : Connection) → (dialled_to s.connections q ≡ Some d) ⊎ IsChangedOn (counts number) (dialled_to s.connections q) d → IsLine (asked_up_to s.calls_made s.fresh) (client.numbers_of s.leases) d
    line q d (inl f) = first.sent q d f
    line q d (inr x) = let old = first.sent q x.before x.there in subst (IsLine (asked_up_to s.calls_made s.fresh) (client.numbers_of s.leases)) (sym x.is) (record { called = old.called; told_of = old.told_of; quiet = old.quiet })

    same : (q : Uuid) → hello_came (dialled_to cs q) ≡ hello_came (dialled_to s.connections q)
    same q = row-hello (λ (d : Connection). d.number == conn) (counts number) (record { number = λ d. refl; dialled = λ d. refl }) s.connections q (λ d found. inr refl)
