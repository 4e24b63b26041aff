-- A peer of version 1 alone: it is noted, and dialled again once its connection is closed; all that is asked of it waits on.
use Rattle.std.proofs.Common.{◌≡◌, ℕ, Bool, true, false, cond, List, [], ◌∷◌, ◌++◌, Option, None, Some, is_some, refl, sym, ap, subst, ◌∙◌, true≢false}
use Rattle.std.specs.Prelude.{◌||◌}
use Rattle.std.specs.List.{list_any}
use Rattle.std.specs.Str.{bytes_eq}
use Rattle.uuid.specs.declared.Uuid.{Uuid}
use Rattle.sp_rules.proofs.AllLemmas.{all-weaken}
use Rattle.sp_rules.proofs.LineLemmas.{any-last, any-more, one-peer}
use Rattle.sp_rules.specs.Endings.{note_peer, without_connection}
use Rattle.sp_rules.specs.Events.{Close, Dial, Note, Says, in_order}
use Rattle.sp_rules.specs.Laws.{AllOf}
use Rattle.sp_rules.specs.Lines.{WaitsForHello, dialled_to}
use Rattle.sp_rules.specs.OwnEvents.{is_among}
use Rattle.sp_rules.specs.Requests.{hello_came, is_waiting}
use Rattle.sp_rules.specs.State.{State, Connection, Request, connection_at, connection_to, is_dialling, say}
use Rattle.sp_requests.specs.Tables.{AreConnections}
use Rattle.sp_requests.specs.declared.connections.Connections.{Connections}
use Rattle.sp_requests.specs.Peers.{of_peer}
use Rattle.sp_requests.proofs.LineLemmas.{line-gone, line-left, number-line, without}
use Rattle.sp_requests.specs.AllAsked.{AreAsked}
use Rattle.sp_requests.specs.declared.peers.Peers.{Peers}
use Rattle.sp_outputs.specs.Notes.{notes_of}
use Rattle.sp_outputs.specs.declared.outputs.Outputs.{Outputs}
use Rattle.sp_transport.specs.Said.{recorded}
use Rattle.sp_transport.specs.Transports.{AreLines, IsTransport, WentAfterHello, line_parts}
use Rattle.sp_transport.specs.declared.transport.Transport.{Transport}
use Rattle.sp_transport.proofs.EndingLemmas.{number-is}
use Rattle.sp_transport.proofs.SaidLemmas.{alike-self}
use Rattle.sp_transport.proofs.OpeningLemmas.{lines-first}

nothing : {A : Type 0} (x : A) → None ≡ Some x → ⊥
nothing x h = cc

-- ---- the connection that goes

-- is that of the peer, and the peer has no other
gone : (s : State) (t : Transport) (conn : ℕ) (peer : Uuid) (c : Connection) → connection_at s conn ≡ Some c → c.dialled ≡ Some peer → IsTransport s t → dialled_to (without conn s.connections) peer ≡ None
gone s t conn peer c at its a = subst (λ (n : ℕ). dialled_to (without n s.connections) peer ≡ None) (number-is s conn c at)
    (line-gone s.connections peer c a.connections.numbered_once a.connections.dialled_once (number-line s.connections conn c peer a.connections.dialled_once at its))

-- so it is news that it is dialled
pub not-known : (s : State) (t : Transport) (conn : ℕ) (peer : Uuid) (c : Connection) → connection_at s conn ≡ Some c → c.dialled ≡ Some peer → IsTransport s t → (is_some (connection_to (without_connection conn s) peer) || is_dialling s peer) ≡ true → ⊥
not-known s t conn peer c at its a known = by (is_dialling s peer) refl (sym (ap (λ o. is_some o || is_dialling s peer) (gone s t conn peer c at its a)) ∙ known)
  where
    by : (b : Bool) → is_dialling s peer ≡ b → b ≡ true → ⊥
    by true e f = nothing c (sym (a.connections.apart peer e) ∙ number-line s.connections conn c peer a.connections.dialled_once at its)
    by false e f = true≢false (sym f)

-- before its Hello came all that is asked of it waits
pub waits-all : (s : State) (t : Transport) (conn : ℕ) (peer : Uuid) (c : Connection) → s.notes ≡ [] → connection_at s conn ≡ Some c → c.dialled ≡ Some peer → c.peer ≡ None → IsTransport s t → AllOf (λ (r : Request). is_waiting r.stage ≡ true) (of_peer peer s.requests)
waits-all s t conn peer c none at its quiet a = each s.requests (lines-first s t none a).out
  where
    line : dialled_to s.connections peer ≡ Some c
    line = number-line s.connections conn c peer a.connections.dialled_once at its

    never : (r : Request) → bytes_eq r.peer peer ≡ true → WentAfterHello s.connections r → is_waiting r.stage ≡ false → ⊥
    never r same went out = true≢false (sym (subst (λ (o : Option Connection). is_some (hello_came o) ≡ true) (ap (dialled_to s.connections) (one-peer r.peer peer same) ∙ line) (went out)) ∙ ap (λ (o : Option Uuid). is_some (cond (is_some o) (Some c.number) None)) quiet)

    each : (rs : List Request) → AllOf (WentAfterHello s.connections) rs → AllOf (λ (r : Request). is_waiting r.stage ≡ true) (of_peer peer rs)
    each [] went = tt
    each (r ∷ rs) went = pick (bytes_eq r.peer peer) refl (is_waiting r.stage) refl (each rs went.1)
      where
        pick : (b : Bool) → bytes_eq r.peer peer ≡ b → (w : Bool) → is_waiting r.stage ≡ w → AllOf (λ (x : Request). is_waiting x.stage ≡ true) (of_peer peer rs) → AllOf (λ (x : Request). is_waiting x.stage ≡ true) (cond b (r ∷ of_peer peer rs) (of_peer peer rs))
        pick true same true w go = (w, go)
        pick true same false w go = absurd (never r same went.0 w)
        pick false same w x go = go

-- ---- the peer is dialled again

pub now-redialled : (s : State) (t : Transport) (conn : ℕ) (peer : Uuid) (c : Connection) (connections : Connections) (peers : Peers) (outputs : Outputs) → s.notes ≡ [] → connection_at s conn ≡ Some c → c.dialled ≡ Some peer → c.peer ≡ None
    → AreConnections (without conn s.connections) (s.dialling ++ peer ∷ []) connections → AreAsked (without c.number s.connections) s.requests peers → notes_of outputs ≡ (notes_of t.outputs ++ Says (Close conn) ∷ []) ++ Says (Dial peer) ∷ [] → IsTransport s t
    → IsTransport (say (Dial peer) (record (say (Close conn) (without_connection conn s)) { dialling = s.dialling ++ peer ∷ [] })) (record t { connections = connections; peers = peers; outputs = outputs })
unfolding in_order
now-redialled s t conn peer c connections peers outputs none at its quiet links asked e a = record {
  leases = a.leases;
  connections = links;
  noted = a.noted;
  asked = subst (λ (l : List Note). AreAsked (recorded cs ((l ++ Says (Close conn) ∷ []) ++ Says (Dial peer) ∷ [])) s.requests peers) (sym none) (subst (λ (n : ℕ). AreAsked (without n s.connections) s.requests peers) (number-is s conn c at) asked);
  calls_made = a.calls_made;
  groups_made = a.groups_made;
  fresh = a.fresh;
  notes = e ∙ ap (λ (l : List Note). (l ++ Says (Close conn) ∷ []) ++ Says (Dial peer) ∷ []) a.notes;
  lines = subst (λ (l : List Note). AreLines (record (line_parts s) { connections = cs; dialling = more; notes = (l ++ Says (Close conn) ∷ []) ++ Says (Dial peer) ∷ [] })) (sym none) (record {
    sent = λ q d found. first.sent q d (there q d found (bytes_eq peer q) refl);
    waiting = all-weaken (WaitsForHello s.connections s.dialling) (WaitsForHello cs more) s.requests (λ r w is. still r (w is) (bytes_eq peer r.peer) refl) first.waiting;
    out = all-weaken (WentAfterHello s.connections) (WentAfterHello cs) s.requests (λ r w is. went r (w is) (bytes_eq peer r.peer) refl) first.out;
    rising = first.rising;
    fresh_is = first.fresh_is;
    noted = (refl, (refl, tt));
    alike = alike-self cs;
  });
}
  where
    cs : List Connection
    cs = without conn s.connections

    more : List Uuid
    more = s.dialling ++ peer ∷ []

    first : AreLines (record (line_parts s) { notes = [] })
    first = lines-first s t none a

    line : dialled_to s.connections peer ≡ Some c
    line = number-line s.connections conn c peer a.connections.dialled_once at its

    others : (q : Uuid) → bytes_eq peer q ≡ false → dialled_to cs q ≡ dialled_to s.connections q
    others q apart = subst (λ (n : ℕ). dialled_to (without n s.connections) q ≡ dialled_to s.connections q) (number-is s conn c at) (line-left s.connections peer q c a.connections.numbered_once line apart)

    own : (q : Uuid) → bytes_eq peer q ≡ true → dialled_to cs q ≡ None
    own q same = subst (λ (p : Uuid). dialled_to cs p ≡ None) (one-peer peer q same) (gone s t conn peer c at its a)

    there : (q : Uuid) (d : Connection) → dialled_to cs q ≡ Some d → (b : Bool) → bytes_eq peer q ≡ b → dialled_to s.connections q ≡ Some d
    there q d found true same = absurd (nothing d (sym (own q same) ∙ found))
    there q d found false apart = sym (others q apart) ∙ found

    still : (r : Request) → ((is_some (dialled_to s.connections r.peer) || list_any (bytes_eq r.peer) s.dialling) ≡ true) × (hello_came (dialled_to s.connections r.peer) ≡ None) → (b : Bool) → bytes_eq peer r.peer ≡ b
        → ((is_some (dialled_to cs r.peer) || list_any (bytes_eq r.peer) more) ≡ true) × (hello_came (dialled_to cs r.peer) ≡ None)
    still r x true same =
        let f = own r.peer same in
        (ap (λ o. is_some o || list_any (bytes_eq r.peer) more) f ∙ subst (λ (p : Uuid). list_any (bytes_eq r.peer) (s.dialling ++ p ∷ []) ≡ true) (sym (one-peer peer r.peer same)) (any-last r.peer s.dialling), ap hello_came f)
    still r x false apart =
        let f = others r.peer apart in
        (ap (λ o. is_some o || list_any (bytes_eq r.peer) more) f ∙ kept (is_some (dialled_to s.connections r.peer)) x.0, ap hello_came f ∙ x.1)
      where
        kept : (b : Bool) → (b || list_any (bytes_eq r.peer) s.dialling) ≡ true → (b || list_any (bytes_eq r.peer) more) ≡ true
        kept true g = refl
        kept false g = any-more r.peer s.dialling peer g

    went : (r : Request) → is_some (hello_came (dialled_to s.connections r.peer)) ≡ true → (b : Bool) → bytes_eq peer r.peer ≡ b → is_some (hello_came (dialled_to cs r.peer)) ≡ true
    went r x true same = absurd (true≢false (sym (subst (λ (o : Option Connection). is_some (hello_came o) ≡ true) (sym (ap (dialled_to s.connections) (one-peer peer r.peer same)) ∙ line) x) ∙ ap (λ (o : Option Uuid). is_some (cond (is_some o) (Some c.number) None)) quiet))
    went r x false apart = ap (λ o. is_some (hello_came o)) (others r.peer apart) ∙ x

-- ---- the peer is noted

among-more : (peers : List Uuid) (peer q : Uuid) → is_among (peers ++ peer ∷ []) q ≡ (is_among peers q || is_among (peer ∷ []) q)
among-more [] peer q = refl
among-more (p ∷ peers) peer q = by (bytes_eq q p) (among-more peers peer q)
  where
    by : (b : Bool) → is_among (peers ++ peer ∷ []) q ≡ (is_among peers q || is_among (peer ∷ []) q) → (b || is_among (peers ++ peer ∷ []) q) ≡ ((b || is_among peers q) || is_among (peer ∷ []) q)
    by true go = refl
    by false go = go

pub now-noted : (s : State) (t : Transport) (peer : Uuid) (noted : List Uuid) → ((q : Uuid) → is_among noted q ≡ (is_among t.noted q || is_among (peer ∷ []) q)) → IsTransport s t → IsTransport (note_peer peer s) (record t { noted = noted })
now-noted s t peer noted added a = record {
  leases = a.leases;
  connections = a.connections;
  noted = λ q. added q ∙ (ap (λ b. b || is_among (peer ∷ []) q) (a.noted q) ∙ sym (among-more s.noted peer q));
  asked = a.asked;
  calls_made = a.calls_made;
  groups_made = a.groups_made;
  fresh = a.fresh;
  notes = a.notes;
  lines = a.lines;
}
