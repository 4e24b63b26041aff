-- What each call makes of the parts of a transport, when the tables below have done theirs: leases, outputs, requests that wait and frames that go out.
use Rattle.std.proofs.Common.{◌≡◌, ℕ, ◌+◌, ◌≤◌, ◌<◌, Bool, true, false, cond, List, [], ◌∷◌, ◌++◌, Option, None, Some, is_some, refl, sym, ap, subst, ◌∙◌, true≢false, arith}
use Rattle.std.specs.Prelude.{◌==◌, ◌||◌, option_map}
use Rattle.std.specs.List.{list_any}
use Rattle.std.specs.Str.{bytes_eq}
use Rattle.std.proofs.lemmas.Bool.{eqb-true}
use Rattle.space_ids.specs.declared.ids.ForeignId.{ForeignId}
use Rattle.space_ids.specs.declared.ids.ObjId.{ObjId}
use Rattle.dgc_client.specs.declared.groups.Group.{Group}
use Rattle.dgc_client.specs.declared.lease.Due.{Due}
use Rattle.dgc_client.specs.declared.lease.Due.TheVariants as due
use Rattle.dgc_client.specs.declared.table.Clients.{Clients}
use Rattle.dgc_client.specs.History as lease_events
use Rattle.dgc_client.specs.Table as client
use Rattle.net_message.specs.declared.message.Message.{Message}
use Rattle.uuid.specs.declared.Uuid.{Uuid}
use Rattle.sp_rules.proofs.AllLemmas.{all-weaken}
use Rattle.sp_rules.specs.Endings.{call_number_in}
use Rattle.sp_rules.specs.Events as event
use Rattle.sp_rules.specs.Events.{Note, Says, Sends, Turn, Dial}
use Rattle.sp_rules.specs.Laws.{AllOf, RisesWithin}
use Rattle.sp_rules.specs.Lines.{dialled_to}
use Rattle.sp_rules.specs.Requests.{add_request, dial, group_frame, hello_came, part_goes_out}
use Rattle.sp_rules.specs.State.{State, Connection, Request, Asked, Tells, Waits, Out, connection_at, connection_to, is_dialling, is_open, say, send}
use Rattle.sp_requests.specs.Tables.{AreConnections, AreNumbered, numbered, seen}
use Rattle.sp_requests.specs.declared.connections.Connections.{Connections}
use Rattle.sp_requests.specs.Asking.{last_call, sequence_in}
use Rattle.sp_requests.specs.AllAsked.{AreAsked, sent_on}
use Rattle.sp_requests.specs.declared.peers.Peers.{Peers}
use Rattle.sp_requests.proofs.CoreLemmas.{lines-same}
use Rattle.sp_requests.proofs.LineLemmas.{line-number, sent-dialled, sent-numbered}
use Rattle.sp_outputs.specs.Notes.{is_said, notes_of, output_of}
use Rattle.sp_outputs.specs.declared.output.Output.{Output}
use Rattle.sp_outputs.specs.declared.output.Output.TheVariants as output
use Rattle.sp_outputs.specs.declared.outputs.Outputs.{Outputs}
use Rattle.sp_transport.specs.Asking.{AreNextOut, AreNextWaiting}
use Rattle.sp_transport.specs.Said as noted
use Rattle.sp_transport.specs.Said.{CallsMayGo, GroupsMayGo, IsOfTurn, is_acks, recorded, said}
use Rattle.sp_transport.specs.Transports.{AreLines, IsTransport, asked_up_to, call_number, line_parts}
use Rattle.sp_transport.specs.declared.transport.Transport.{Transport}
use Rattle.sp_transport.proofs.SaidLemmas.{Accepts, accepted-lines, accepted-notes, greeted-row, hello-noted}
use Rattle.sp_transport.proofs.OrderLemmas.{alike-call, alike-group, recorded-said, recorded-sent}
use Rattle.sp_transport.proofs.LinesLemmas.{line-call, line-group, line-wider, lines-answer, lines-out, lines-said, lines-wait}

-- ---- leases

pub with-leases : (s : State) (t : Transport) (h : List client.Told) (leases : Clients) → client.numbers_of h ≡ client.numbers_of s.leases → client.IsAfter h leases → IsTransport s t → IsTransport (record s { leases = h }) (record t { leases = leases })
with-leases s t h leases same after a = record {
  leases = after;
  connections = a.connections;
  noted = a.noted;
  asked = a.asked;
  calls_made = a.calls_made;
  groups_made = a.groups_made;
  fresh = a.fresh;
  notes = a.notes;
  lines = subst (λ (n : ℕ). AreLines (record (line_parts s) { told = n })) (sym same) a.lines;
}

-- events of references give no number
pub each-numbers : (ids : List ForeignId) (e : lease_events.Event) (h : List client.Told) → client.numbers_of (client.on_each ids e h) ≡ client.numbers_of h
each-numbers [] e h = refl
each-numbers (r ∷ rs) e h = each-numbers rs e (client.On r e ∷ h)

pub told-numbers : (group : Group) (e : lease_events.Event) (h : List client.Told) → client.numbers_of (client.told group e h) ≡ client.numbers_of h
told-numbers group e h = each-numbers (client.references_at group.peer group.ids) e h

pub sent-numbers : (kind : Due) (group : Group) (call : ℕ) (h : List client.Told) → client.numbers_of (client.sent_as kind group call h) ≡ client.numbers_of h
sent-numbers due.Dirty group call h = told-numbers group (lease_events.DirtySent call) h
sent-numbers (due.Clean strong) group call h = refl

-- ---- outputs that are no frames

said-of : (o : Output) → is_said o ≡ true → noted.is_said (output_of o) ≡ true
said-of (output.Started task) e = refl
said-of (output.Ended task outcome) e = refl
said-of (output.Withdrawn ids) e = refl
said-of (output.Denied fault) e = refl
said-of (output.Send conn m) e = absurd (true≢false (sym e))
said-of (output.Dial peer) e = refl
said-of (output.Close conn) e = refl
said-of (output.Ready task) e = refl

pub now-said : (s : State) (t : Transport) (o : Output) (outputs : Outputs) → is_said o ≡ true → notes_of outputs ≡ notes_of t.outputs ++ Says (output_of o) ∷ [] → IsTransport s t → IsTransport (say (output_of o) s) (record t { outputs = outputs })
now-said s t o outputs is e a = record {
  leases = a.leases;
  connections = a.connections;
  noted = a.noted;
  asked = subst (λ (l : List Connection). AreAsked l s.requests t.peers) (sym (recorded-said (output_of o) s.notes s.connections)) a.asked;
  calls_made = a.calls_made;
  groups_made = a.groups_made;
  fresh = a.fresh;
  notes = e ∙ ap (λ (l : List Note). l ++ Says (output_of o) ∷ []) a.notes;
  lines = lines-said (line_parts s) (output_of o) a.lines (said-of o is);
}

-- ---- connections by number

-- whether a connection is open is told by what a table has of it
pub open-seen : (o : Option Connection) → is_some (option_map seen o) ≡ is_some o
open-seen None = refl
open-seen (Some c) = refl

-- a frame on a connection that is open, and on one that is not
pub send-open : (turn : Turn) (conn : ℕ) (m : Message) (s : State) → is_open s conn ≡ true → record s { notes = s.notes ++ Sends turn conn m ∷ [] } ≡ send turn conn m s
unfolding send
send-open turn conn m s is = sym (ap (λ b. cond b (record s { notes = s.notes ++ Sends turn conn m ∷ [] }) s) is)

pub send-shut : (turn : Turn) (conn : ℕ) (m : Message) (s : State) → is_open s conn ≡ false → s ≡ send turn conn m s
unfolding send
send-shut turn conn m s shut = sym (ap (λ b. cond b (record s { notes = s.notes ++ Sends turn conn m ∷ [] }) s) shut)

pub accepts-all : (n : ℕ) (cs : List Connection) → AreNumbered cs → ((c : Connection) → numbered n cs ≡ Some c → c.dialled ≡ None) → AllOf (Accepts n) cs
accepts-all n [] apart is = tt
accepts-all n (x ∷ xs) apart is = pick (x.number == n) refl (accepts-all n xs apart.1)
  where
    pick : (b : Bool) → (x.number == n) ≡ b → (((c : Connection) → numbered n xs ≡ Some c → c.dialled ≡ None) → AllOf (Accepts n) xs) → AllOf (Accepts n) (x ∷ xs)
    pick true at go = (
      λ e. is x (ap (λ b. cond b (Some x) (numbered n xs)) at),
      all-weaken (λ (d : Connection). (d.number == x.number) ≡ false) (Accepts n) xs (λ d apart e. absurd (true≢false (sym e ∙ (sym (ap (λ (k : ℕ). d.number == k) (eqb-true x.number n at)) ∙ apart)))) apart.0,
    )
    pick false at go = (λ e. absurd (true≢false (sym e ∙ at)), go (λ c e. is c (ap (λ b. cond b (Some x) (numbered n xs)) at ∙ e)))

-- a frame that answers goes out
pub now-answered : (s : State) (t : Transport) (turn : Turn) (conn : ℕ) (m : Message) (outputs : Outputs) → is_acks turn ≡ false → ((c : Connection) → connection_at s conn ≡ Some c → c.dialled ≡ None) → notes_of outputs ≡ notes_of t.outputs ++ Sends turn conn m ∷ []
    → IsTransport s t → IsTransport (record s { notes = s.notes ++ Sends turn conn m ∷ [] }) (record t { outputs = outputs })
now-answered s t turn conn m outputs isnt is e a =
    let accepts = accepts-all conn s.connections a.connections.numbered_once is in
    let here = recorded s.connections s.notes in record {
      leases = a.leases;
      connections = a.connections;
      noted = a.noted;
      asked = subst (λ (l : List Connection). AreAsked l s.requests t.peers) (sym (recorded-sent turn conn m s.notes s.connections))
          (lines-same (λ q. accepted-lines conn m here q (accepted-notes conn s.notes s.connections accepts)) (sent-numbered conn m here a.asked.numbered_once) (sent-dialled conn m here a.asked.dialled_once) a.asked);
      calls_made = a.calls_made;
      groups_made = a.groups_made;
      fresh = a.fresh;
      notes = e ∙ ap (λ (l : List Note). l ++ Sends turn conn m ∷ []) a.notes;
      lines = lines-answer (line_parts s) turn conn m a.lines accepts (fits turn isnt);
    }
  where
    fits : (u : Turn) → is_acks u ≡ false → IsOfTurn u m
    fits event.Hellos isnt = tt
    fits event.Replies isnt = tt
    fits event.Waited isnt = tt
    fits event.Cleans isnt = tt
    fits event.Dirties isnt = tt
    fits event.Calls isnt = tt
    fits event.Acks isnt = absurd (true≢false isnt)

-- ---- requests that wait

-- one more waits, of a peer that is known
pub now-waits : (s : State) (t : Transport) (peer : Uuid) (asked : Asked) (dialling : List Uuid) (peers : Peers) (connections : Connections) → hello_came (connection_to s peer) ≡ None → AreNextWaiting s (call_number asked)
    → ((q : Uuid) → list_any (bytes_eq q) s.dialling ≡ true → list_any (bytes_eq q) dialling ≡ true) → (is_some (connection_to s peer) || list_any (bytes_eq peer) dialling) ≡ true → AreConnections s.connections dialling connections
    → AreAsked (said s) (s.requests ++ record { peer = peer; asked = asked; stage = Waits } ∷ []) peers → IsTransport s t
    → IsTransport (record s { requests = s.requests ++ record { peer = peer; asked = asked; stage = Waits } ∷ []; dialling = dialling }) (record t { peers = peers; connections = connections })
now-waits s t peer asked dialling peers connections none next wider known links waits a = record {
  leases = a.leases;
  connections = links;
  noted = a.noted;
  asked = waits;
  calls_made = a.calls_made;
  groups_made = a.groups_made;
  fresh = a.fresh;
  notes = a.notes;
  lines = lines-wait (line_parts s) (record { peer = peer; asked = asked; stage = Waits }) dialling a.lines refl wider known none next;
}

-- what dialling makes of a state in which a request waits
pub dial-known : (peer : Uuid) (s : State) → (is_some (connection_to s peer) || is_dialling s peer) ≡ true → s ≡ dial peer s
unfolding dial
dial-known peer s known = sym (ap (λ b. cond b s (say (Dial peer) (record s { dialling = s.dialling ++ peer ∷ [] }))) known)

pub dial-new : (peer : Uuid) (s : State) → (is_some (connection_to s peer) || is_dialling s peer) ≡ false → say (Dial peer) (record s { dialling = s.dialling ++ peer ∷ [] }) ≡ dial peer s
unfolding dial
dial-new peer s new = sym (ap (λ b. cond b s (say (Dial peer) (record s { dialling = s.dialling ++ peer ∷ [] }))) new)

-- ---- requests that go out

-- The connection that was dialled to a peer, with what was sent on it; the peer's Hello came there.
pub record HasLine (s : State) (peer : Uuid) (conn : ℕ) : Type 0 where
  pub row : Connection
  pub there : dialled_to (said s) peer ≡ Some row
  pub number : row.number ≡ conn
  pub greeted : is_some row.peer ≡ true
  pub stands : is_open s conn ≡ true
  pub hello : is_some (hello_came (dialled_to s.connections peer)) ≡ true

pub line-of : (s : State) (t : Transport) (peer : Uuid) (conn : ℕ) → hello_came (connection_to s peer) ≡ Some conn → IsTransport s t → HasLine s peer conn
line-of s t peer conn hello a =
    let g = greeted-row conn (dialled_to (said s) peer) (sym (hello-noted s.notes s.connections peer) ∙ hello) in
    let h = greeted-row conn (dialled_to s.connections peer) hello in record {
      row = g.row;
      there = g.there;
      number = g.number;
      greeted = g.peer;
      stands = ap is_some (subst (λ (n : ℕ). numbered n s.connections ≡ Some h.row) h.number (line-number s.connections peer h.row a.connections.numbered_once h.there));
      hello = ap is_some hello;
    }

-- a call or lookup has gone out
pub now-called : (s : State) (t : Transport) (turn : Turn) (conn : ℕ) (peer : Uuid) (asked : Asked) (n : ℕ) (m : Message) (peers : Peers) (outputs : Outputs) → (l : HasLine s peer conn) → is_acks turn ≡ false → call_number asked ≡ n ∷ [] → call_number_in m ≡ n ∷ [] → sequence_in m ≡ []
    → AreNextOut s peer (call_number asked) → CallsMayGo turn s → AreAsked (sent_on l.row.number m (said s)) (s.requests ++ record { peer = peer; asked = asked; stage = Out l.row.number 0 } ∷ []) peers → notes_of outputs ≡ notes_of t.outputs ++ Sends turn conn m ∷ [] → IsTransport s t
    → IsTransport (send turn conn m (add_request (record { peer = peer; asked = asked; stage = Out conn 0 }) s)) (record t { peers = peers; outputs = outputs })
now-called s t turn conn peer asked n m peers outputs l isnt number its nil next may out e a =
    subst (λ (u : State). IsTransport u (record t { peers = peers; outputs = outputs })) (send-open turn conn m (add_request r s) l.stands) (record {
      leases = a.leases;
      connections = a.connections;
      noted = a.noted;
      asked = subst (λ (cs : List Connection). AreAsked cs (s.requests ++ r ∷ []) peers) (sym (recorded-sent turn conn m s.notes s.connections))
          (subst (λ (k : ℕ). AreAsked (sent_on k m (said s)) (s.requests ++ record { peer = peer; asked = asked; stage = Out k 0 } ∷ []) peers) l.number out);
      calls_made = a.calls_made;
      groups_made = a.groups_made;
      fresh = a.fresh;
      notes = e ∙ ap (λ (x : List Note). x ++ Sends turn conn m ∷ []) a.notes;
      lines = lines-out (line_parts s) (client.numbers_of s.leases) r turn conn m l.row a.lines a.asked.numbered_once refl l.hello l.there l.number (omega arith)
          (line-call {asked = asked_up_to s.calls_made s.fresh} {told = client.numbers_of s.leases} {c = l.row} m n its nil within l.greeted (a.lines.sent peer l.row l.there)) (fits turn isnt)
          (alike-call turn conn m s.notes s.connections may a.lines.noted a.lines.alike);
    })
  where
    r : Request
    r = record { peer = peer; asked = asked; stage = Out conn 0 }

    within : n ≤ asked_up_to s.calls_made s.fresh
    within = let x : RisesWithin (last_call l.row.sent) (asked_up_to s.calls_made s.fresh) (n ∷ []) = subst (RisesWithin (last_call l.row.sent) (asked_up_to s.calls_made s.fresh)) number (next l.row l.there) in x.1

    fits : (u : Turn) → is_acks u ≡ false → IsOfTurn u m
    fits event.Hellos isnt = tt
    fits event.Replies isnt = tt
    fits event.Waited isnt = tt
    fits event.Cleans isnt = tt
    fits event.Dirties isnt = tt
    fits event.Calls isnt = tt
    fits event.Acks isnt = absurd (true≢false isnt)

-- its number is above those of all that went before
pub called-above : (s : State) (peer : Uuid) (asked : Asked) (n : ℕ) (c : Connection) → call_number asked ≡ n ∷ [] → dialled_to (said s) peer ≡ Some c → AreNextOut s peer (call_number asked) → last_call c.sent < n
called-above s peer asked n c number there next =
    let x : RisesWithin (last_call c.sent) (asked_up_to s.calls_made s.fresh) (n ∷ []) = subst (RisesWithin (last_call c.sent) (asked_up_to s.calls_made s.fresh)) number (next c there) in
    let y : last_call c.sent + 1 ≤ n = x.0 in omega arith

frame-calls : (kind : Due) (n : ℕ) (ids : List ObjId) → call_number_in (group_frame kind n ids) ≡ []
frame-calls due.Dirty n ids = refl
frame-calls (due.Clean strong) n ids = refl

frame-sequence : (kind : Due) (n : ℕ) (ids : List ObjId) → sequence_in (group_frame kind n ids) ≡ n ∷ []
frame-sequence due.Dirty n ids = refl
frame-sequence (due.Clean strong) n ids = refl

-- dirty or clean calls have gone out
pub now-told : (s : State) (t : Transport) (turn : Turn) (conn call : ℕ) (part : Group) (sequence : ℕ) (leases : Clients) (peers : Peers) (outputs : Outputs) → (l : HasLine s part.peer conn) → is_acks turn ≡ false → sequence ≡ client.numbers_of s.leases + 1
    → GroupsMayGo turn s → client.IsAfter (client.sent part call s.leases) leases → AreAsked (sent_on l.row.number (group_frame part.kind sequence part.ids) (said s)) (s.requests ++ record { peer = part.peer; asked = Tells call part; stage = Out l.row.number sequence } ∷ []) peers
    → notes_of outputs ≡ notes_of t.outputs ++ Sends turn conn (group_frame part.kind sequence part.ids) ∷ [] → IsTransport s t → IsTransport (part_goes_out turn conn call s part) (record t { leases = leases; peers = peers; outputs = outputs })
unfolding part_goes_out
now-told s t turn conn call part sequence leases peers outputs l isnt number may after out e a =
    subst (λ (k : ℕ). IsTransport (send turn conn (group_frame part.kind k part.ids) (add_request (record { peer = part.peer; asked = Tells call part; stage = Out conn k }) told)) new) number
    (subst (λ (u : State). IsTransport u new) (send-open turn conn m (add_request r told) l.stands) (record {
      leases = after;
      connections = a.connections;
      noted = a.noted;
      asked = subst (λ (cs : List Connection). AreAsked cs (s.requests ++ r ∷ []) peers) (sym (recorded-sent turn conn m s.notes s.connections))
          (subst (λ (k : ℕ). AreAsked (sent_on k m (said s)) (s.requests ++ record { peer = part.peer; asked = Tells call part; stage = Out k sequence } ∷ []) peers) l.number out);
      calls_made = a.calls_made;
      groups_made = a.groups_made;
      fresh = a.fresh;
      notes = e ∙ ap (λ (x : List Note). x ++ Sends turn conn m ∷ []) a.notes;
      lines = lines-out (line_parts s) (client.numbers_of told.leases) r turn conn m l.row a.lines a.asked.numbered_once refl l.hello l.there l.number (omega (arith, given))
          (line-group {asked = asked_up_to s.calls_made s.fresh} {told = client.numbers_of told.leases} {c = l.row} m sequence (frame-calls part.kind sequence part.ids) (frame-sequence part.kind sequence part.ids) (omega (arith, number, given)) l.greeted
          (line-wider {asked = asked_up_to s.calls_made s.fresh} {told = client.numbers_of s.leases} {more = asked_up_to s.calls_made s.fresh} {later = client.numbers_of told.leases} {c = l.row} (omega arith) (omega (arith, given)) (a.lines.sent part.peer l.row l.there))) (fits turn isnt)
          (alike-group turn conn m s.notes s.connections (frame-calls part.kind sequence part.ids) may a.lines.noted a.lines.alike);
    }))
  where
    new : Transport
    new = record t { leases = leases; peers = peers; outputs = outputs }

    told : State
    told = record s { leases = client.sent part call s.leases }

    m : Message
    m = group_frame part.kind sequence part.ids

    r : Request
    r = record { peer = part.peer; asked = Tells call part; stage = Out conn sequence }

    given : client.numbers_of (client.sent part call s.leases) ≡ client.numbers_of s.leases + 1
    given = ap (λ n. n + 1) (sent-numbers part.kind part call s.leases)

    fits : (u : Turn) → is_acks u ≡ false → IsOfTurn u (group_frame part.kind sequence part.ids)
    fits event.Hellos isnt = tt
    fits event.Replies isnt = tt
    fits event.Waited isnt = tt
    fits event.Cleans isnt = tt
    fits event.Dirties isnt = tt
    fits event.Calls isnt = tt
    fits event.Acks isnt = absurd (true≢false isnt)
