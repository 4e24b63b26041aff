-- Calls and lookups, and dirty and clean calls, as they go out.
use Rattle.std.proofs.Common.{◌≡◌, ℕ, ◌+◌, ◌<◌, ◌∷◌, ◌++◌, [], List, Some, false, refl, sym, ap, subst, arith}
use Rattle.std.specs.Prelude.{Err, Ok, OnOk, Result}
use Rattle.dgc_client.specs.declared.groups.Group.{Group}
use Rattle.dgc_client.specs.declared.table.Clients.{Clients}
use Rattle.dgc_client.specs.Groups as groups
use Rattle.dgc_client.specs.Table as client
use Rattle.net_message.specs.declared.message.Message.{Message}
use Rattle.net_message.specs.declared.message.Message.TheVariants as message
use Rattle.uuid.specs.declared.Uuid.{Uuid}
use Rattle.sp_rules.specs.Endings.{call_number_in}
use Rattle.sp_rules.specs.Events as event
use Rattle.sp_rules.specs.Events.{Sends}
use Rattle.sp_rules.specs.Lines.{dialled_to}
use Rattle.sp_rules.specs.Lists.{each}
use Rattle.sp_rules.specs.Requests.{add_request, go_out, group_frame, hello_came, most_on, part_goes_out}
use Rattle.sp_rules.specs.State.{State, Connection, Request, Asked, Calls, LooksUp, Tells, Out, Waits, connection_to, send}
use Rattle.sp_requests.specs.Asking.{IsNamed, asked_of, asks_by, kind_of, last_call, last_sequence, result_kind, sequence_in}
use Rattle.sp_requests.specs.declared.asked.Asked as kept
use Rattle.sp_requests.specs.declared.asked.Asked.TheVariants as kept_asked
use Rattle.sp_requests.specs.declared.asked.Asker.{Asker}
use Rattle.sp_requests.specs.declared.asked.Asker.TheVariants as asker
use Rattle.sp_requests.specs.declared.asked.ResultKind.{ResultKind}
use Rattle.sp_requests.specs.declared.asked.ResultKind.TheVariants as result
use Rattle.sp_requests.specs.AllAsked.{AreAsked, sent_on}
use Rattle.sp_requests.specs.declared.peers.Peers.{Peers}
use Rattle.sp_outputs.specs.Notes.{notes_of, turn_of}
use Rattle.sp_outputs.specs.declared.output.Turn.{Turn}
use Rattle.sp_outputs.specs.declared.outputs.Outputs.{Outputs}
use Rattle.sp_transport.specs.Asking.{AreNextOut}
use Rattle.sp_transport.specs.Said.{CallsMayGo, GroupsMayGo, MayGo, is_acks, said}
use Rattle.sp_transport.specs.Transports.{IsTransport, call_number}
use Rattle.sp_transport.specs.declared.transport.Transport.{Transport}
use Rattle.sp_transport.proofs.StepLemmas.{called-above, line-of, now-called, now-told}

-- What the table of peers promises of a call or lookup that goes out.
abbrev pub GoesOut : Transport → Uuid → ℕ → Asker → Peers → Type 0
GoesOut t peer number who peers = (connections : List Connection) (requests : List Request) (c : Connection) (asked : Asked) (frame : Message) → AreAsked connections requests t.peers → dialled_to connections peer ≡ Some c → last_call c.sent < number → asks_by asked ≡ (number, who) ∷ [] → IsNamed asked → call_number_in frame ≡ number ∷ []
    → AreAsked (sent_on c.number frame connections) (requests ++ record { peer = peer; asked = asked; stage = Out c.number 0 } ∷ []) peers

-- what a call returns, in the terms of the rules and back
pub same-kind : (kind : ResultKind) → result_kind (kind_of kind) ≡ kind
same-kind result.Int = refl
same-kind result.IntArray = refl
same-kind result.Reference = refl
same-kind result.Nothing = refl

-- a frame with the number of a call is none of dirty or clean calls
no-sequence : (m : Message) (n : ℕ) → call_number_in m ≡ n ∷ [] → sequence_in m ≡ []
no-sequence (message.Hello version space digest) n e = refl
no-sequence (message.Call number object method fuel arguments) n e = refl
no-sequence (message.Returned number fuel value) n e = refl
no-sequence (message.Threw number class) n e = refl
no-sequence (message.Spent number) n e = refl
no-sequence (message.Ack number) n e = refl
no-sequence (message.Dirty sequence period objects) n e = absurd (empty n e)
  where
    empty : (k : ℕ) → [] ≡ k ∷ [] → ⊥
    empty k h = cc
no-sequence (message.Lease sequence period) n e = refl
no-sequence (message.Clean sequence strong objects) n e = absurd (empty n e)
  where
    empty : (k : ℕ) → [] ≡ k ∷ [] → ⊥
    empty k h = cc
no-sequence (message.Cleaned sequence) n e = refl
no-sequence (message.Lookup number name) n e = refl

-- the frame of a call or lookup goes out
pub asked-out : (s : State) (t : Transport) (turn : Turn) (conn : ℕ) (peer : Uuid) (asked : Asked) (number : ℕ) (who : Asker) (m : Message) (peers : Peers) (outputs : Outputs) → is_acks (turn_of turn) ≡ false → hello_came (connection_to s peer) ≡ Some conn
    → asks_by asked ≡ (number, who) ∷ [] → call_number asked ≡ number ∷ [] → call_number_in m ≡ number ∷ [] → IsNamed asked → AreNextOut s peer (number ∷ []) → CallsMayGo (turn_of turn) s → GoesOut t peer number who peers → notes_of outputs ≡ notes_of t.outputs ++ Sends (turn_of turn) conn m ∷ [] → IsTransport s t
    → IsTransport (send (turn_of turn) conn m (add_request (record { peer = peer; asked = asked; stage = Out conn 0 }) s)) (record t { peers = peers; outputs = outputs })
asked-out s t turn conn peer asked number who m peers outputs isnt hello asks is its named first may out e a =
    let l = line-of s t peer conn hello a in
    let next : AreNextOut s peer (call_number asked) = subst (AreNextOut s peer) (sym is) first in
    now-called s t (turn_of turn) conn peer asked number m peers outputs l isnt is its (no-sequence m number its) next may
    (out (said s) s.requests l.row asked m a.asked l.there (called-above s peer asked number l.row is l.there next) asks named its) e a

-- What the table of peers promises of dirty or clean calls that go out.
abbrev pub TellsOut : Transport → Uuid → ℕ → ℕ → Group → Peers → Type 0
TellsOut t peer sequence call group peers = (connections : List Connection) (requests : List Request) (c : Connection) → AreAsked connections requests t.peers → dialled_to connections peer ≡ Some c → last_sequence c.sent < sequence
    → AreAsked (sent_on c.number (group_frame group.kind sequence group.ids) connections) (requests ++ record { peer = peer; asked = Tells call group; stage = Out c.number sequence } ∷ []) peers

pub tell-out : (s : State) (t : Transport) (turn : Turn) (conn call : ℕ) (part : Group) (sequence : ℕ) (leases : Clients) (peers : Peers) (outputs : Outputs) → is_acks (turn_of turn) ≡ false → sequence ≡ client.numbers_of s.leases + 1 → hello_came (connection_to s part.peer) ≡ Some conn → GroupsMayGo (turn_of turn) s
    → client.IsAfter (client.sent part call s.leases) leases → TellsOut t part.peer sequence call part peers → notes_of outputs ≡ notes_of t.outputs ++ Sends (turn_of turn) conn (group_frame part.kind sequence part.ids) ∷ [] → IsTransport s t
    → IsTransport (part_goes_out (turn_of turn) conn call s part) (record t { leases = leases; peers = peers; outputs = outputs })
tell-out s t turn conn call part sequence leases peers outputs isnt number hello may after out e a =
    let l = line-of s t part.peer conn hello a in
    let told = (a.lines.sent part.peer l.row l.there).told_of in
    now-told s t (turn_of turn) conn call part sequence leases peers outputs l isnt number may after (out (said s) s.requests l.row a.asked l.there (omega (arith, told, number))) e a

-- ---- a request goes out, as it is kept

pub call-goes : (s : State) (t : Transport) (turn : event.Turn) (conn : ℕ) (peer : Uuid) (asked : kept.Asked) (number task lent : ℕ) (kind : ResultKind) (m : Message) → asked ≡ kept_asked.Call number task lent kind m → IsNamed (asked_of asked) → AreNextOut s peer (call_number (asked_of asked)) → MayGo turn (asked_of asked) s
    → ((q : Asked) → asks_by q ≡ (number, asker.Call task lent kind) ∷ [] → call_number q ≡ number ∷ [] → call_number_in m ≡ number ∷ [] → IsNamed q → AreNextOut s peer (number ∷ []) → CallsMayGo turn s → IsTransport (send turn conn m (add_request (record { peer = peer; asked = q; stage = Out conn 0 }) s)) t)
    → IsTransport (go_out turn conn (record { peer = peer; asked = asked_of asked; stage = Waits }) s) t
unfolding go_out
call-goes s t turn conn peer asked number task lent kind m is named next may out =
    let its : IsNamed (Calls number task lent (kind_of kind) m) = subst (λ (x : kept.Asked). IsNamed (asked_of x)) is named in
    let first : AreNextOut s peer (number ∷ []) = subst (λ (x : kept.Asked). AreNextOut s peer (call_number (asked_of x))) is next in
    let notes : CallsMayGo turn s = subst (λ (x : kept.Asked). MayGo turn (asked_of x) s) is may in
    subst (λ (x : kept.Asked). IsTransport (go_out turn conn (record { peer = peer; asked = asked_of x; stage = Waits }) s) t) (sym is)
    (out (Calls number task lent (kind_of kind) m) (ap (λ (k : ResultKind). (number, asker.Call task lent k) ∷ []) (same-kind kind)) refl its its first notes)

pub lookup-goes : (s : State) (t : Transport) (turn : event.Turn) (conn : ℕ) (peer : Uuid) (asked : kept.Asked) (number task : ℕ) (name : List ℕ) → asked ≡ kept_asked.Lookup number task name → AreNextOut s peer (call_number (asked_of asked)) → MayGo turn (asked_of asked) s
    → ((q : Asked) → asks_by q ≡ (number, asker.Lookup task) ∷ [] → call_number q ≡ number ∷ [] → call_number_in (message.Lookup number name) ≡ number ∷ [] → IsNamed q → AreNextOut s peer (number ∷ []) → CallsMayGo turn s
    → IsTransport (send turn conn (message.Lookup number name) (add_request (record { peer = peer; asked = q; stage = Out conn 0 }) s)) t)
    → IsTransport (go_out turn conn (record { peer = peer; asked = asked_of asked; stage = Waits }) s) t
unfolding go_out
lookup-goes s t turn conn peer asked number task name is next may out =
    let first : AreNextOut s peer (number ∷ []) = subst (λ (x : kept.Asked). AreNextOut s peer (call_number (asked_of x))) is next in
    let notes : CallsMayGo turn s = subst (λ (x : kept.Asked). MayGo turn (asked_of x) s) is may in
    subst (λ (x : kept.Asked). IsTransport (go_out turn conn (record { peer = peer; asked = asked_of x; stage = Waits }) s) t) (sym is)
    (out (LooksUp number task name) refl refl refl tt first notes)

pub group-goes : (s : State) (t : Transport) (turn : event.Turn) (conn : ℕ) (peer : Uuid) (asked : kept.Asked) (call : ℕ) (group : Group) → asked ≡ kept_asked.Tell call group → MayGo turn (asked_of asked) s → (GroupsMayGo turn s → IsTransport (each (part_goes_out turn conn call) (groups.parts_of (most_on s conn) group) s) t)
    → IsTransport (go_out turn conn (record { peer = peer; asked = asked_of asked; stage = Waits }) s) t
unfolding go_out
group-goes s t turn conn peer asked call group is may out =
    let notes : GroupsMayGo turn s = subst (λ (x : kept.Asked). MayGo turn (asked_of x) s) is may in
    subst (λ (x : kept.Asked). IsTransport (go_out turn conn (record { peer = peer; asked = asked_of x; stage = Waits }) s) t) (sym is) (out notes)

pub on-ok : {A E : Type 0} (r : Result A E) (P Q : Type 0) → (P → Q) → OnOk r P → OnOk r Q
on-ok (Ok x) P Q f p = f p
on-ok (Err e) P Q f p = p
