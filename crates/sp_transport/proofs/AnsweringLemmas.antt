-- Answers as they come: which call is found, and what becomes of a transport as it goes.
use Rattle.std.proofs.Common.{◌≡◌, ℕ, Bool, true, false, cond, List, [], ◌∷◌, ◌++◌, Option, None, Some, is_some, filter, map, refl, sym, ap, subst, ◌∙◌, true≢false, arith}
use Rattle.std.specs.Prelude.{◌&&◌, ◌||◌, not, find, option_map, option_and_then}
use Rattle.std.specs.List.{list_any}
use Rattle.std.specs.Str.{bytes_eq}
use Rattle.net_message.specs.declared.message.Message.{Message}
use Rattle.net_message.specs.declared.message.Message.TheVariants as message
use Rattle.uuid.specs.declared.Uuid.{Uuid}
use Rattle.sp_rules.proofs.AllLemmas.{all-map, all-more, found-is}
use Rattle.sp_rules.specs.Endings.{call_number_in}
use Rattle.sp_rules.specs.Events.{Acks, Note, Sends}
use Rattle.sp_rules.specs.Frames.{answered_on}
use Rattle.sp_rules.specs.Laws.{RisesWithin}
use Rattle.sp_rules.specs.Lines.{WaitsForHello, dialled_to}
use Rattle.sp_rules.specs.Lists.{with_some}
use Rattle.sp_rules.specs.ParkedFrames.{has_number, is_asked_on, is_call_on, is_out_on, remove_requests}
use Rattle.sp_rules.specs.Requests.{hello_came, is_waiting}
use Rattle.sp_rules.specs.State as rules
use Rattle.sp_rules.specs.State.{State, Connection, Request, send}
use Rattle.sp_requests.specs.Tables.{AreNumbered}
use Rattle.sp_requests.specs.Asking.{asks_by, call_at, first_of, sequence_in, shown}
use Rattle.sp_requests.specs.declared.asked.OutCall.{OutCall}
use Rattle.sp_requests.proofs.AskedLemmas.{asked-is-out, call-is-out}
use Rattle.sp_requests.specs.AllAsked.{AreAsked, sent_on}
use Rattle.sp_requests.specs.declared.peers.Peers.{Peers}
use Rattle.sp_outputs.specs.Notes.{notes_of}
use Rattle.sp_outputs.specs.declared.outputs.Outputs.{Outputs}
use Rattle.sp_transport.specs.Answers.{IsDialled, acknowledge, asker_in, park_answer}
use Rattle.sp_transport.specs.Said.{IsNoted, recorded, said}
use Rattle.sp_transport.specs.Transports.{AreLines, IsTransport, LineParts, WentAfterHello, asked_up_to, call_number, line_parts, waiting_number, waiting_numbers}
use Rattle.sp_transport.specs.declared.transport.Transport.{Transport}
use Rattle.sp_transport.proofs.OrderLemmas.{alike-ack, recorded-sent}
use Rattle.sp_transport.proofs.LinesLemmas.{line-plain, lines-fewer, sent-lines}
use Rattle.sp_transport.proofs.StepLemmas.{send-open}

-- ---- who asks

shown-asker : (sent : List Message) (stage : rules.Stage) (question : rules.Asked) → is_waiting stage ≡ false → option_map (λ (o : OutCall). o.asker) (first_of (call_at sent stage question)) ≡ first_of (asks_by question)
shown-asker sent rules.Waits question e = absurd (true≢false e)
shown-asker sent (rules.Out c k) (rules.Calls number task lent kind m) e = refl
shown-asker sent (rules.Out c k) (rules.LooksUp number task name) e = refl
shown-asker sent (rules.Out c k) (rules.Tells call group) e = refl
shown-asker sent (rules.Answered c) (rules.Calls number task lent kind m) e = refl
shown-asker sent (rules.Answered c) (rules.LooksUp number task name) e = refl
shown-asker sent (rules.Answered c) (rules.Tells call group) e = refl

found-asker : (sent : List Message) (is : Request → Bool) (rs : List Request) → ((r : Request) → is r ≡ true → is_waiting r.stage ≡ false) → option_map (λ (o : OutCall). o.asker) (option_and_then (shown sent) (find is rs)) ≡ option_and_then asker_in (find is rs)
found-asker sent is rs out = pick (find is rs) refl
  where
    pick : (o : Option Request) → find is rs ≡ o → option_map (λ (x : OutCall). x.asker) (option_and_then (shown sent) o) ≡ option_and_then asker_in o
    pick None e = refl
    pick (Some r) e = shown-asker sent r.stage r.asked (out r (found-is is rs r e))

out-waits : (conn : ℕ) (stage : rules.Stage) → is_out_on conn stage ≡ true → is_waiting stage ≡ false
out-waits conn rules.Waits e = sym e
out-waits conn (rules.Out c k) e = refl
out-waits conn (rules.Answered c) e = refl

-- the call or lookup of a number that has no answer
pub asked-is : (sent : List Message) (n conn number : ℕ) (rs : List Request) (call : Option OutCall) → n ≡ conn → call ≡ option_and_then (shown sent) (find (is_asked_on n number) rs) → option_map (λ (o : OutCall). o.asker) call ≡ option_and_then asker_in (find (is_asked_on conn number) rs)
asked-is sent n conn number rs call same e =
    ap (option_map (λ (o : OutCall). o.asker)) e ∙ (found-asker sent (is_asked_on n number) rs (λ r is. out-waits n r.stage (asked-is-out n number r is)) ∙ ap (λ (k : ℕ). option_and_then asker_in (find (is_asked_on k number) rs)) same)

-- answered or not
pub call-is : (sent : List Message) (n conn number : ℕ) (rs : List Request) (call : Option OutCall) → n ≡ conn → call ≡ option_and_then (shown sent) (find (is_call_on n number) rs) → option_map (λ (o : OutCall). o.asker) call ≡ option_and_then asker_in (find (is_call_on conn number) rs)
call-is sent n conn number rs call same e =
    ap (option_map (λ (o : OutCall). o.asker)) e ∙ (found-asker sent (is_call_on n number) rs (λ r is. out-waits n r.stage (call-is-out n number r is)) ∙ ap (λ (k : ℕ). option_and_then asker_in (find (is_call_on k number) rs)) same)

-- what is found is there
pub some-found : {A B : Type 0} (f : A → Option B) (o : Option A) (x : B) → Some x ≡ option_and_then f o → is_some o ≡ true
some-found f None x e = absurd (nothing x e)
  where
    nothing : {C : Type 0} (y : C) → Some y ≡ None → ⊥
    nothing y h = cc
some-found f (Some y) x e = refl

-- what is not shown is not there
shows : (sent : List Message) (conn number : ℕ) (stage : rules.Stage) (question : rules.Asked) → is_out_on conn stage ≡ true → has_number number question ≡ true → None ≡ first_of (call_at sent stage question) → ⊥
shows sent conn number rules.Waits question out its e = true≢false (sym out)
shows sent conn number (rules.Out c k) (rules.Calls n task lent kind m) out its e = nothing e
  where
    nothing : {C : Type 0} {y : C} → None ≡ Some y → ⊥
    nothing h = cc
shows sent conn number (rules.Out c k) (rules.LooksUp n task name) out its e = nothing e
  where
    nothing : {C : Type 0} {y : C} → None ≡ Some y → ⊥
    nothing h = cc
shows sent conn number (rules.Out c k) (rules.Tells call group) out its e = true≢false (sym its)
shows sent conn number (rules.Answered c) (rules.Calls n task lent kind m) out its e = nothing e
  where
    nothing : {C : Type 0} {y : C} → None ≡ Some y → ⊥
    nothing h = cc
shows sent conn number (rules.Answered c) (rules.LooksUp n task name) out its e = nothing e
  where
    nothing : {C : Type 0} {y : C} → None ≡ Some y → ⊥
    nothing h = cc
shows sent conn number (rules.Answered c) (rules.Tells call group) out its e = true≢false (sym its)

pub none-there : (sent : List Message) (conn number : ℕ) (rs : List Request) → None ≡ option_and_then (shown sent) (find (is_call_on conn number) rs) → find (is_call_on conn number) rs ≡ None
none-there sent conn number rs e = pick (find (is_call_on conn number) rs) refl e
  where
    right : (a b : Bool) → (a && b) ≡ true → b ≡ true
    right true b f = f
    right false b f = absurd (true≢false (sym f))

    pick : (o : Option Request) → find (is_call_on conn number) rs ≡ o → None ≡ option_and_then (shown sent) o → o ≡ None
    pick None at f = refl
    pick (Some r) at f =
        let is = found-is (is_call_on conn number) rs r at in absurd (shows sent conn number r.stage r.asked (call-is-out conn number r is) (right (is_out_on conn r.stage) (has_number number r.asked) is) f)

-- ---- requests that go

pub now-fewer : (s : State) (t : Transport) (is : Request → Bool) (peers : Peers) → AreAsked (said s) (filter (λ (r : Request). not (is r)) s.requests) peers → IsTransport s t → IsTransport (remove_requests is s) (record t { peers = peers })
now-fewer s t is peers asked a = record {
  leases = a.leases;
  connections = a.connections;
  noted = a.noted;
  asked = asked;
  calls_made = a.calls_made;
  groups_made = a.groups_made;
  fresh = a.fresh;
  notes = a.notes;
  lines = lines-fewer (line_parts s) (λ (r : Request). not (is r)) a.lines;
}

-- ---- a result is parked

answered-stage : (conn number : ℕ) (r : Request) (b : Bool) → is_call_on conn number r ≡ b → is_waiting (answered_on conn number r).stage ≡ is_waiting r.stage
answered-stage conn number r true e = ap (λ c. is_waiting (cond c (record r { stage = rules.Answered conn }) r).stage) e ∙ sym (out-waits conn r.stage (call-is-out conn number r e))
answered-stage conn number r false e = ap (λ c. is_waiting (cond c (record r { stage = rules.Answered conn }) r).stage) e

answered-peer : (conn number : ℕ) (r : Request) (b : Bool) → is_call_on conn number r ≡ b → (answered_on conn number r).peer ≡ r.peer
answered-peer conn number r true e = ap (λ c. (cond c (record r { stage = rules.Answered conn }) r).peer) e
answered-peer conn number r false e = ap (λ c. (cond c (record r { stage = rules.Answered conn }) r).peer) e

answered-asked : (conn number : ℕ) (r : Request) (b : Bool) → is_call_on conn number r ≡ b → (answered_on conn number r).asked ≡ r.asked
answered-asked conn number r true e = ap (λ c. (cond c (record r { stage = rules.Answered conn }) r).asked) e
answered-asked conn number r false e = ap (λ c. (cond c (record r { stage = rules.Answered conn }) r).asked) e

answered-numbers : (conn number : ℕ) (rs : List Request) → waiting_numbers (map (answered_on conn number) rs) ≡ waiting_numbers rs
answered-numbers conn number [] = refl
answered-numbers conn number (r ∷ rs) =
    let rest = answered-numbers conn number rs in
    let head : waiting_number (answered_on conn number r) ≡ waiting_number r = ap (λ b. cond b (call_number (answered_on conn number r).asked) []) (answered-stage conn number r (is_call_on conn number r) refl)
    ∙ ap (λ (q : rules.Asked). cond (is_waiting r.stage) (call_number q) []) (answered-asked conn number r (is_call_on conn number r) refl) in
    ap (λ (l : List ℕ). l ++ waiting_numbers (map (answered_on conn number) rs)) head ∙ ap (λ (l : List ℕ). waiting_number r ++ l) rest

lines-answered : (p : LineParts) (conn number : ℕ) → AreLines p → AreLines (record p { requests = map (answered_on conn number) p.requests })
lines-answered p conn number a = record {
  sent = a.sent;
  waiting = all-map (WaitsForHello p.connections p.dialling) (WaitsForHello p.connections p.dialling) (answered_on conn number) p.requests (λ r w is.
      subst (λ (q : Uuid). ((is_some (dialled_to p.connections q) || list_any (bytes_eq q) p.dialling) ≡ true) × (hello_came (dialled_to p.connections q) ≡ None)) (sym (answered-peer conn number r (is_call_on conn number r) refl)) (w (sym (answered-stage conn number r (is_call_on conn number r) refl) ∙ is))) a.waiting;
  out = all-map (WentAfterHello p.connections) (WentAfterHello p.connections) (answered_on conn number) p.requests (λ r w is.
      subst (λ (q : Uuid). is_some (hello_came (dialled_to p.connections q)) ≡ true) (sym (answered-peer conn number r (is_call_on conn number r) refl)) (w (sym (answered-stage conn number r (is_call_on conn number r) refl) ∙ is))) a.out;
  rising = subst (RisesWithin 0 (asked_up_to p.made p.fresh)) (sym (answered-numbers conn number p.requests)) a.rising;
  fresh_is = a.fresh_is;
  noted = a.noted;
  alike = a.alike;
}

pub now-parked : (s : State) (t : Transport) (conn number : ℕ) (peers : Peers) → AreAsked (said s) (map (answered_on conn number) s.requests) peers → IsTransport s t → IsTransport (park_answer conn number s) (record t { peers = peers })
now-parked s t conn number peers asked a = record {
  leases = a.leases;
  connections = a.connections;
  noted = a.noted;
  asked = asked;
  calls_made = a.calls_made;
  groups_made = a.groups_made;
  fresh = a.fresh;
  notes = a.notes;
  lines = lines-answered (line_parts s) conn number a.lines;
}

-- ---- an Ack goes out

lines-acked : (p : LineParts) (peer : Uuid) (n : ℕ) (m : Message) (g : Connection) → AreLines p → AreNumbered (recorded p.connections p.notes) → dialled_to (recorded p.connections p.notes) peer ≡ Some g → g.number ≡ n → call_number_in m ≡ [] → sequence_in m ≡ []
    → AreLines (record p { notes = p.notes ++ Sends Acks n m ∷ [] })
lines-acked p peer n m g a numbered there number nil none = record {
  sent = sent-lines (asked_up_to p.made p.fresh) p.told p.told Acks n m p.notes p.connections peer g numbered there number (omega arith) (line-plain {asked = asked_up_to p.made p.fresh} {told = p.told} {c = g} m nil none (a.sent peer g there)) a.sent;
  waiting = a.waiting;
  out = a.out;
  rising = a.rising;
  fresh_is = a.fresh_is;
  noted = all-more IsNoted p.notes (Sends Acks n m) a.noted (nil, none);
  alike = alike-ack n m p.notes p.connections a.noted a.alike;
}

-- a connection that was dialled is open
pub now-acked : (s : State) (t : Transport) (conn number : ℕ) (peer : Uuid) (l : IsDialled s peer conn) (r : Request) (peers : Peers) (outputs : Outputs) → find (is_call_on conn number) s.requests ≡ Some r
    → AreAsked (sent_on l.row.number (message.Ack number) (said s)) (filter (λ (x : Request). not (is_call_on l.row.number number x)) s.requests) peers → notes_of outputs ≡ notes_of t.outputs ++ Sends Acks conn (message.Ack number) ∷ [] → IsTransport s t
    → IsTransport (acknowledge conn number s) (record t { peers = peers; outputs = outputs })
now-acked s t conn number peer l r peers outputs found asked e a =
    subst (λ (o : Option Request). IsTransport (with_some o s (λ x. send Acks conn (message.Ack number) gone)) new) (sym found)
    (subst (λ (u : State). IsTransport u new) (send-open Acks conn (message.Ack number) gone l.stands) (record {
      leases = a.leases;
      connections = a.connections;
      noted = a.noted;
      asked = subst (λ (cs : List Connection). AreAsked cs gone.requests peers) (sym (recorded-sent Acks conn (message.Ack number) s.notes s.connections))
          (subst (λ (k : ℕ). AreAsked (sent_on k (message.Ack number) (said s)) (filter (λ (x : Request). not (is_call_on k number x)) s.requests) peers) l.number asked);
      calls_made = a.calls_made;
      groups_made = a.groups_made;
      fresh = a.fresh;
      notes = e ∙ ap (λ (x : List Note). x ++ Sends Acks conn (message.Ack number) ∷ []) a.notes;
      lines = lines-acked (line_parts gone) peer conn (message.Ack number) l.row (lines-fewer (line_parts s) (λ (x : Request). not (is_call_on conn number x)) a.lines) a.asked.numbered_once l.there l.number refl refl;
    }))
  where
    gone : State
    gone = remove_requests (is_call_on conn number) s

    new : Transport
    new = record t { peers = peers; outputs = outputs }

-- none is out, so nothing happens
pub none-acked : (s : State) (t : Transport) (conn number : ℕ) → find (is_call_on conn number) s.requests ≡ None → IsTransport s t → IsTransport (acknowledge conn number s) t
none-acked s t conn number none a = subst (λ (o : Option Request). IsTransport (with_some o s (λ x. send Acks conn (message.Ack number) (remove_requests (is_call_on conn number) s))) t) (sym none) a
