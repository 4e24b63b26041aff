use Rattle.std.proofs.Common.{◌≡◌, ◌∷◌, ◌++◌, [], List, true, false, is_some, refl, subst}
use Rattle.std.specs.Prelude.{◌||◌}
use Rattle.uuid.specs.declared.Uuid.{Uuid}
use Rattle.sp_rules.specs.Requests.{add_request}
use Rattle.sp_rules.specs.State.{State, Waits, connection_to, is_dialling}
use Rattle.sp_requests.specs.Tables.{AreConnections}
use Rattle.sp_requests.specs.Asking.{asked_of}
use Rattle.sp_outputs.specs.declared.output.Output.TheVariants as output
use Rattle.sp_transport.specs.Transports.{IsTransport}
use Rattle.sp_transport.proofs.DialLemmas.{known-dialled, known-of, new-dialled, new-known, wider-dialled}
use Rattle.sp_transport.proofs.StepLemmas.{dial-known, dial-new, now-said, now-waits}
use Rattle.sp_transport.proofs.transport.Transport.wait.Goals as goal

pub returns-then-not-dial_reserved : goal.returns-then-not-dial_reserved
returns-then-not-dial_reserved c = λ s stands none named next.
    let a : IsTransport s c.reserve_notes.new.self = c.reserve_notes.ensures.same s (c.reserve_connections.ensures.same s (c.reserve_requests.ensures.same s stands)) in
    let peer = c.args.peer.now in
    let known : (is_some (connection_to s peer) || is_dialling s peer) ≡ true = known-of (is_some (connection_to s peer) || is_dialling s peer) c.dial_reserved.result false (c.dial_reserved.ensures.news s.connections s.dialling a.connections) c.if-not-dial_reserved.true in
    subst (λ (u : State). IsTransport u (record c.reserve_notes.new.self { peers = c.wait_reserved.new.self; connections = c.dial_reserved.new.self })) (dial-known peer (add_request (record { peer = peer; asked = asked_of c.args.asked; stage = Waits }) s) known)
    (now-waits s c.reserve_notes.new.self peer (asked_of c.args.asked) s.dialling c.wait_reserved.new.self c.dial_reserved.new.self none next (λ q is. is) known
    (subst (λ (l : List Uuid). AreConnections s.connections l c.dial_reserved.new.self) (known-dialled peer s.connections s.dialling known) (c.dial_reserved.ensures.dialled s.connections s.dialling a.connections))
    (c.wait_reserved.ensures.waits _ s.requests a.asked named) a)

pub returns : goal.returns
returns c = λ s stands none named next.
    let a : IsTransport s c.reserve_notes.new.self = c.reserve_notes.ensures.same s (c.reserve_connections.ensures.same s (c.reserve_requests.ensures.same s stands)) in
    let peer = c.args.peer.now in
    let new : (is_some (connection_to s peer) || is_dialling s peer) ≡ false = known-of (is_some (connection_to s peer) || is_dialling s peer) c.dial_reserved.result true (c.dial_reserved.ensures.news s.connections s.dialling a.connections) c.if-not-dial_reserved.false in
    let waits = now-waits s c.reserve_notes.new.self peer (asked_of c.args.asked) (s.dialling ++ peer ∷ []) c.wait_reserved.new.self c.dial_reserved.new.self none next (λ q is. wider-dialled q s.dialling peer is) (new-known (is_some (connection_to s peer)) peer s.dialling)
    (subst (λ (l : List Uuid). AreConnections s.connections l c.dial_reserved.new.self) (new-dialled peer s.connections s.dialling new) (c.dial_reserved.ensures.dialled s.connections s.dialling a.connections))
    (c.wait_reserved.ensures.waits _ s.requests a.asked named) a in
    subst (λ (u : State). IsTransport u (record c.reserve_notes.new.self { peers = c.wait_reserved.new.self; connections = c.dial_reserved.new.self; outputs = c.say_reserved.new.self })) (dial-new peer (add_request (record { peer = peer; asked = asked_of c.args.asked; stage = Waits }) s) new)
    (now-said (record s { requests = s.requests ++ record { peer = peer; asked = asked_of c.args.asked; stage = Waits } ∷ []; dialling = s.dialling ++ peer ∷ [] }) (record c.reserve_notes.new.self { peers = c.wait_reserved.new.self; connections = c.dial_reserved.new.self }) (output.Dial peer) c.say_reserved.new.self refl c.say_reserved.ensures.notes waits)
