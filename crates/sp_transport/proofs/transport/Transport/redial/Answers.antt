use Rattle.std.proofs.Common.{◌≡◌, ◌∷◌, ◌++◌, [], List, true, false, is_some, ap, subst, ◌∙◌}
use Rattle.std.specs.Prelude.{◌||◌}
use Rattle.uuid.specs.declared.Uuid.{Uuid}
use Rattle.sp_rules.specs.Endings.{without_connection}
use Rattle.sp_rules.specs.Events.{Close, Dial, Note, Says}
use Rattle.sp_rules.specs.State.{State, Connection, connection_to, is_dialling, say}
use Rattle.sp_requests.specs.Tables.{AreConnections}
use Rattle.sp_requests.proofs.LineLemmas.{number-line, without}
use Rattle.sp_transport.specs.Transports.{IsTransport}
use Rattle.sp_transport.proofs.DialLemmas.{known-of, new-dialled}
use Rattle.sp_transport.proofs.RedialLemmas.{not-known, now-redialled, waits-all}
use Rattle.sp_transport.proofs.OpeningLemmas.{asked-first}
use Rattle.sp_transport.proofs.StepLemmas.{dial-new}
use Rattle.sp_transport.proofs.transport.Transport.redial.Goals as goal

pub returns-then-not-dial_reserved : goal.returns-then-not-dial_reserved
returns-then-not-dial_reserved c = λ s k stands none at its quiet.
    let a : IsTransport s c.reserve_notes.new.self = c.reserve_notes.ensures.same s (c.reserve_connections.ensures.same s stands) in
    let peer = c.args.peer.now in
    let rows : List Connection = without c.args.conn s.connections in
    let links = c.close-gone.ensures.closed s.connections s.dialling a.connections in
    let known = known-of (is_some (connection_to (without_connection c.args.conn s) peer) || is_dialling s peer) c.dial_reserved.result false (c.dial_reserved.ensures.news rows s.dialling links) c.if-not-dial_reserved.true in
    absurd (not-known s c.reserve_notes.new.self c.args.conn peer k at its a known)

pub returns : goal.returns
returns c = λ s k stands none at its quiet.
    let a : IsTransport s c.reserve_notes.new.self = c.reserve_notes.ensures.same s (c.reserve_connections.ensures.same s stands) in
    let peer = c.args.peer.now in
    let rows : List Connection = without c.args.conn s.connections in
    let links = c.close-gone.ensures.closed s.connections s.dialling a.connections in
    let new : (is_some (connection_to (without_connection c.args.conn s) peer) || is_dialling s peer) ≡ false = known-of (is_some (connection_to (without_connection c.args.conn s) peer) || is_dialling s peer) c.dial_reserved.result true (c.dial_reserved.ensures.news rows s.dialling links) c.if-not-dial_reserved.false in
    subst (λ (u : State). IsTransport u (record c.reserve_notes.new.self { connections = c.dial_reserved.new.self; peers = c.restart.new.self; outputs = c.say_reserved-2.new.self })) (dial-new peer (say (Close c.args.conn) (without_connection c.args.conn s)) new)
    (now-redialled s c.reserve_notes.new.self c.args.conn peer k c.dial_reserved.new.self c.restart.new.self c.say_reserved-2.new.self none at its quiet
    (subst (λ (l : List Uuid). AreConnections rows l c.dial_reserved.new.self) (new-dialled peer rows s.dialling new) (c.dial_reserved.ensures.dialled rows s.dialling links))
    (c.restart.ensures.restarted s.connections s.requests k (asked-first s c.reserve_notes.new.self none a) (number-line s.connections c.args.conn k peer a.connections.dialled_once at its) (waits-all s c.reserve_notes.new.self c.args.conn peer k none at its quiet a))
    (c.say_reserved-2.ensures.notes ∙ ap (λ (l : List Note). l ++ Says (Dial peer) ∷ []) c.say_reserved.ensures.notes) a)
