use Rattle.std.proofs.Common.{◌≡◌, None, Some, ap, subst, sym, ◌∙◌}
use Rattle.sp_rules.specs.Events.{Turn}
use Rattle.sp_rules.specs.Requests.{go_out, hello_came, turn_asked}
use Rattle.sp_rules.specs.State.{State, Request, Waits, connection_to}
use Rattle.sp_requests.specs.Asking.{asked_of}
use Rattle.sp_outputs.specs.Notes.{turn_of}
use Rattle.sp_transport.specs.Said.{MayGo}
use Rattle.sp_transport.specs.Transports.{IsTransport}
use Rattle.sp_transport.proofs.GoingLemmas.{on-ok}
use Rattle.sp_transport.proofs.SettleLemmas.{request-goes, request-waits}
use Rattle.sp_transport.proofs.transport.Transport.ask.Goals as goal

pub returns-in-Some : goal.returns-in-Some
returns-in-Some c = on-ok c.go_out.result _ _
    (λ goes s stands named next waits may.
    let r : Request = record { peer = c.args.peer.now; asked = asked_of c.args.asked; stage = Waits } in
    let came : hello_came (connection_to s c.args.peer.now) ≡ Some c.in-Some.conn = sym (c.in-Some.ensures s stands) in
    let turn : turn_of c.turn_of-turn.result ≡ turn_asked (asked_of c.args.asked) = c.turn_of-turn.ensures in
    subst (λ (t : State). IsTransport t c.go_out.new.self) (ap (λ (u : Turn). go_out u c.in-Some.conn r s) turn ∙ sym (request-goes s r c.in-Some.conn came))
    (goes s stands came named next (subst (λ (u : Turn). MayGo u (asked_of c.args.asked) s) (sym turn) may)))
    c.go_out.ensures

pub returns-in-None : goal.returns-in-None
returns-in-None c = on-ok c.wait.result _ _
    (λ asks s stands named next waits may.
    let r : Request = record { peer = c.args.peer.now; asked = asked_of c.args.asked; stage = Waits } in
    let none : hello_came (connection_to s c.args.peer.now) ≡ None = sym (c.in-None.ensures s stands) in
    subst (λ (t : State). IsTransport t c.wait.new.self) (sym (request-waits s r none)) (asks s stands none named waits))
    c.wait.ensures
