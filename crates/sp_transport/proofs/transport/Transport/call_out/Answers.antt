use Rattle.sp_transport.specs.Transports.{IsTransport}
use Rattle.sp_transport.proofs.GoingLemmas.{asked-out}
use Rattle.sp_transport.proofs.transport.Transport.call_out.Goals as goal

pub returns : goal.returns
returns c = λ s asked stands hello asks is its named first may.
    let ready : IsTransport s c.reserve_notes.new.self = c.reserve_notes.ensures.same s (c.reserve_requests.ensures.same s stands) in
    asked-out s c.reserve_notes.new.self c.args.turn c.args.conn c.args.peer.now asked c.args.number c.args.asker c.args.message c.call_reserved.new.self c.send_reserved.new.self c.requires hello asks is its named first may
    c.call_reserved.ensures.sent c.send_reserved.ensures.notes ready
