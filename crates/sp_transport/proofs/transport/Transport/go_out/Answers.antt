use Rattle.sp_outputs.specs.Notes.{turn_of}
use Rattle.sp_transport.proofs.GoingLemmas.{call-goes, group-goes, lookup-goes, on-ok}
use Rattle.sp_transport.proofs.transport.Transport.go_out.Goals as goal

pub returns-in-Call : goal.returns-in-Call
returns-in-Call c = on-ok c.call_out.result _ _
    (λ sends s stands hello named next may.
    call-goes s c.call_out.new.self (turn_of c.args.turn) c.args.conn c.args.peer.now c.args.asked c.in-Call.number c.in-Call.task c.in-Call.lent c.in-Call.kind c.in-Call.message c.in-Call.is named next may
    (λ q asks is its same first notes. sends s q stands hello asks is its same first notes))
    c.call_out.ensures

pub returns-in-Lookup : goal.returns-in-Lookup
returns-in-Lookup c = on-ok c.call_out-in-Lookup.result _ _
    (λ sends s stands hello named next may.
    lookup-goes s c.call_out-in-Lookup.new.self (turn_of c.args.turn) c.args.conn c.args.peer.now c.args.asked c.in-Lookup.number c.in-Lookup.task c.in-Lookup.name c.in-Lookup.is next may
    (λ q asks is its same first notes. sends s q stands hello asks is its same first notes))
    c.call_out-in-Lookup.ensures

pub returns-in-Tell : goal.returns-in-Tell
returns-in-Tell c = on-ok c.tell.result _ _
    (λ tells s stands hello named next may.
    group-goes s c.tell.new.self (turn_of c.args.turn) c.args.conn c.args.peer.now c.args.asked c.in-Tell.call c.in-Tell.group c.in-Tell.is may (λ notes. tells s stands hello notes))
    c.tell.ensures
