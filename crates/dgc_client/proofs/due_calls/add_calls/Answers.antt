use Rattle.std.proofs.Common.{sym, ap, ◌∙◌, arith}
use Rattle.dgc_client.specs.Groups.{is_of}
use Rattle.dgc_client.proofs.RoomLemmas.{filter-room}
use Rattle.dgc_client.proofs.due_calls.add_calls.Goals as goal

pub push_reserved-requires : goal.push_reserved-requires
push_reserved-requires c =
    let f = is_of c.args.peer.now c.args.kind in
    let mine = ap f (sym c.call-item.is) ∙ sym c.is_of.ensures ∙ c.if-is_of.true in
    omega (arith, filter-room f c.args.calls.now c.loop-call.call-index c.call-item.result c.loop-call-test.true mine, c.requires, c.loop-call.invariant.1, c.loop-call.invariant.2)
