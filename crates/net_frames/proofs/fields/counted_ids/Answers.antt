use Rattle.std.proofs.lemmas.Result.{err_from_is_err_and}
use Rattle.net_frames.specs.Reading.{items_at, id_at}
use Rattle.net_frames.proofs.Loop.{goes_on, ends, is_done}
use Rattle.net_frames.proofs.fields.counted_ids.Goals as goal

pub returns-in_err-id : goal.returns-in_err-id
returns-in_err-id c =
    let p = err_from_is_err_and c.from_residual.result c.from_residual.ensures.1 in
    rw (p.1, p.2) (ends id_at c.in_err-id.field-0.0 c.loop.ids.items c.args.count c.loop.counter c.loop.rest.now (items_at id_at c.args.count c.args.bytes.now) c.loop-test.true c.in_err-id.ensures c.loop.invariant)

pub loop-preserved : goal.loop-preserved
loop-preserved c =
    rw c.in_ok-push.ensures.items (goes_on id_at c.loop.ids.items c.args.count c.loop.counter c.loop.rest.now c.in_ok-id.id c.in_ok-id.after.now (items_at id_at c.args.count c.args.bytes.now) c.loop-test.true c.in_ok-id.ensures c.loop.invariant)

pub returns : goal.returns
returns c = is_done id_at c.loop.ids.items c.args.count c.loop.counter c.loop.rest.now (items_at id_at c.args.count c.args.bytes.now) c.loop-test.false c.loop.invariant
