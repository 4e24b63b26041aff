use Rattle.std.proofs.Common.{◌+◌, arith, length, refl}
use Rattle.std.proofs.lemmas.Option.{slice_get_read}
use Rattle.sp_world.proofs.WiringLemmas.{all-err, put-end, put-one}
use Rattle.sp_world.proofs.wiring.Wiring.put_all.Goals as goal

pub outputs-preserved : goal.outputs-preserved
outputs-preserved c = λ w h.
    put-one w c.args.writer c.args.row.now c.outputs.next (c.outputs.next + 1) c.outputs.self c.put.new.self c.index-row-next.result
    (slice_get_read c.args.row.now (length c.args.row.now) c.outputs.next c.index-row-next.result refl c.outputs-test.true c.index-row-next.is) (omega arith) c.in_ok-put.ensures.put (c.outputs.invariant w h)

pub returns-clause-all : goal.returns-clause-all
returns-clause-all c = λ w h.
    put-end w c.args.writer c.args.row.now c.outputs.next c.outputs.self c.outputs-test.false (c.outputs.invariant w h)

pub returns-in_err-put-clause-rest : goal.returns-in_err-put-clause-rest
returns-in_err-put-clause-rest c = all-err c.from_residual.result (λ w h. let a = c.outputs.invariant w h in record { base = a.base; wired = c.in_err-put.ensures.same a.base a.wired; is = a.is })
