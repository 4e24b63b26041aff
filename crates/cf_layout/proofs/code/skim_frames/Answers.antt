use Rattle.std.proofs.Common.{rules}
use Rattle.std.proofs.lemmas.Result.{err_from_is_err_and}
use Rattle.cf_layout.specs.Codes.{skim_frame, skim_many}
use Rattle.cf_layout.proofs.Skims.{skim-goes_on, skim-ends, skim-fails, skim-done}
use Rattle.cf_layout.proofs.code.skim_frames.Goals as goal

pub returns-in_err-after : goal.returns-in_err-after
returns-in_err-after c =
    let p = err_from_is_err_and c.from_residual.result c.from_residual.ensures.1 in
    let skim = skim_frame c.args.bytes.now in
    rw (p.1, p.2) (skim-fails skim c.args.count c.loop.counter c.loop.position (skim_many skim c.args.count c.args.at) c.loop.invariant c.in_err-after.field-0.0 c.loop-test.true c.in_err-after.ensures)

pub returns-in-None : goal.returns-in-None
returns-in-None c =
    let skim = skim_frame c.args.bytes.now in
    skim-ends skim c.args.count c.loop.counter c.loop.position (skim_many skim c.args.count c.args.at) c.loop.invariant c.loop-test.true (search rules)

pub loop-preserved : goal.loop-preserved
loop-preserved c =
    let skim = skim_frame c.args.bytes.now in
    skim-goes_on skim c.args.count c.loop.counter c.loop.position (skim_many skim c.args.count c.args.at) c.loop.invariant c.in-Some.after c.loop-test.true (search rules)

pub returns : goal.returns
returns c =
    let skim = skim_frame c.args.bytes.now in
    skim-done skim c.args.count c.loop.counter c.loop.position (skim_many skim c.args.count c.args.at) c.loop.invariant c.loop-test.false
