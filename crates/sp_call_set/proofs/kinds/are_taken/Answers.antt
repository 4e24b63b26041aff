use Rattle.std.proofs.Common.{◌∙◌, arith}
use Rattle.sp_call_set.proofs.Fits.{fit_end, fit_more, fit_no, fit_other}
use Rattle.sp_call_set.proofs.kinds.are_taken.Goals as goal

pub returns-then-len-arguments : goal.returns-then-len-arguments
returns-then-len-arguments c = fit_other c.args.kinds.now c.args.arguments.now (λ same. c.if-len-arguments.true (c.len.ensures.count ∙ same))

pub returns-then-not-fits_type : goal.returns-then-not-fits_type
returns-then-not-fits_type c =
    fit_no c.args.kinds.now c.args.arguments.now c.loop-index.index c.index.result.now _ c.index-arguments-index.result _ (omega (arith, c.len.ensures.count, c.if-len-arguments.false, c.loop-index-test.true))
    c.loop-index-test.true c.index.ensures c.index-arguments-index.is c.if-not-fits_type.ensures c.loop-index.invariant

pub loop-index-preserved : goal.loop-index-preserved
loop-index-preserved c =
    fit_more c.args.kinds.now c.args.arguments.now c.loop-index.index c.index.result.now _ c.index-arguments-index.result _ (omega (arith, c.len.ensures.count, c.if-len-arguments.false, c.loop-index-test.true))
    c.loop-index-test.true c.index.ensures c.index-arguments-index.is c.if-not-fits_type.ensures c.loop-index.invariant

pub returns : goal.returns
returns c =
    fit_end c.args.kinds.now c.args.arguments.now c.loop-index.index (omega (arith, c.len.ensures.count, c.if-len-arguments.false, c.loop-index-test.false)) (omega (arith, c.loop-index-test.false))
    ∙ c.loop-index.invariant
