use Rattle.std.proofs.Common.{◌∙◌, arith}
use Rattle.vm_step.proofs.Copying.{fill_end, fill_more, fill_no, fill_other}
use Rattle.vm_step.proofs.start.are_filled.Goals as goal

pub returns-then-len-arguments : goal.returns-then-len-arguments
returns-then-len-arguments c = fill_other c.args.set.now c.args.kinds.now c.args.arguments.now (λ same. c.if-len-arguments.true (c.len.ensures.count ∙ same))

pub returns-then-not-is_of_type : goal.returns-then-not-is_of_type
returns-then-not-is_of_type c =
    fill_no c.args.set.now c.args.kinds.now c.args.arguments.now c.loop-index.index c.index.result.now _ c.index-arguments-index.result _ (omega (arith, c.len.ensures.count, c.if-len-arguments.false, c.loop-index-test.true))
    c.loop-index-test.true c.index.ensures c.index-arguments-index.is c.if-not-is_of_type.ensures c.loop-index.invariant

pub loop-index-preserved : goal.loop-index-preserved
loop-index-preserved c =
    fill_more c.args.set.now c.args.kinds.now c.args.arguments.now c.loop-index.index c.index.result.now _ c.index-arguments-index.result _ (omega (arith, c.len.ensures.count, c.if-len-arguments.false, c.loop-index-test.true))
    c.loop-index-test.true c.index.ensures c.index-arguments-index.is c.if-not-is_of_type.ensures c.loop-index.invariant

pub returns : goal.returns
returns c =
    fill_end c.args.set.now c.args.kinds.now c.args.arguments.now c.loop-index.index (omega (arith, c.len.ensures.count, c.if-len-arguments.false, c.loop-index-test.false)) (omega (arith, c.loop-index-test.false))
    ∙ c.loop-index.invariant
