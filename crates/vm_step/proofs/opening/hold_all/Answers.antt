use Rattle.std.proofs.Common.{refl}
use Rattle.vm_step.proofs.Holding.{holds_no, holds_more, holds_all}
use Rattle.vm_step.proofs.opening.hold_all.Goals as goal

pub loop-argument-init : goal.loop-argument-init
loop-argument-init c = record { rows = refl; table = refl }

pub returns-then-not-hold_one-clause-rows : goal.returns-then-not-hold_one-clause-rows
returns-then-not-hold_one-clause-rows c =
    holds_no c.args.arguments.now c.args.references.now c.loop-argument.argument-index c.loop-argument.references c.argument-item.result _ c.argument-item.is c.loop-argument-test.true
    c.if-not-hold_one.ensures.row c.loop-argument.invariant

pub loop-argument-preserved : goal.loop-argument-preserved
loop-argument-preserved c =
    holds_more c.args.arguments.now c.args.references.now c.loop-argument.argument-index c.loop-argument.references c.hold_one.new.references c.argument-item.result _ c.argument-item.is
    c.loop-argument-test.true c.if-not-hold_one.ensures.row c.if-not-hold_one.ensures.held c.loop-argument.invariant

pub returns-clause-rows : goal.returns-clause-rows
returns-clause-rows c = (holds_all c.args.arguments.now c.args.references.now c.loop-argument.argument-index c.loop-argument.references c.loop-argument-test.false c.loop-argument.invariant).0

pub returns-clause-held : goal.returns-clause-held
returns-clause-held c = (holds_all c.args.arguments.now c.args.references.now c.loop-argument.argument-index c.loop-argument.references c.loop-argument-test.false c.loop-argument.invariant).1
