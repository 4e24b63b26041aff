use Rattle.std.proofs.Common.{refl}
use Rattle.vm_step.proofs.Passing.{copied_no, copied_more, copied_room, copied_cells, copied_free_all}
use Rattle.vm_step.proofs.opening.copy_in.Goals as goal

pub loop-argument-init : goal.loop-argument-init
loop-argument-init c = record { room = refl; cells = refl; free = refl }

pub returns-then-not-copy_one-clause-fits : goal.returns-then-not-copy_one-clause-fits
returns-then-not-copy_one-clause-fits c =
    copied_no c.args.arguments.now c.args.heap.now c.loop-argument.argument-index c.loop-argument.heap c.argument-item.result _ c.argument-item.is c.loop-argument-test.true
    c.if-not-copy_one.ensures.fits c.loop-argument.invariant

pub loop-argument-preserved : goal.loop-argument-preserved
loop-argument-preserved c =
    copied_more c.args.arguments.now c.args.heap.now c.loop-argument.argument-index c.loop-argument.heap c.copy_one.new.heap c.argument-item.result _ c.argument-item.is
    c.loop-argument-test.true c.if-not-copy_one.ensures.fits c.if-not-copy_one.ensures.cells c.if-not-copy_one.ensures.free c.loop-argument.invariant

pub returns-clause-fits : goal.returns-clause-fits
returns-clause-fits c = copied_room c.args.arguments.now c.args.heap.now c.loop-argument.argument-index c.loop-argument.heap c.loop-argument-test.false c.loop-argument.invariant

pub returns-clause-cells : goal.returns-clause-cells
returns-clause-cells c = copied_cells c.args.arguments.now c.args.heap.now c.loop-argument.argument-index c.loop-argument.heap c.loop-argument-test.false c.loop-argument.invariant

pub returns-clause-free : goal.returns-clause-free
returns-clause-free c = copied_free_all c.args.arguments.now c.args.heap.now c.loop-argument.argument-index c.loop-argument.heap c.loop-argument-test.false c.loop-argument.invariant
