use Rattle.vm_step.proofs.Copying.{copied_free, room_for, untouched}
use Rattle.vm_step.proofs.opening.copy_one.Goals as goal

pub returns-in-Ints-clause-fits : goal.returns-in-Ints-clause-fits
returns-in-Ints-clause-fits c = room_for c.copy_ints.result c.args.argument.now _ c.as_slice.result.now c.args.heap.now.free c.in-Ints.is c.as_slice.ensures c.copy_ints.ensures.fits

pub returns-in-Ints-clause-free : goal.returns-in-Ints-clause-free
returns-in-Ints-clause-free c =
    copied_free c.copy_ints.result c.args.argument.now _ c.as_slice.result.now c.args.heap.now c.copy_ints.new.heap c.in-Ints.is c.as_slice.ensures c.copy_ints.ensures.fits c.copy_ints.ensures.copied

pub returns-in_default : goal.returns-in_default
returns-in_default c =
    let so = untouched c.args.argument.now c.args.heap.now (λ elements is. c.in_default.not-Ints elements is) in
    record { fits = so.fits; cells = so.cells; free = so.free }
