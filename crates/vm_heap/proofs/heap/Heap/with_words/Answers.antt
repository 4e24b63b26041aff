use Rattle.std.proofs.Common.{arith, refl}
use Rattle.vm_heap.specs.Heap.{spelled}
use Rattle.vm_heap.proofs.heap.Heap.with_words.Goals as goal

pub invariant_of-result : goal.invariant_of-result
unfolding spelled
invariant_of-result c = rw (c.of.ensures, c.in_ok-with_room.ensures) record { row = refl; within = omega arith; small = omega arith }
