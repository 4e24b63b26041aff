use Rattle.std.proofs.Common.{◌<◌, ◌+◌, ap, arith}
use Rattle.vm_heap.specs.Heap.{all_cost, cost}
use Rattle.vm_step.specs.Start.{copy_of}
use Rattle.vm_step.proofs.opening.word.Goals as goal

pub local-requires : goal.local-requires
unfolding all_cost cost
local-requires c =
    let whole : c.args.address + all_cost (copy_of c.args.argument.now) + 65536 < 4294967296 = c.requires.address in
    let size = ap (λ v. all_cost (copy_of v)) c.in-Ints.is in
    omega (arith, whole, size)
