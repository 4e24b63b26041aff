use Rattle.std.proofs.Common.{◌-◌, length, map, reverse}
use Rattle.vm_act.proofs.Passing.{Leaves}
use Rattle.vm_code.specs.Parameters.{parameter_of}
use Rattle.vm_code.proofs.passing.crosses.Given as goal

abbrev pub invariant-loop-index : goal.invariant-loop-index
invariant-loop-index l =
    Leaves l.machine.references l.machine.heap.cells (length l.types - l.index) (reverse (map parameter_of l.types)) l.machine.stack.frame.operands l.left
