use Rattle.std.proofs.Common.{◌≡◌, ◌-◌, length, map, reverse, drop, Some}
use Rattle.vm_act.specs.Crossing.{values_of}
use Rattle.vm_code.specs.Parameters.{parameter_of}
use Rattle.vm_code.proofs.passing.arguments.Given as goal

abbrev pub invariant-loop-index : goal.invariant-loop-index
invariant-loop-index l =
    values_of (drop (length l.types - l.index) (reverse (map parameter_of l.types))) l.machine.references l.machine.heap.cells
    (drop (length l.types - l.index) l.machine.stack.frame.operands) ≡ Some (Some l.values.items)
