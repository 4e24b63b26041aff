-- What the operands of a machine are (JVMS 2.6.2), as the contracts of its smallest parts speak of them.
use Rattle.std.specs.Prelude.{List, [], ◌∷◌}
use Rattle.vm_heap.specs.Tagged.{Tagged, IsInt}
use Rattle.vm_stack.specs.Frames.{pushed}
use Rattle.vm_act.specs.declared.machine.Machine.{Machine}

-- on top there is an int
abbrev pub IsIntOnTop : List Tagged → Type 0
IsIntOnTop [] = ⊥
IsIntOnTop (value ∷ below) = IsInt value

-- the machine with one more operand on top
abbrev pub pushed_on : Tagged → Machine → Machine
pushed_on value m = record m { stack = pushed value m.stack }
