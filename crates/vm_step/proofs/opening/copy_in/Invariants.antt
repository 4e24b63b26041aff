use Rattle.vm_step.proofs.Passing.{Copied}
use Rattle.vm_step.proofs.opening.copy_in.Given as goal

abbrev pub invariant-loop-argument : goal.invariant-loop-argument
invariant-loop-argument l = Copied l.arguments l.fn.heap l.argument-index l.heap
