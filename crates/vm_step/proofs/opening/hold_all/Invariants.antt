use Rattle.vm_step.proofs.Holding.{Holds}
use Rattle.vm_step.proofs.opening.hold_all.Given as goal

abbrev pub invariant-loop-argument : goal.invariant-loop-argument
invariant-loop-argument l = Holds l.arguments l.fn.references l.argument-index l.references
