use Rattle.std.proofs.Common.{◌≡◌, drop}
use Rattle.vm_step.specs.Start.{fill}
use Rattle.vm_step.proofs.start.are_filled.Given as goal

abbrev pub invariant-loop-index : goal.invariant-loop-index
invariant-loop-index l =
    fill l.set (drop l.index l.kinds) (drop l.index l.arguments) ≡ fill l.set l.kinds l.arguments
