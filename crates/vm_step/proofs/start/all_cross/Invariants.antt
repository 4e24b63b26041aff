use Rattle.std.proofs.Common.{◌≡◌, take, true}
use Rattle.std.specs.List.{list_all}
use Rattle.vm_step.specs.Start.{crosses}
use Rattle.vm_step.proofs.start.all_cross.Given as goal

abbrev pub invariant-loop-index : goal.invariant-loop-index
invariant-loop-index l = list_all (crosses l.set) (take l.index l.kinds) ≡ true
