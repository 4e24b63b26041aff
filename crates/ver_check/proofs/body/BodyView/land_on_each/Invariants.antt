use Rattle.std.proofs.Common.{take}
use Rattle.std.specs.List.{AllByRecursion}
use Rattle.ver_check.specs.Typing.{Lands}
use Rattle.ver_check.proofs.body.BodyView.land_on_each.Given as goal

abbrev pub invariant-loop-target : goal.invariant-loop-target
invariant-loop-target l = AllByRecursion (Lands l.self l.frame) (take l.target-index l.targets)
