use Rattle.std.proofs.Common.{take}
use Rattle.std.specs.List.{AllByRecursion}
use Rattle.ver_check.specs.Landed.{LandsOnMarked}
use Rattle.ver_check.specs.Typing.{Lands}
use Rattle.ver_check.proofs.body.BodyView.land_on_many.Given as goal

abbrev pub invariant-loop-target : goal.invariant-loop-target
invariant-loop-target l = record {
  lands : AllByRecursion (Lands l.self l.frame) (take l.target-index l.targets);
  marked : LandsOnMarked l.self l.frame l.marks.items;
}
