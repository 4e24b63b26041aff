use Rattle.ver_check.specs.Flow.{Reaches}
use Rattle.ver_check.proofs.body.BodyView.check.Given as goal

abbrev pub invariant-loop-index : goal.invariant-loop-index
invariant-loop-index l = Reaches l.self l.index l.frame
