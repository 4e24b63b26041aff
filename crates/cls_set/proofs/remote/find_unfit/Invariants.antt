use Rattle.cls_set.proofs.Unfit.{AreUnfitBelow}
use Rattle.cls_set.proofs.remote.find_unfit.Given as goal

abbrev pub invariant-loop-index : goal.invariant-loop-index
invariant-loop-index l = AreUnfitBelow l.kind l.entries l.index l.unfit.items
