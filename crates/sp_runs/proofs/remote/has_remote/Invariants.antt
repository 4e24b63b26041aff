use Rattle.std.proofs.Common.{◌<◌}
use Rattle.cls_set.specs.Subtypes.{IsRemote}
use Rattle.space_ids.specs.declared.ids.ClassId.{ClassId}
use Rattle.sp_runs.proofs.remote.has_remote.Given as goal

-- none so far is remote
abbrev pub invariant-loop-index : goal.invariant-loop-index
invariant-loop-index l = (class : ClassId) → class.0 < l.index → ¬ IsRemote l.set class
