use Rattle.std.proofs.Common.{◌≡◌, take}
use Rattle.cls_set.proofs.members.class_ids.Given as goal

-- the numbers so far
abbrev pub invariant-loop-index : goal.invariant-loop-index
invariant-loop-index l = l.ids.items ≡ take l.index-index l.indices
