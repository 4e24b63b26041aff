use Rattle.std.proofs.Common.{take}
use Rattle.cls_set.specs.Descending.{IsDescending}
use Rattle.cls_set.proofs.descending.find_overriding.Given as goal

-- the walk so far
abbrev pub invariant-loop-step : goal.invariant-loop-step
invariant-loop-step l = IsDescending l.entries l.keys (take l.step l.order) l.walk
