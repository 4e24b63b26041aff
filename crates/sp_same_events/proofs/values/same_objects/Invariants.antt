use Rattle.std.specs.Prelude.{◌≡◌, take}
use Rattle.sp_same_events.proofs.values.same_objects.Given as goal

-- those so far are the same
abbrev pub invariant-loop-index : goal.invariant-loop-index
invariant-loop-index l = take l.index l.objects ≡ take l.index l.others
