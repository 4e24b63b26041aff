use Rattle.std.proofs.Common.{◌≡◌, take}
use Rattle.sp_tasks.proofs.record.copy_given.Given as goal

abbrev pub invariant-loop-one : goal.invariant-loop-one
invariant-loop-one l = l.copies.items ≡ take l.one-index l.given
