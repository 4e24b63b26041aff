use Rattle.std.proofs.Common.{◌≡◌, drop}
use Rattle.sp_call_set.proofs.Fits.{fit_types}
use Rattle.sp_call_set.proofs.kinds.are_taken.Given as goal

-- the rest fit if all do
abbrev pub invariant-loop-index : goal.invariant-loop-index
invariant-loop-index l = fit_types (drop l.index l.kinds) (drop l.index l.arguments) ≡ fit_types l.kinds l.arguments
