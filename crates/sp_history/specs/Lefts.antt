-- What is left of what was handed in. (This project's own.)
use Rattle.std.specs.Prelude.{Option, None, Some}
use Rattle.sp_history.specs.declared.twice.Left.{Left}
use Rattle.sp_history.specs.declared.twice.Left.TheVariants as left

-- the value, if it has no owner yet
abbrev pub whole_of : {T : Type 0} → Left T → Option T
whole_of (left.Whole value) = Some value
whole_of (left.Shared value) = None
