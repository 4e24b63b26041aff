use Rattle.std.proofs.Common.{◌≡◌, ◌++◌, List, ℕ, length}
use Rattle.std.specs.List.{slice_split}
use denote.Text.{Utf8}
use denote.Shadow.{shadow}
use Rattle.sp_arguments.specs.Arguments.{AreNumbers, is_comma}
use Rattle.sp_arguments.proofs.argument.ints_of.Given as goal

-- the words before the rest are those of the ints so far
abbrev pub invariant-loop-item : goal.invariant-loop-item
invariant-loop-item l = shadow (Utf8 l.rest)
    × ((done : List (List ℕ))
    × (slice_split is_comma l.items ≡ done ++ slice_split is_comma l.rest)
    × AreNumbers done l.ints.items)

abbrev pub decreases-loop-item : goal.decreases-loop-item
decreases-loop-item l = length l.rest
