use Rattle.std.proofs.Common.{◌≡◌, drop, map}
use Rattle.std.specs.Cmp.Lexicographic.{pointwise}
use Rattle.sp_tasks.specs.Records.{given_of}
use Rattle.sp_tasks.specs.Same.{is_given}
use Rattle.sp_tasks.proofs.same.same_givens.Given as goal

-- what is left to compare
abbrev pub invariant-loop-index : goal.invariant-loop-index
invariant-loop-index l =
    pointwise is_given (map given_of (drop l.index l.givens)) (map given_of (drop l.index l.others)) ≡ pointwise is_given (map given_of l.givens) (map given_of l.others)
