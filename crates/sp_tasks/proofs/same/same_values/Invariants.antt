use Rattle.std.proofs.Common.{◌≡◌, drop}
use Rattle.std.specs.Cmp.Lexicographic.{pointwise}
use Rattle.sp_rules.specs.References.{is_same_value}
use Rattle.sp_tasks.proofs.same.same_values.Given as goal

-- what is left to compare
abbrev pub invariant-loop-index : goal.invariant-loop-index
invariant-loop-index l = pointwise is_same_value (drop l.index l.values) (drop l.index l.others) ≡ pointwise is_same_value l.values l.others
