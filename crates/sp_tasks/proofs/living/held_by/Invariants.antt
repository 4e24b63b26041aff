use Rattle.std.proofs.Common.{◌≡◌, [], take}
use Rattle.sp_rules.specs.References.{references_of, with_references}
use Rattle.sp_tasks.proofs.living.held_by.Given as goal

-- the references among the values so far
abbrev pub invariant-loop-value : goal.invariant-loop-value
invariant-loop-value l = l.held.items ≡ with_references [] (references_of (take l.value-index l.values))
