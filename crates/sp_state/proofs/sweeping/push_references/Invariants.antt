use Rattle.std.proofs.Common.{◌≡◌, ◌++◌, take}
use Rattle.sp_rules.specs.References.{references_of}
use Rattle.sp_state.proofs.sweeping.push_references.Given as goal

-- those of the values so far
abbrev pub invariant-loop-value : goal.invariant-loop-value
invariant-loop-value l = l.references.items ≡ l.initial.references.items ++ references_of (take l.value-index l.values)
