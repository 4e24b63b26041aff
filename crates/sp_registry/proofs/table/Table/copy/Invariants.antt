use Rattle.std.proofs.Common.{◌≡◌, ◌++◌}
use Rattle.sp_registry.proofs.table.Table.copy.Given as goal

-- the bindings so far are copied; the others are left
abbrev pub invariant-loop-binding : goal.invariant-loop-binding
invariant-loop-binding l = l.copy ++ l.binding-iterator ≡ l.self
