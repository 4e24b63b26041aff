use Rattle.std.proofs.Common.{◌≡◌, ◌++◌, false, map}
use Rattle.std.specs.Prelude.{ℕ}
use Rattle.std.specs.List.{list_any}
use Rattle.std.specs.Map.Iter.{deref_pair}
use Rattle.sp_rules.specs.References.{is_reference_in}
use Rattle.sp_tasks.specs.Rows.{TaskRow}
use Rattle.sp_tasks.proofs.holding.is_held.Given as goal

-- none of the tasks so far holds it; the other tasks are left
abbrev pub invariant-loop-task : goal.invariant-loop-task
invariant-loop-task l =
    (list_any (λ (row : ℕ × TaskRow). is_reference_in row.1.held l.reference) (map deref_pair l.yielded) ≡ false)
    × (map deref_pair l.yielded ++ l.task-iterator ≡ l.rows.entries)
