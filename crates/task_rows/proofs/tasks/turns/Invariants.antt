use Rattle.std.proofs.Common.{◌≡◌}
use Rattle.task_rows.proofs.tasks.turns.Given as goal

abbrev pub invariant-loop-made : goal.invariant-loop-made
invariant-loop-made l = l.task.program ≡ l.program
