use Rattle.std.proofs.Common.{◌≡◌}
use Rattle.task_rows.proofs.tasks.put_pieces.Given as goal

abbrev pub invariant-loop-piece : goal.invariant-loop-piece
invariant-loop-piece l = l.task.program ≡ l.program
