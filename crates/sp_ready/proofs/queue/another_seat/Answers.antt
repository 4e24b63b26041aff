use Rattle.sp_ready.proofs.Moves.{forks}
use Rattle.sp_ready.proofs.queue.another_seat.Goals as goal

pub another-requires-clause-rule : goal.another-requires-clause-rule
another-requires-clause-rule c = forks _ _ c.requires.parts
