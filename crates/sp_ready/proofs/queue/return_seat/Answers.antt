use Rattle.sp_ready.proofs.Moves.{merges}
use Rattle.sp_ready.proofs.queue.return_seat.Goals as goal

pub absorb-requires-clause-rule : goal.absorb-requires-clause-rule
absorb-requires-clause-rule c = merges _ _ _ _ c.requires.takes c.requires.part
