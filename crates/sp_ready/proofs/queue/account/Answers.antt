use Rattle.sp_ready.proofs.Moves.{counts}
use Rattle.sp_ready.proofs.queue.account.Goals as goal

pub learn_as-requires-clause-rule : goal.learn_as-requires-clause-rule
learn_as-requires-clause-rule c = counts _ _ c.requires.pushes c.requires.whole
