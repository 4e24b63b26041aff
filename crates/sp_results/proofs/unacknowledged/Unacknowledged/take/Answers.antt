use Rattle.sp_results.proofs.NumberLemmas.{taken}
use Rattle.sp_results.proofs.unacknowledged.Unacknowledged.take.Goals as goal

pub returns-clause-taken : goal.returns-clause-taken
returns-clause-taken c = λ holds a. taken holds c.args.self.now _ c.args.conn (λ q. c.swap_remove.ensures.updates.0 q) a
