use Rattle.dgc_index.proofs.DeadlinesLemmas.{removed}
use Rattle.dgc_index.proofs.deadlines.Deadlines.remove.Goals as goal

pub returns : goal.returns
returns c = λ other apart was known. removed c.args.self.now.row c.remove.new.self c.args.deadline c.remove.ensures.updates other apart (was known)
