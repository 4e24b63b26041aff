use Rattle.dgc_index.proofs.DeadlinesLemmas.{added}
use Rattle.dgc_index.proofs.deadlines.Deadlines.add.Goals as goal

pub returns-in-Ok-clause-here : goal.returns-in-Ok-clause-here
returns-in-Ok-clause-here c = λ _. (added c.args.self.now.row c.insert.new.self c.args.deadline c.in-Ok.ensures.updates).0

pub returns-in-Ok-clause-kept : goal.returns-in-Ok-clause-kept
returns-in-Ok-clause-kept c = λ other was known. (added c.args.self.now.row c.insert.new.self c.args.deadline c.in-Ok.ensures.updates).1 other (was known)
