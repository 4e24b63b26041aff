use Rattle.dgc_list.proofs.ExpiriesLemmas.{added}
use Rattle.dgc_list.proofs.expiries.Expiries.add.Goals as goal

pub returns-clause-added : goal.returns-clause-added
returns-clause-added c = (added c.self.inside.row c.insert.new.self c.args.expiry c.in_ok-insert.ensures.updates).0

pub returns-clause-kept : goal.returns-clause-kept
returns-clause-kept c = λ other there. (added c.self.inside.row c.insert.new.self c.args.expiry c.in_ok-insert.ensures.updates).1 other (rw c.self.view_is there)
