use Rattle.dgc_list.proofs.ExpiriesLemmas.{gone, removed}
use Rattle.dgc_list.proofs.expiries.Expiries.remove.Goals as goal

pub returns-clause-others : goal.returns-clause-others
returns-clause-others c = λ other there. removed c.self.inside.row c.remove.new.self c.args.expiry c.remove.ensures.updates other (rw c.self.view_is there)

pub returns-clause-gone : goal.returns-clause-gone
returns-clause-gone c = gone c.self.inside.row c.remove.new.self c.args.expiry c.remove.ensures.updates
