use Rattle.dgc_client.proofs.KeptLemmas.{moment-at, early-pass}
use Rattle.dgc_client.proofs.leases.Leases.last_moment.Goals as goal

pub returns-clause-each : goal.returns-clause-each
returns-clause-each c = moment-at c.args.self.now.moment c.args.self.now.moments c.args.self.now.references.entries c.args.self.now.timely

pub returns-clause-early : goal.returns-clause-early
returns-clause-early c = λ moment early. early-pass c.args.self.now.moment c.args.self.now.moments moment early c.args.self.now.references.entries c.args.self.now.timely
