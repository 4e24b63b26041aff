use Rattle.sp_transport.proofs.OpeningLemmas.{now-counted}
use Rattle.sp_transport.proofs.transport.Transport.count.Goals as goal

pub returns-clause-counted : goal.returns-clause-counted
returns-clause-counted c = λ s a none. now-counted s c.args.self.now c.args.conn c.args.number c.count.new.self none (c.count.ensures.counted s.connections s.dialling a.connections) a
