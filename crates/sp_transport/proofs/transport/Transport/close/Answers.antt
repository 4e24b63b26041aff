use Rattle.sp_transport.proofs.EndingLemmas.{now-closed}
use Rattle.sp_transport.proofs.transport.Transport.close.Goals as goal

pub returns-clause-closed : goal.returns-clause-closed
returns-clause-closed c = λ s k a none at its. now-closed s c.args.self.now c.args.conn k c.close.new.self none at its (c.close.ensures.closed s.connections s.dialling a.connections) a
