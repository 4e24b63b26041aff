use Rattle.sp_transport.proofs.SpokenLemmas.{now-spoken}
use Rattle.sp_transport.proofs.transport.Transport.speak.Goals as goal

pub returns-clause-spoken : goal.returns-clause-spoken
returns-clause-spoken c = λ s a. now-spoken s c.args.self.now c.args.version c.args.conn c.speak.new.self (c.speak.ensures.spoken s.connections s.dialling a.connections) a
