use Rattle.sp_transport.proofs.OpeningLemmas.{now-greeted}
use Rattle.sp_transport.proofs.transport.Transport.greet.Goals as goal

pub returns-clause-greeted : goal.returns-clause-greeted
returns-clause-greeted c = λ s a none is. now-greeted s c.args.self.now c.args.conn c.args.space c.greet.new.self none is (c.greet.ensures.greeted s.connections s.dialling a.connections) a
