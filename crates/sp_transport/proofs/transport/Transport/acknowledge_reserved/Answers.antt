use Rattle.sp_rules.specs.State.{connection_at}
use Rattle.sp_transport.proofs.DialledLemmas.{has-peer, peer-line}
use Rattle.sp_transport.proofs.transport.Transport.acknowledge_reserved.Goals as goal

pub returns-in-None-clause-asker : goal.returns-in-None-clause-asker
returns-in-None-clause-asker c = λ s k peer a at its. absurd (has-peer (connection_at s c.args.conn) k peer at its (c.in-None.ensures s a))

pub returns-in-None-clause-acknowledged : goal.returns-in-None-clause-acknowledged
returns-in-None-clause-acknowledged c = λ s k peer a at its. absurd (has-peer (connection_at s c.args.conn) k peer at its (c.in-None.ensures s a))

pub returns-in-Some-clause-asker : goal.returns-in-Some-clause-asker
returns-in-Some-clause-asker c = λ s k peer a at its. c.acknowledge_of.ensures.asker s a (peer-line s c.args.self.now c.args.conn k c.in-Some.peer at (c.in-Some.ensures s a) a)

pub returns-in-Some-clause-acknowledged : goal.returns-in-Some-clause-acknowledged
returns-in-Some-clause-acknowledged c = λ s k peer a at its. c.acknowledge_of.ensures.acknowledged s a (peer-line s c.args.self.now c.args.conn k c.in-Some.peer at (c.in-Some.ensures s a) a)
