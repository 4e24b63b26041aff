use Rattle.sp_rules.specs.State.{connection_at}
use Rattle.sp_transport.proofs.DialledLemmas.{dialled-seen, dialled-unseen}
use Rattle.sp_transport.proofs.transport.Transport.dialled.Goals as goal

pub returns-in-None : goal.returns-in-None
returns-in-None c = λ s a. dialled-unseen (connection_at s c.args.conn) (c.in-None.ensures s.connections s.dialling a.connections)

pub returns-in-Some : goal.returns-in-Some
returns-in-Some c = λ s a. dialled-seen (connection_at s c.args.conn) c.in-Some.connection (c.in-Some.ensures s.connections s.dialling a.connections)
