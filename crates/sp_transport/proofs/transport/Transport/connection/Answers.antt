use Rattle.sp_transport.proofs.transport.Transport.connection.Goals as goal

pub returns : goal.returns
returns c = λ s a. c.get.ensures s.connections s.dialling a.connections
