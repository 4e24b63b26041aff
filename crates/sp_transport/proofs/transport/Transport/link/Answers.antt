use Rattle.sp_transport.proofs.transport.Transport.link.Goals as goal

pub returns : goal.returns
returns c = λ s a. c.link.ensures s.connections s.dialling a.connections
