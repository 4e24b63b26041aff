use Rattle.sp_transport.proofs.transport.Transport.lease.Goals as goal

pub returns : goal.returns
returns c = λ s a. c.lease.ensures s.leases a.leases
