use Rattle.sp_transport.proofs.transport.Transport.reserve_connections.Goals as goal

pub returns-clause-same : goal.returns-clause-same
returns-clause-same c = λ s a. record {
  leases = a.leases;
  connections = c.reserve.ensures.same s.connections s.dialling a.connections;
  noted = a.noted;
  asked = a.asked;
  calls_made = a.calls_made;
  groups_made = a.groups_made;
  fresh = a.fresh;
  notes = a.notes;
  lines = a.lines;
}
