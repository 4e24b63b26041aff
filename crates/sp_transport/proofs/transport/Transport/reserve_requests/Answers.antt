use Rattle.sp_transport.specs.Said.{said}
use Rattle.sp_transport.proofs.transport.Transport.reserve_requests.Goals as goal

pub returns-clause-same : goal.returns-clause-same
returns-clause-same c = λ s a. record {
  leases = a.leases;
  connections = a.connections;
  noted = a.noted;
  asked = c.reserve.ensures.same (said s) s.requests a.asked;
  calls_made = a.calls_made;
  groups_made = a.groups_made;
  fresh = a.fresh;
  notes = a.notes;
  lines = a.lines;
}
