use Rattle.std.proofs.Common.{Option, subst}
use Rattle.sp_requests.specs.declared.requests.Requests.{Requests}
use Rattle.sp_requests.specs.AllAsked.{IsRoom}
use Rattle.sp_transport.specs.Said.{said}
use Rattle.sp_transport.proofs.SaidLemmas.{none-noted}
use Rattle.sp_transport.proofs.transport.Transport.release.Goals as goal

pub returns-clause-released : goal.returns-clause-released
returns-clause-released c = λ s a line none. record {
  leases = a.leases;
  connections = a.connections;
  noted = a.noted;
  asked = c.release.ensures.released (said s) s.requests a.asked (none-noted s.notes s.connections c.args.peer.now line) none;
  calls_made = a.calls_made;
  groups_made = a.groups_made;
  fresh = a.fresh;
  notes = a.notes;
  lines = a.lines;
}

pub returns-clause-gone : goal.returns-clause-gone
returns-clause-gone c = λ w k g room. subst (λ (o : Option Requests). IsRoom o w k g) c.release.ensures.gone room
