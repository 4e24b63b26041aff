-- What lives in a space, as one part of it changes.
use Rattle.std.proofs.Common.{◌≡◌, List, Option, None, Some, refl}
use Rattle.sp_rules.specs.Classes.{Setting}
use Rattle.sp_rules.specs.State.{State, KeptResult, ParkedFrame}
use Rattle.sp_parked.specs.declared.parked.Parked.{Parked}
use Rattle.sp_transport.specs.Transports.{IsTransport}
use Rattle.sp_transport.specs.declared.transport.Transport.{Transport}
use Rattle.sp_results.specs.declared.call_results.CallResults.{CallResults}
use Rattle.sp_living.specs.Frames.{with_parked}
use Rattle.sp_living.specs.Livings.{IsLiving}
use Rattle.sp_living.specs.Parts.{AreParkedIn, AreResults}
use Rattle.sp_living.specs.declared.living.Living.{Living}

pub none-left : {A : Type 0} (o : Option A) → ((x : A) → o ≡ Some x → ⊥) → o ≡ None
none-left None never = refl
none-left (Some x) never = absurd (never x refl)

-- parked frames and results are no part of the transport
pub transport-beside : (s : State) (results : List KeptResult) (parked : List ParkedFrame) (t : Transport) → IsTransport s t → IsTransport (record s { results = results; parked = parked }) t
transport-beside s results parked t a = record {
  leases = a.leases;
  connections = a.connections;
  noted = a.noted;
  asked = a.asked;
  calls_made = a.calls_made;
  groups_made = a.groups_made;
  fresh = a.fresh;
  notes = a.notes;
  lines = a.lines;
}

pub parked-changed : (g : Setting) (s : State) (l : Living) (ps : List ParkedFrame) (table : Parked) → IsLiving g s l → AreParkedIn ps table → IsLiving g (with_parked ps s) (record l { parked = table })
parked-changed g s l ps table a now = record {
  id = a.id;
  moment = a.moment;
  transport = transport-beside s s.results ps l.transport a.transport;
  tasks = a.tasks;
  results = a.results;
  parked = now;
}

pub results-changed : (g : Setting) (s : State) (l : Living) (rs : List KeptResult) (table : CallResults) → IsLiving g s l → AreResults s.moment rs l.results table → IsLiving g (record s { results = rs }) (record l { call_results = table })
results-changed g s l rs table a now = record {
  id = a.id;
  moment = a.moment;
  transport = transport-beside s rs s.parked l.transport a.transport;
  tasks = a.tasks;
  results = now;
  parked = a.parked;
}
