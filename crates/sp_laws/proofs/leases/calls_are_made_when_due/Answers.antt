use Rattle.sp_laws.proofs.OnTheWayEvents
use Rattle.sp_laws.proofs.leases.calls_are_made_when_due.Goals as goal

pub returns : goal.returns
returns c = OnTheWayEvents.calls_are_made_when_due
