use Rattle.sp_laws.proofs.OnTheWayEvents
use Rattle.sp_laws.proofs.leases.calls_on_their_way_are_requests.Goals as goal

pub returns : goal.returns
returns c = OnTheWayEvents.calls_on_their_way_are_requests
