use Rattle.sp_laws.proofs.OnTheWayEvents
use Rattle.sp_laws.proofs.leases.sequence_numbers_are_fresh.Goals as goal

pub returns : goal.returns
returns c = OnTheWayEvents.sequence_numbers_are_fresh
