use Rattle.sp_laws.proofs.MomentLemmas
use Rattle.sp_laws.proofs.leases.leases_count_from_the_past.Goals as goal

pub returns : goal.returns
returns c = MomentLemmas.leases_count_from_the_past
