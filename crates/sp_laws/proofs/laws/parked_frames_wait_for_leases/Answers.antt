use Rattle.sp_laws.proofs.AwaitedLemmas
use Rattle.sp_laws.proofs.laws.parked_frames_wait_for_leases.Goals as goal

pub returns : goal.returns
returns c = AwaitedLemmas.parked_frames_wait_for_leases
