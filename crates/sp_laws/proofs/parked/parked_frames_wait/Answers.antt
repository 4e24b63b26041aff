use Rattle.sp_laws.proofs.ParkedWaitLemmas.{parked-wait}
use Rattle.sp_laws.proofs.parked.parked_frames_wait.Goals as goal

pub returns : goal.returns
returns c = parked-wait
