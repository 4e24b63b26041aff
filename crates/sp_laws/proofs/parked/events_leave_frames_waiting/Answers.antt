use Rattle.sp_laws.proofs.ParkedWaitLemmas.{event-leaves}
use Rattle.sp_laws.proofs.parked.events_leave_frames_waiting.Goals as goal

pub returns : goal.returns
returns c = event-leaves
