use Rattle.sp_held_laws.proofs.RunPlays
use Rattle.sp_held_laws.proofs.runs.frames_are_lost_and_calls_wait.Goals as goal

pub returns : goal.returns
returns c = RunPlays.frames_are_lost_and_calls_wait
