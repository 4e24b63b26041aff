use Rattle.sp_held_laws.proofs.RunPlays
use Rattle.sp_held_laws.proofs.runs.objects_stay_whole.Goals as goal

pub returns : goal.returns
returns c = RunPlays.objects_stay_whole
