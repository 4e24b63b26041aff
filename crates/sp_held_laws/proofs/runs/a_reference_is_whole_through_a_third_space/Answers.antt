use Rattle.sp_held_laws.proofs.RunPlays
use Rattle.sp_held_laws.proofs.runs.a_reference_is_whole_through_a_third_space.Goals as goal

pub returns : goal.returns
returns c = RunPlays.a_reference_is_whole_through_a_third_space
