use Rattle.sp_held_laws.proofs.ReachLaws
use Rattle.sp_held_laws.proofs.kept.events_reach_one_space.Goals as goal

pub returns : goal.returns
returns c = ReachLaws.events_reach_one_space
