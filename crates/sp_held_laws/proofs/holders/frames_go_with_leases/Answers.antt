use Rattle.sp_held_laws.proofs.GoingLemmas
use Rattle.sp_held_laws.proofs.holders.frames_go_with_leases.Goals as goal

pub returns : goal.returns
returns c = GoingLemmas.frames_go_with_leases
