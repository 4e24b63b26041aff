use Rattle.sp_laws.proofs.DirectionLemmas
use Rattle.sp_laws.proofs.calls.frames_go_their_way.Goals as goal

pub returns : goal.returns
returns c = DirectionLemmas.frames_go_their_way
