use Rattle.sp_laws.proofs.DirectionLemmas
use Rattle.sp_laws.proofs.calls.spaces_have_directions.Goals as goal

pub returns : goal.returns
returns c = DirectionLemmas.spaces_have_directions
