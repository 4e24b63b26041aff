use Rattle.sp_world.proofs.Pieces.{pieces}
use Rattle.sp_world.proofs.laws.pieces_make_a_run.Goals as goal

pub returns : goal.returns
returns c = pieces
