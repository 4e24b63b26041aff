use Rattle.sp_order_laws.proofs.LastMoves
use Rattle.sp_order_laws.proofs.laws.last_calls_came.Goals as goal

pub returns : goal.returns
returns c = LastMoves.last_calls_came
