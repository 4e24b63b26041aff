use Rattle.sp_order_laws.proofs.EndLemmas
use Rattle.sp_order_laws.proofs.worlds.answers_came_from_callees.Goals as goal

pub returns : goal.returns
returns c = EndLemmas.answers_came_from_callees
