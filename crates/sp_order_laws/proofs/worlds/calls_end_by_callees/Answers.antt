use Rattle.sp_order_laws.proofs.EndLemmas
use Rattle.sp_order_laws.proofs.worlds.calls_end_by_callees.Goals as goal

pub returns : goal.returns
returns c = EndLemmas.calls_end_by_callees
