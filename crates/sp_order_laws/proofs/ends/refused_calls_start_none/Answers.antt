use Rattle.sp_order_laws.proofs.RefusedLemmas
use Rattle.sp_order_laws.proofs.ends.refused_calls_start_none.Goals as goal

pub returns : goal.returns
returns c = RefusedLemmas.refused_calls_start_none c.frames_go_their_way.ensures c.what_comes_was_sent.ensures c.numbers_rise.ensures
