use Rattle.sp_order_laws.proofs.CallAnswerLemmas
use Rattle.sp_order_laws.proofs.ends.calls_end_as_answered.Goals as goal

pub returns : goal.returns
returns c = CallAnswerLemmas.calls_end_as_answered c.frames_go_their_way.ensures c.waiting_tasks_have_one_call.ensures c.what_comes_was_sent.ensures c.calls_end_by_callees.ensures c.refused_calls_start_none.ensures
