use Rattle.sp_scripts.proofs.AnswerPlays
use Rattle.sp_scripts.proofs.laws.answers_of_one_space.Goals as goal

pub returns : goal.returns
returns c = record { right_hello = AnswerPlays.right_hello; wrong_digest = AnswerPlays.wrong_digest; wrong_id = AnswerPlays.wrong_id; no_hello = AnswerPlays.no_hello; refused_dial = AnswerPlays.refused_dial; dial_given_once = AnswerPlays.dial_given_once; closed_by_those_that_ask = AnswerPlays.closed_by_those_that_ask; closed_by_those_that_answer = AnswerPlays.closed_by_those_that_answer; unfit_replies = AnswerPlays.unfit_replies; order_of_frames = AnswerPlays.order_of_frames; failure_of_an_overtaken_dirty = AnswerPlays.failure_of_an_overtaken_dirty; refusals = AnswerPlays.refusals; refusals_of_lent_tasks = AnswerPlays.refusals_of_lent_tasks; held_by_a_task = AnswerPlays.held_by_a_task; held_by_a_field = AnswerPlays.held_by_a_field; held_after_the_end = AnswerPlays.held_after_the_end; too_many_references = AnswerPlays.too_many_references }
