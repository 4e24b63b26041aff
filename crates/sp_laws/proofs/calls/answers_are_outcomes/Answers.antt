use Rattle.sp_laws.proofs.AnswerLemmas
use Rattle.sp_laws.proofs.calls.answers_are_outcomes.Goals as goal

pub returns : goal.returns
returns c = AnswerLemmas.answers_are_outcomes
