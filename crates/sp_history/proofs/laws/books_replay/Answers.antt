use Rattle.sp_history.proofs.BookLemmas.{answers_are, run_is}
use Rattle.sp_history.proofs.laws.books_replay.Goals as goal

pub returns : goal.returns
returns c = record { state = run_is; outputs = answers_are }
