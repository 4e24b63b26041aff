use Rattle.sp_laws.proofs.AskingLemmas
use Rattle.sp_laws.proofs.laws.tasks_ask_of_what_they_hold.Goals as goal

pub returns : goal.returns
returns c = AskingLemmas.tasks_ask_of_what_they_hold
