use Rattle.sp_laws.proofs.AskingLemmas
use Rattle.sp_laws.proofs.laws.entries_have_numbers.Goals as goal

pub returns : goal.returns
returns c = AskingLemmas.entries_have_numbers
