use Rattle.dgc_list.proofs.LawsLemmas.{stands-before, gone-after}
use Rattle.dgc_list.proofs.laws.an_entry_stands_for_its_period.Goals as goal

pub returns : goal.returns
returns c = record { stands = stands-before; gone = gone-after }
