use Rattle.dgc_list.proofs.HistoryLemmas.{all-leased}
use Rattle.dgc_list.proofs.laws.clients_that_are_listed_have_an_entry.Goals as goal

pub returns : goal.returns
returns c = all-leased
