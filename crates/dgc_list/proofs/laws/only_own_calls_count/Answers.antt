use Rattle.dgc_list.proofs.LawsLemmas.{own-remembered}
use Rattle.dgc_list.proofs.laws.only_own_calls_count.Goals as goal

pub returns : goal.returns
returns c = own-remembered
