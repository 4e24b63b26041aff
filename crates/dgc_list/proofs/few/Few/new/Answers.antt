use Rattle.dgc_list.proofs.ClientsLemmas.{distinct-none}
use Rattle.dgc_list.proofs.few.Few.new.Goals as goal

pub invariant_of-result : goal.invariant_of-result
invariant_of-result c = rw c.new.ensures.items distinct-none
