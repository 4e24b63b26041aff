use Rattle.dgc_object.proofs.AllClientsLemmas.{whole-after}
use Rattle.dgc_object.proofs.laws.an_event_keeps_all_whole.Goals as goal

pub returns : goal.returns
returns c = whole-after
