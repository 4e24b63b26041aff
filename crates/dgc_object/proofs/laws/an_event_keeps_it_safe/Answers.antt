use Rattle.dgc_object.proofs.OneClientLemmas.{kept}
use Rattle.dgc_object.proofs.laws.an_event_keeps_it_safe.Goals as goal

pub returns : goal.returns
returns c = kept
