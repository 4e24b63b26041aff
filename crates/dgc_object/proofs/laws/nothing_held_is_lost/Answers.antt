use Rattle.dgc_object.proofs.OneClientLemmas.{held-leased, held-started, held-parked}
use Rattle.dgc_object.proofs.laws.nothing_held_is_lost.Goals as goal

pub returns : goal.returns
returns c = record { leased = held-leased; held = held-started; parked = held-parked }
