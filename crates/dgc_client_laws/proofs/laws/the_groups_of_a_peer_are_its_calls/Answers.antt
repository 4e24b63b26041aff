use Rattle.dgc_client.proofs.OrderLemmas.{groups-keep}
use Rattle.dgc_client_laws.proofs.laws.the_groups_of_a_peer_are_its_calls.Goals as goal

pub returns : goal.returns
returns c = groups-keep
