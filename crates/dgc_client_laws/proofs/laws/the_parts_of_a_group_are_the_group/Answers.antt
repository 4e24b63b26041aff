use Rattle.dgc_client.proofs.GroupsLemmas.{parts-joined, parts-few, parts-full}
use Rattle.dgc_client_laws.proofs.laws.the_parts_of_a_group_are_the_group.Goals as goal

pub returns : goal.returns
returns c = record { joined = parts-joined; few = parts-few; full = parts-full }
