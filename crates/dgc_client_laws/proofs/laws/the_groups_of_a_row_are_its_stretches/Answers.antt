use Rattle.dgc_client.proofs.GroupsLemmas.{are-grouping, only-grouping}
use Rattle.dgc_client_laws.proofs.laws.the_groups_of_a_row_are_its_stretches.Goals as goal

pub returns : goal.returns
returns c = record { are = are-grouping; only = only-grouping }
