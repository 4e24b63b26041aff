use Rattle.dgc_client.proofs.LeaseLemmas.{overtaken}
use Rattle.dgc_client_laws.proofs.laws.an_overtaken_answer_gives_no_lease.Goals as goal

pub returns : goal.returns
returns c = overtaken
