use Rattle.dgc_client.proofs.LeaseLemmas.{due-once}
use Rattle.dgc_client_laws.proofs.laws.a_clean_call_is_due_once.Goals as goal

pub returns : goal.returns
returns c = due-once
