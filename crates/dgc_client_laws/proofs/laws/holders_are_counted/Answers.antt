use Rattle.dgc_client.proofs.LeaseLemmas.{all-counted, all-held}
use Rattle.dgc_client_laws.proofs.laws.holders_are_counted.Goals as goal

pub returns : goal.returns
returns c = record { counted = all-counted; held = all-held }
