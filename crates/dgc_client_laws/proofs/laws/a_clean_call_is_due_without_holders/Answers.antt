use Rattle.dgc_client.specs.History.{lease_of}
use Rattle.dgc_client.specs.Table.{own, held}
use Rattle.dgc_client.proofs.LeaseLemmas.{clean-unheld}
use Rattle.dgc_client.proofs.TableLemmas.{cleans-unheld}
use Rattle.dgc_client_laws.proofs.laws.a_clean_call_is_due_without_holders.Goals as goal

pub returns : goal.returns
returns c = record { due = clean-unheld; named = λ h. cleans-unheld (λ r. lease_of (own r h)) (held h) }
