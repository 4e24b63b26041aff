use Rattle.dgc_client.proofs.LeaseLemmas.{new-holder, waits-failed, waits-held}
use Rattle.dgc_client_laws.proofs.laws.a_new_holder_waits_for_failed_dirty_calls_alone.Goals as goal

pub returns : goal.returns
returns c = record { clean = new-holder; dirty = waits-failed; dirty_held = waits-held }
