use Rattle.vm_laws.proofs.Stops.{stops}
use Rattle.vm_laws.proofs.rows.values_that_do_not_fit_stop.Goals as goal

pub returns : goal.returns
returns c = stops
