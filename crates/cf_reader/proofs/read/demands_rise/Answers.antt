use Rattle.cf_reader.proofs.ClassOrder.{asked_rise}
use Rattle.cf_reader.proofs.read.demands_rise.Goals as goal

pub returns : goal.returns
returns c = asked_rise
