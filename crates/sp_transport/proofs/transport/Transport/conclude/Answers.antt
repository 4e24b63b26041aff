use Rattle.std.proofs.Common.{ap, ◌∙◌}
use Rattle.sp_rules.specs.Events.{in_order}
use Rattle.sp_transport.proofs.ConcludingLemmas.{now-concluded}
use Rattle.sp_transport.proofs.transport.Transport.conclude.Goals as goal

pub returns-clause-outputs : goal.returns-clause-outputs
returns-clause-outputs c = λ s a. c.take_in_order.ensures.ordered ∙ ap in_order a.notes

pub returns-clause-concluded : goal.returns-clause-concluded
returns-clause-concluded c = λ s a. now-concluded s c.args.self.now c.take_in_order.new.self c.take_in_order.ensures.notes a
