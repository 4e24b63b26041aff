use Rattle.std.proofs.Common.{arith}
use Rattle.vm_step.proofs.Calls.{none_takes}
use Rattle.vm_step.proofs.task.parameters.Goals as goal

pub returns-then-method-len : goal.returns-then-method-len
returns-then-method-len c = none_takes c.args.linked.now c.len.ensures.links c.args.method (omega (arith, c.len.ensures.count, c.if-method-len.true))
