use Rattle.std.proofs.Common.{arith}
use Rattle.vm_replies.proofs.Fitting.{none_gives}
use Rattle.vm_replies.proofs.replies.result_type.Goals as goal

pub returns-then-method-len : goal.returns-then-method-len
returns-then-method-len c = none_gives c.args.linked.now c.len.ensures.links c.args.method (omega (arith, c.len.ensures.count, c.if-method-len.true))
