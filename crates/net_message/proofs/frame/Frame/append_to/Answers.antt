use Rattle.std.proofs.Common.{arith, length, ap}
use Rattle.std.proofs.lemmas.List.{length-append}
use Rattle.net_message.specs.Wire.{frame}
use Rattle.net_message.proofs.Lengths.{length-frame}
use Rattle.net_message.proofs.frame.Frame.append_to.Goals as goal

pub returns-clause-capacity : goal.returns-clause-capacity
returns-clause-capacity c =
    omega (arith, ap length c.put_frame.ensures.items, length-append c.args.out.now.items (frame c.message.result.now), length-frame c.message.result.now, c.put_frame.ensures.spare)
