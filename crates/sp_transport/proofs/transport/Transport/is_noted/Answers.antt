use Rattle.std.proofs.Common.{◌∙◌}
use Rattle.sp_transport.proofs.transport.Transport.is_noted.Goals as goal

pub returns : goal.returns
returns c = λ s a. c.contains.ensures ∙ a.noted c.args.peer.now
