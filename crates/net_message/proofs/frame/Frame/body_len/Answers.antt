use Rattle.std.proofs.Common.{length, sym, ap, ◌∙◌}
use Rattle.net_message.specs.Wire.{body}
use Rattle.net_message.proofs.Lengths.{length-body}
use Rattle.net_message.proofs.frame.Frame.body_len.Goals as goal

pub returns : goal.returns
returns c =
    c.body_len.ensures ∙ sym (length-body c.self.inside.message c.self.invariant) ∙ ap (λ message. length (body message)) c.self.view_is
