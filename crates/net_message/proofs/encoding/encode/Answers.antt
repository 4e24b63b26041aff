use Rattle.std.proofs.Common.{◌++◌, ◌∙◌, ap, arith}
use Rattle.net_message.specs.Wire as wire
use Rattle.net_message.proofs.encoding.encode.Goals as goal

pub returns-clause-ok : goal.returns-clause-ok
returns-clause-ok c = record {
  in_range = c.append_to.ensures.in_range;
  short = omega arith;
  spelled = c.in_ok-from_slice.ensures.items ∙ c.as_slice.ensures ∙ c.append_to.ensures.items ∙ ap (λ old. old ++ wire.frame c.args.frame.now) c.in_ok-out.ensures.items;
}
