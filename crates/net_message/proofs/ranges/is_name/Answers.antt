use Rattle.std.proofs.Common.{sym, ◌∙◌}
use Rattle.net_message.proofs.Names.{name_true, true_name}
use Rattle.net_message.proofs.ranges.is_name.Goals as goal

pub returns-clause-range : goal.returns-clause-range
returns-clause-range c =
    (λ passes. name_true c.args.name.now (sym c.is_name.ensures ∙ passes), λ is. c.is_name.ensures ∙ true_name c.args.name.now is)
