use Rattle.std.proofs.Common.{drop, arith, length-drop}
use Rattle.cf_insns.proofs.SwitchParts.{signed_int_of-cut}
use Rattle.cf_insns.proofs.operands.signed_int.Goals as goal

pub returns-then-saturating_sub-lt4-clause-value : goal.returns-then-saturating_sub-lt4-clause-value
returns-then-saturating_sub-lt4-clause-value c =
    let cut = signed_int_of-cut (drop c.args.at c.args.operands.now) (omega (arith, length-drop c.args.at c.args.operands.now)) in cc
