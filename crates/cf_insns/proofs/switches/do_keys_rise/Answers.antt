use Rattle.std.proofs.Common.{◌-◌, sym, ◌∙◌, arith}
use Rattle.cf_insns.proofs.SwitchLoops.{keys_rise-end}
use Rattle.cf_insns.proofs.switches.do_keys_rise.Goals as goal

pub returns : goal.returns
returns c =
    sym (keys_rise-end c.args.cases.now (c.loop-index.index - 1) (omega (arith, c.loop-index-test.false, c.loop-index.auto.index))) ∙ c.loop-index.invariant
