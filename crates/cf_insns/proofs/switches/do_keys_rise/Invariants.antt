use Rattle.std.proofs.Common.{◌≡◌, ◌-◌, drop}
use Rattle.cf_insns.specs.Reading.{keys_rise}
use Rattle.cf_insns.proofs.switches.do_keys_rise.Given as goal

-- the keys rise so far
abbrev pub invariant-loop-index : goal.invariant-loop-index
invariant-loop-index l = keys_rise (drop (l.index - 1) l.cases) ≡ keys_rise l.cases
