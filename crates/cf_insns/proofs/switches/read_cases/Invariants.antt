use Rattle.std.proofs.Common.{◌≡◌, ◌+◌, ◌-◌, ◌*◌, ◌++◌, drop}
use Rattle.cf_insns.specs.Reading.{cases_of}
use Rattle.cf_insns.proofs.switches.read_cases.Given as goal

-- what is read so far and what is left are all
abbrev pub invariant-loop-index : goal.invariant-loop-index
invariant-loop-index l = l.cases.items ++ cases_of (l.count - l.index) (drop (l.from + 8 * l.index) l.operands) ≡ cases_of l.count (drop l.from l.operands)
