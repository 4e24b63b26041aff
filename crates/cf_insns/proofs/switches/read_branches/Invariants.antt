use Rattle.std.proofs.Common.{◌≡◌, ◌+◌, ◌-◌, ◌*◌, ◌++◌, drop}
use Rattle.cf_insns.specs.Reading.{ints_of}
use Rattle.cf_insns.proofs.switches.read_branches.Given as goal

-- what is read so far and what is left are all
abbrev pub invariant-loop-index : goal.invariant-loop-index
invariant-loop-index l = l.branches.items ++ ints_of (l.count - l.index) (drop (l.from + 4 * l.index) l.operands) ≡ ints_of l.count (drop l.from l.operands)
