use Rattle.std.proofs.Common.{◌≡◌, ◌+◌, drop}
use Rattle.cf_text.specs.Types.{dimensions_of}
use Rattle.cf_text.proofs.descriptors.dimensions.Given as goal

-- the brackets so far and those that follow are all of them
abbrev pub invariant-loop-count : goal.invariant-loop-count
invariant-loop-count l = l.count + dimensions_of (drop l.count l.text) ≡ dimensions_of l.text
