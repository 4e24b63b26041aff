use Rattle.std.specs.Prelude.{◌↔◌, drop}
use Rattle.std.specs.List.{AllByRecursion}
use Rattle.net_message.specs.Wire.{IsValue}
use Rattle.net_message.proofs.ranges.are_values.Given as goal

-- all values are in range exactly if those that are left are
abbrev pub invariant-loop-value : goal.invariant-loop-value
invariant-loop-value l = AllByRecursion IsValue (drop l.value-index l.values) ↔ AllByRecursion IsValue l.values
