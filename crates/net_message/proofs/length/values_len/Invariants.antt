use Rattle.std.proofs.Common.{◌≡◌, ◌+◌, ◌*◌, ◌≤◌, drop}
use Rattle.std.specs.List.{AllByRecursion}
use Rattle.net_message.specs.Sizes.{values_size}
use Rattle.net_message.specs.Wire.{IsValue}
use Rattle.net_message.proofs.length.values_len.Given as goal

-- what was counted, with what is still to count, is all
abbrev pub invariant-loop-value : goal.invariant-loop-value
invariant-loop-value l =
    (l.len + values_size (drop l.value-index l.values) ≡ values_size l.values)
    × (l.len ≤ 32005 * l.value-index)
    × AllByRecursion IsValue (drop l.value-index l.values)
