use Rattle.std.proofs.Common.{◌≡◌, ◌+◌, ◌++◌, drop}
use Rattle.std.specs.List.{flat_map, AllByRecursion}
use Rattle.net_message.specs.Sizes.{values_size}
use Rattle.net_message.specs.Wire.{value_bytes, IsValue}
use Rattle.net_message.proofs.writing.put_each_value.Given as goal

-- what was put, with what is still put, is all
abbrev pub invariant-loop-value : goal.invariant-loop-value
invariant-loop-value l =
    (l.out.items ++ flat_map value_bytes (drop l.value-index l.values) ≡ l.initial.out.items ++ flat_map value_bytes l.values)
    × (l.out.spare + values_size l.values ≡ l.initial.out.spare + values_size (drop l.value-index l.values))
    × AllByRecursion IsValue (drop l.value-index l.values)
