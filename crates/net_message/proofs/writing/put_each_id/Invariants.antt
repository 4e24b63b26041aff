use Rattle.std.proofs.Common.{◌≡◌, ◌+◌, ◌*◌, ◌++◌, take}
use Rattle.std.specs.List.{flat_map}
use Rattle.net_message.specs.Wire.{id_bytes}
use Rattle.net_message.proofs.writing.put_each_id.Given as goal

abbrev pub invariant-loop-id : goal.invariant-loop-id
invariant-loop-id l =
    (l.out.items ≡ l.initial.out.items ++ flat_map id_bytes (take l.id-index l.ids))
    × (l.out.spare + 8 * l.id-index ≡ l.initial.out.spare)
