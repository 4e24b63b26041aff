use Rattle.std.specs.Prelude.{◌↔◌, drop}
use Rattle.std.specs.List.{AllByRecursion}
use Rattle.net_message.specs.Wire.{IsId}
use Rattle.net_message.proofs.ranges.are_ids.Given as goal

-- all ids are in range exactly if those that are left are
abbrev pub invariant-loop-id : goal.invariant-loop-id
invariant-loop-id l = AllByRecursion IsId (drop l.id-index l.ids) ↔ AllByRecursion IsId l.ids
