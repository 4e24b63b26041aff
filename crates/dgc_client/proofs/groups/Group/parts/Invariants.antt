use Rattle.std.proofs.Common.{◌≡◌, ◌++◌, length}
use Rattle.std.specs.Prelude.{map}
use Rattle.dgc_client.specs.Groups.{pieces, part_of, parts_of}
use Rattle.dgc_client.proofs.groups.Group.parts.Given as goal

-- the parts so far, and those of the rest, are the group's
abbrev pub invariant-loop-rest : goal.invariant-loop-rest
invariant-loop-rest l = parts_of l.most l.self ≡ l.parts.items ++ map (part_of l.self) (pieces l.most l.rest)

abbrev pub decreases-loop-rest : goal.decreases-loop-rest
decreases-loop-rest l = length l.rest
