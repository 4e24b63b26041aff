use Rattle.std.proofs.Common.{take}
use Rattle.dgc_client.specs.Groups.{IsGrouping}
use Rattle.dgc_client.proofs.groups.grouped.Given as goal

-- the calls so far stand in groups
abbrev pub invariant-loop-call : goal.invariant-loop-call
invariant-loop-call l = IsGrouping (take l.call-index l.calls) l.groups.items
