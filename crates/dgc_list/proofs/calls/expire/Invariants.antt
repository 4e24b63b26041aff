use Rattle.std.proofs.Common.{length}
use Rattle.dgc_list.specs.Objects.{Expires, IsCovered}
use Rattle.dgc_list.proofs.calls.expire.Given as goal

-- what the moment makes of what is remembered stays the same, and each entry that stands has its expiry in the row
abbrev pub invariant-loop-gone : goal.invariant-loop-gone
invariant-loop-gone l = Expires l.moment l.initial.objects l.objects × (IsCovered l.initial.objects l.initial.expiries → IsCovered l.objects l.expiries)

abbrev pub decreases-loop-gone : goal.decreases-loop-gone
decreases-loop-gone l = length l.expiries
