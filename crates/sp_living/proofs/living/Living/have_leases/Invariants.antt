use Rattle.std.proofs.Common.{◌≡◌, true, take}
use Rattle.std.specs.List.{list_all}
use Rattle.sp_rules.specs.ParkedFrames.{has_lease}
use Rattle.sp_rules.specs.State.{State}
use Rattle.sp_transport.specs.Transports.{IsTransport}
use Rattle.sp_living.proofs.living.Living.have_leases.Given as goal

-- each of the references so far has a lease
abbrev pub invariant-loop-reference : goal.invariant-loop-reference
invariant-loop-reference l = (s : State) → IsTransport s l.self.transport → list_all (has_lease s) (take l.reference-index l.references) ≡ true
