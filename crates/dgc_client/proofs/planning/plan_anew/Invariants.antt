use Rattle.std.proofs.Common.{◌≡◌, ℕ, ◌<◌, Some}
use Rattle.std.specs.Prelude.{slice_get}
use Rattle.space_ids.specs.declared.ids.ForeignId.{ForeignId}
use Rattle.dgc_client.specs.declared.lease.ClientLease.{ClientLease}
use Rattle.dgc_index.specs.declared.plans.Term.{Term}
use Rattle.dgc_index.specs.Plans.{IsPlannedTerm}
use Rattle.dgc_client.specs.Table.{leases_of}
use Rattle.dgc_client.proofs.planning.plan_anew.Given as goal

-- the leases so far have their deadlines
abbrev pub invariant-loop-index : goal.invariant-loop-index
invariant-loop-index l =
    (at : ℕ) (r : ForeignId) (lease : ClientLease) (term : Term) → at < l.index → slice_get (leases_of l.leases) at ≡ Some (r, lease) → lease.lease ≡ Some term → IsPlannedTerm l.plans term at
