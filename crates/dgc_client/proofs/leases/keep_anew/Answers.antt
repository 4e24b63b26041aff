use Rattle.std.proofs.Common.{ap, arith}
use Rattle.dgc_client.specs.declared.lease.ClientLease.{ClientLease}
use Rattle.dgc_client.specs.declared.leases.Kept.{Kept}
use Rattle.dgc_client.proofs.KeptLemmas.{anew-next}
use Rattle.dgc_client.proofs.leases.keep_anew.Goals as goal

pub loop-index-preserved : goal.loop-index-preserved
loop-index-preserved c = (
  anew-next c.args.moment c.args.moments c.args.references.now.entries c.loop-index.references.entries c.loop-index.index c.index.result.now _
      (omega arith) c.loop-index.invariant.0 c.index.ensures (ap (λ (l : ClientLease). let k : Kept = record { lease = l; moments = 0 } in k) c.lease_now-lease.ensures),
  c.loop-index.invariant.1,
)
