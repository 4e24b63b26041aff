use Rattle.std.proofs.Common.{◌≡◌, None, Some, rules, sym, ap, ◌∙◌}
use Rattle.std.specs.Prelude.{is_some}
use Rattle.indexmap.specs.IndexMap.{set_value_at}
use Rattle.indexmap.proofs.CallerLemmas.{updates-with_value_at}
use Rattle.dgc_client.specs.declared.lease.ClientLease.{ClientLease}
use Rattle.dgc_client.specs.declared.leases.Kept.{Kept}
use Rattle.dgc_client.specs.Kept.{leases_now}
use Rattle.dgc_client.proofs.KeptLemmas.{index-is, same-laws, entry-at, known-at, now-same, timely-put, timely-set, set-now, lookup-written}
use Rattle.dgc_client.proofs.leases.Leases.put.Goals as goal

pub returns-in_err-index-clause-known : goal.returns-in_err-index-clause-known
returns-in_err-index-clause-known c =
    let none : c.from_residual.result ≡ None = search rules in
    ap is_some none ∙ known-at c.args.self.now.moment c.args.self.now.moments c.args.reference.now c.args.self.now.references.entries None c.in_err-index.ensures.index

pub invariant_of-self : goal.invariant_of-self
invariant_of-self c = record {
  timely = timely-set c.args.self.now.moment c.args.self.now.moments c.args.self.now.references.entries c.in_ok-index.index _
      (timely-put c.args.self.now.moment c.args.self.now.moments c.args.lease c.requires) c.args.self.now.timely;
}

pub returns-clause-leases : goal.returns-clause-leases
returns-clause-leases c =
    set-now c.args.self.now.moment c.args.self.now.moments c.args.self.now.references.entries c.in_ok-index.index _
    ∙ ap (λ (l : ClientLease). set_value_at (leases_now c.args.self.now.moment c.args.self.now.moments c.args.self.now.references.entries) c.in_ok-index.index l)
    (now-same c.args.self.now.moment c.args.self.now.moments c.args.lease)

pub returns-clause-each : goal.returns-clause-each
returns-clause-each c = λ q.
    let references = c.args.self.now.references in
    let kept : Kept = record { lease = c.args.lease; moments = c.args.self.now.moments } in
    lookup-written c.args.self.now.moment c.args.self.now.moments references.entries (set_value_at references.entries c.in_ok-index.index kept) c.args.reference.now q c.args.lease
    ((updates-with_value_at references c.in_ok-index.index kept same-laws c.in_ok-index.ensures.unique c.args.reference.now c.index_mut.result.now
    (entry-at c.args.reference.now references.entries c.in_ok-index.index c.index_mut.result.now (sym c.in_ok-index.ensures.index) c.index_mut.ensures.value)).0 q)

pub returns-clause-known : goal.returns-clause-known
returns-clause-known c = known-at c.args.self.now.moment c.args.self.now.moments c.args.reference.now c.args.self.now.references.entries (Some c.in_ok-index.index) c.in_ok-index.ensures.index

pub returns-clause-index : goal.returns-clause-index
returns-clause-index c = index-is c.args.self.now.moment c.args.self.now.moments c.args.reference.now c.args.self.now.references.entries c.in_ok-index.index c.in_ok-index.ensures.index
