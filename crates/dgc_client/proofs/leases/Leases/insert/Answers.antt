use Rattle.std.proofs.Common.{List, sym, ap, ◌∙◌}
use Rattle.std.specs.List.{position_or_len}
use Rattle.std.proofs.lemmas.Result.{err_from_is_err_and}
use Rattle.indexmap.specs.IndexMap.{insert_entry}
use Rattle.space_ids.specs.declared.ids.ForeignId.{ForeignId}
use Rattle.dgc_client.specs.declared.lease.ClientLease.{ClientLease}
use Rattle.dgc_client.specs.declared.leases.Kept.{Kept}
use Rattle.dgc_client.specs.Kept.{is_same, leases_now}
use Rattle.dgc_client.proofs.KeptLemmas.{now-same, timely-put, timely-written, insert-now, keys-now, lookup-written, none-now}
use Rattle.dgc_client.proofs.leases.Leases.insert.Goals as goal

pub invariant_of-self : goal.invariant_of-self
invariant_of-self c = record {
  timely = timely-written c.args.self.now.moment c.args.self.now.moments c.insert_full.result c.args.self.now.references.entries c.insert_full.new.self.entries c.args.reference.now _
      c.insert_full.ensures.entries c.insert_full.ensures.err (timely-put c.args.self.now.moment c.args.self.now.moments c.args.lease c.requires) c.args.self.now.timely;
}

pub returns-in_err-index-clause-err : goal.returns-in_err-index-clause-err
returns-in_err-index-clause-err c =
    let p = err_from_is_err_and c.from_residual.result c.from_residual.ensures.1 in
    rw p.1 (ap (λ (es : List (ForeignId × Kept)). leases_now c.args.self.now.moment c.args.self.now.moments es) c.in_err-index.ensures.err)

pub returns-in_err-index-clause-absent : goal.returns-in_err-index-clause-absent
returns-in_err-index-clause-absent c =
    let p = err_from_is_err_and c.from_residual.result c.from_residual.ensures.1 in
    rw p.1 (none-now c.args.self.now.moment c.args.self.now.moments (is_same c.args.reference.now) c.args.self.now.references.entries c.in_err-index.ensures.absent)

pub returns-clause-leases : goal.returns-clause-leases
returns-clause-leases c =
    ap (λ (es : List (ForeignId × Kept)). leases_now c.args.self.now.moment c.args.self.now.moments es) c.in_ok-index.ensures.entries
    ∙ insert-now c.args.self.now.moment c.args.self.now.moments c.args.self.now.references.entries c.args.reference.now _
    ∙ ap (λ (l : ClientLease). insert_entry is_same (leases_now c.args.self.now.moment c.args.self.now.moments c.args.self.now.references.entries) c.args.reference.now l)
    (now-same c.args.self.now.moment c.args.self.now.moments c.args.lease)

pub returns-clause-each : goal.returns-clause-each
returns-clause-each c = λ q.
    lookup-written c.args.self.now.moment c.args.self.now.moments c.args.self.now.references.entries c.insert_full.new.self.entries c.args.reference.now q c.args.lease (c.in_ok-index.ensures.updates.0 q)

pub returns-clause-index : goal.returns-clause-index
returns-clause-index c =
    c.in_ok-index.ensures.index ∙ ap (λ (ks : List ForeignId). position_or_len (is_same c.args.reference.now) ks) (sym (keys-now c.args.self.now.moment c.args.self.now.moments c.args.self.now.references.entries))
