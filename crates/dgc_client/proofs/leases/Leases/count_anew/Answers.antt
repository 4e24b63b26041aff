use Rattle.std.proofs.Common.{List, sym, ap, subst, ◌∙◌}
use Rattle.space_ids.specs.declared.ids.ForeignId.{ForeignId}
use Rattle.dgc_client.specs.declared.leases.Kept.{Kept}
use Rattle.dgc_client.specs.Kept.{leases_now, AreTimely}
use Rattle.dgc_client.proofs.KeptLemmas.{leases-anew, timely-anew}
use Rattle.dgc_client.proofs.leases.Leases.count_anew.Goals as goal

pub invariant_of-self : goal.invariant_of-self
invariant_of-self c = record {
  timely = subst (λ (es : List (ForeignId × Kept)). AreTimely c.args.self.now.moment 0 es) (sym c.keep_anew.ensures.each)
      (timely-anew c.args.self.now.moment c.args.self.now.moments c.args.self.now.references.entries c.args.self.now.timely);
}

pub returns-then-self-clause-leases : goal.returns-then-self-clause-leases
returns-then-self-clause-leases c =
    ap (λ (es : List (ForeignId × Kept)). leases_now c.args.self.now.moment 0 es) c.keep_anew.ensures.each
    ∙ leases-anew c.args.self.now.moment c.args.self.now.moments c.args.self.now.references.entries
