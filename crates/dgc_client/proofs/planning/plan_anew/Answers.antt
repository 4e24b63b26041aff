use Rattle.std.proofs.Common.{◌≡◌, ℕ, Some, sym, subst, ◌∙◌, inl, inr, arith}
use Rattle.std.specs.Prelude.{slice_get}
use Rattle.std.proofs.lemmas.Bool.{cases_lt}
use Rattle.std.proofs.lemmas.Option.{slice_get_within}
use Rattle.dgc_index.specs.Plans.{IsPlannedTerm}
use Rattle.dgc_client.specs.Table.{leases_of}
use Rattle.dgc_client.proofs.planning.plan_anew.Goals as goal

pub loop-index-preserved : goal.loop-index-preserved
loop-index-preserved c = λ at r lease term below there stands.
    let es = leases_of c.args.leases.now in
    elim (cases_lt at c.loop-index.index) [
      | inl old ↦ c.add.ensures.kept term at (c.loop-index.invariant at r lease term old there stands)
      | inr last ↦
          let same : at ≡ c.loop-index.index = omega arith in
          let here = subst (λ (n : ℕ). slice_get es n ≡ Some (r, lease)) same there in
          subst (λ (n : ℕ). IsPlannedTerm c.add.new.self term n) (sym same)
          (c.add.ensures.here term (c.term_of.ensures r lease (c.at-entry.ensures ∙ here) ∙ stands))
    ]

pub returns : goal.returns
returns c = λ at r lease term there stands.
    let within = slice_get_within (leases_of c.args.leases.now) at (r, lease) there in
    c.loop-index.invariant at r lease term (omega (arith, within, c.len-index-end.ensures.len)) there stands
