use Rattle.std.proofs.Common.{◌<◌, ◌≤◌, ◌∷◌, [], ◌++◌, length, get_or, take, List, Option, refl, sym, ap, ◌∙◌, arith}
use Rattle.std.specs.Prelude.{option_to_list}
use Rattle.std.specs.List.{filter_map}
use Rattle.std.proofs.lemmas.List.{append-nil}
use Rattle.space_ids.specs.declared.ids.ForeignId.{ForeignId}
use Rattle.dgc_client.specs.Table.{leases_of}
use Rattle.dgc_client.specs.Touched.{reference_of}
use Rattle.dgc_client.proofs.TouchedLemmas.{calls-through, looked-next, calls-all}
use Rattle.dgc_client.proofs.picked.picked.Goals as goal
use Rattle.dgc_client.proofs.picked.picked.Goals.{in-Some+in_ok-push-in-Some, in-None}

pub loop-at-preserved : goal.loop-at-preserved
loop-at-preserved c =
    let es = leases_of c.args.leases.now in
    let f = reference_of c.args.question in
    let candidates = c.args.candidates.now in
    let at = get_or candidates c.loop-at.at-index 0 in
    let looked = c.loop-at.invariant.2 in
    let above : c.loop-at.passed ≤ at = omega arith in
    let within : at < length es = omega (arith, c.len.ensures.len) in
    let before = filter_map f (take c.loop-at.passed es) in
    elim c.match-reference_at.branch [
      | in-Some+in_ok-push-in-Some w ↦ (
        omega arith,
        λ all. (λ i. (w.references-is i).items) ∙ w.in_ok-push-in-Some.ensures.items ∙ ap (λ (xs : List ForeignId). xs ++ w.in-Some.reference ∷ []) (c.loop-at.invariant.1 all)
            ∙ ap (λ (o : Option ForeignId). before ++ option_to_list o) w.in-Some.ensures
            ∙ sym (calls-through f es candidates c.requires c.loop-at.passed c.loop-at.at-index looked all at c.loop-at-test.true refl above within),
        looked-next f es candidates c.requires c.loop-at.passed c.loop-at.at-index looked at refl above,
      )
      | in-None w ↦ (
        omega arith,
        λ all. (λ i. (w.references-is i).items) ∙ c.loop-at.invariant.1 all ∙ sym (append-nil before) ∙ ap (λ (o : Option ForeignId). before ++ option_to_list o) w.in-None.ensures
            ∙ sym (calls-through f es candidates c.requires c.loop-at.passed c.loop-at.at-index looked all at c.loop-at-test.true refl above within),
        looked-next f es candidates c.requires c.loop-at.passed c.loop-at.at-index looked at refl above,
      )
    ]

pub returns : goal.returns
returns c = λ all.
    c.loop-at.invariant.1 all
    ∙ calls-all (reference_of c.args.question) (leases_of c.args.leases.now) c.args.candidates.now c.requires c.loop-at.passed c.loop-at.at-index c.loop-at.invariant.2 all (omega arith) c.loop-at.invariant.0
