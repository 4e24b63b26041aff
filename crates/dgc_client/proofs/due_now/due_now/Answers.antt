use Rattle.std.proofs.Common.{◌<◌, ◌≤◌, ◌++◌, length, get_or, List, sym, ap, ◌∙◌, refl, arith}
use Rattle.std.specs.Prelude.{option_to_list}
use Rattle.dgc_index.specs.Touched.{IsTouched}
use Rattle.dgc_client.specs.declared.groups.DueCall.{DueCall}
use Rattle.dgc_client.specs.Table.{leases_of}
use Rattle.dgc_client.specs.Touched.{call_of_entry, call_at}
use Rattle.dgc_client.proofs.TouchedLemmas.{calls-through, looked-next, indexes-next, calls-all, indexes-all}
use Rattle.dgc_client.proofs.due_now.due_now.Goals as goal

pub loop-at-preserved : goal.loop-at-preserved
loop-at-preserved c =
    let es = leases_of c.args.leases.now in
    let candidates = c.args.candidates.now in
    let at = get_or candidates c.loop-at.at-index 0 in
    let looked = c.loop-at.invariant.3 in
    let above : c.loop-at.passed ≤ at = omega arith in
    let within : at < length es = omega (arith, c.len.ensures.len) in (
      omega arith,
      λ all. c.add_call.ensures.calls ∙ ap (λ (xs : List DueCall). xs ++ option_to_list (call_at es at)) (c.loop-at.invariant.1 all)
          ∙ sym (calls-through call_of_entry es candidates c.requires.rising c.loop-at.passed c.loop-at.at-index looked all at c.loop-at-test.true refl above within),
      λ all. indexes-next call_of_entry es candidates c.requires.rising c.loop-at.passed c.loop-at.at-index looked all at c.loop-at-test.true refl
          (λ i. IsTouched c.loop-at.again i) (λ i. IsTouched c.add_call.new.again i) c.add_call.ensures.kept c.add_call.ensures.here (c.loop-at.invariant.2 all),
      looked-next call_of_entry es candidates c.requires.rising c.loop-at.passed c.loop-at.at-index looked at refl above,
      omega (arith, c.add_call.ensures.len, c.loop-at.invariant.4),
      omega (arith, c.add_call.ensures.len, c.loop-at.invariant.5),
      c.add_call.ensures.capacity ∙ c.loop-at.invariant.6,
    )

pub returns-clause-calls : goal.returns-clause-calls
returns-clause-calls c = λ all.
    c.loop-at.invariant.1 all
    ∙ calls-all call_of_entry (leases_of c.args.leases.now) c.args.candidates.now c.requires.rising c.loop-at.passed c.loop-at.at-index c.loop-at.invariant.3 all (omega arith) c.loop-at.invariant.0

pub returns-clause-again : goal.returns-clause-again
returns-clause-again c = λ all.
    indexes-all call_of_entry (leases_of c.args.leases.now) c.args.candidates.now c.requires.rising c.loop-at.passed c.loop-at.at-index c.loop-at.invariant.3 all (omega arith)
    (λ i. IsTouched c.loop-at.again i) (c.loop-at.invariant.2 all)
