use Rattle.std.proofs.Common.{◌≡◌, ℕ, suc, ◌+◌, ◌<◌, ◌++◌, length, take, List, sym, ap, subst, ◌∙◌, inl, inr, arith}
use Rattle.std.specs.Prelude.{option_to_list}
use Rattle.std.specs.List.{filter_map}
use Rattle.std.proofs.lemmas.Bool.{cases_lt}
use Rattle.std.proofs.Math.Seq.{take-length}
use Rattle.dgc_index.specs.Touched.{IsTouched}
use Rattle.dgc_client.specs.declared.groups.DueCall.{DueCall}
use Rattle.dgc_client.specs.Table.{leases_of}
use Rattle.dgc_client.specs.Touched.{call_of_entry, call_at, IsDueAt}
use Rattle.dgc_client.proofs.TouchedLemmas.{calls-next, due-within}
use Rattle.dgc_client.proofs.due_now.all_due.Goals as goal

pub loop-at-preserved : goal.loop-at-preserved
loop-at-preserved c =
    let es = leases_of c.args.leases.now in
    let at = c.loop-at.at in
    let within : at < length es = omega (arith, c.len-at-end.ensures.len) in
    let next : at + 1 ≡ suc at = omega arith in (
      c.add_call.ensures.calls ∙ ap (λ (xs : List DueCall). xs ++ option_to_list (call_at es at)) c.loop-at.invariant.0
          ∙ subst (λ (n : ℕ). filter_map call_of_entry (take at es) ++ option_to_list (call_at es at) ≡ filter_map call_of_entry (take n es)) (sym next) (sym (calls-next call_of_entry es at within)),
      (λ i below is_due. elim (cases_lt i at) [
        | inl old ↦ c.add_call.ensures.kept i (c.loop-at.invariant.1 i old is_due)
        | inr last ↦ let same : i ≡ at = omega arith in
            subst (λ (n : ℕ). IsTouched c.add_call.new.again n) (sym same) (c.add_call.ensures.here (subst (λ (n : ℕ). IsDueAt es n) same is_due))
      ]),
      omega (arith, c.add_call.ensures.len, c.loop-at.invariant.2),
      c.add_call.ensures.capacity ∙ c.loop-at.invariant.3,
    )

pub returns-clause-calls : goal.returns-clause-calls
returns-clause-calls c =
    let es = leases_of c.args.leases.now in
    let all : c.loop-at.at ≡ length es = omega (arith, c.len-at-end.ensures.len) in
    c.loop-at.invariant.0 ∙ ap (λ (n : ℕ). filter_map call_of_entry (take n es)) all ∙ ap (filter_map call_of_entry) (take-length es)

pub returns-clause-again : goal.returns-clause-again
returns-clause-again c = λ at is_due.
    let within = due-within call_of_entry (leases_of c.args.leases.now) at is_due in
    c.loop-at.invariant.1 at (omega (arith, within, c.len-at-end.ensures.len)) is_due
