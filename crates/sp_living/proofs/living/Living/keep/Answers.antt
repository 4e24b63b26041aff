use Rattle.std.proofs.Common.{List, sym, subst, ◌∙◌}
use Rattle.std.proofs.lemmas.Result.{on_ok_weaker}
use Rattle.space_ids.specs.declared.ids.Ref.{Ref}
use Rattle.sp_rules.specs.Holders.{hold}
use Rattle.sp_rules.specs.State.{State}
use Rattle.sp_results.specs.Held.{with_acked}
use Rattle.sp_living.specs.Livings.{IsLiving}
use Rattle.sp_living.proofs.ResultLemmas.{call-kept}
use Rattle.sp_living.proofs.StepLemmas.{results-now}
use Rattle.sp_living.proofs.living.Living.keep.Goals as goal

pub returns-clause-kept : goal.returns-clause-kept
returns-clause-kept c = on_ok_weaker c.hold_found.result (λ held. λ g s a.
    let conn = c.args.conn in
    let number = c.args.number in
    let value = c.args.value in
    let l = c.args.self.now in
    let kept : State = record s { results = with_acked conn number value s.results } in
    let none = sym (c.contains.ensures s.moment s.results a.results.of_calls) ∙ c.if-contains.false in
    let calls = c.hold_reserved.ensures s.moment s.results (c.in_ok-reserve.ensures.same s.moment s.results a.results.of_calls) none in
    let now = results-now g s l (with_acked conn number value s.results) l.results c.hold_reserved.new.self (call-kept s.moment conn number value s.results l.results l.call_results c.hold_reserved.new.self calls a.results) a in
    subst (λ (refs : List Ref). IsLiving g (hold g refs kept) c.hold_found.new.self) (sym c.reference_in-found.ensures) (held g kept now)) c.hold_found.ensures.held
