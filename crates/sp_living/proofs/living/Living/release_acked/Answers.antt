use Rattle.std.proofs.Common.{[], sym, ap, subst, ◌∙◌, append-nil}
use Rattle.sp_rules.specs.Frames.{is_acked_by}
use Rattle.sp_rules.specs.References.{references_in}
use Rattle.sp_rules.specs.State.{State, Acked}
use Rattle.sp_results.specs.Held.{left_by_ack, references_of_results}
use Rattle.sp_living.specs.Livings.{IsLiving}
use Rattle.sp_living.proofs.LivingLemmas.{dropped-none}
use Rattle.sp_living.proofs.ResultLemmas.{any-none, any-some, call-released, released-as}
use Rattle.sp_living.proofs.StepLemmas.{results-now}
use Rattle.sp_living.proofs.living.Living.release_acked.Goals as goal

pub returns-in-Some-clause-held : goal.returns-in-Some-clause-held
returns-in-Some-clause-held c = λ g s a. sym (any-some (is_acked_by c.args.conn c.args.number) s.results (record { until = Acked c.args.conn c.args.number; value = c.in-Some.value }) [] (c.in-Some.ensures.value s.moment s.results a.results.of_calls))

pub returns-in-Some-clause-released : goal.returns-in-Some-clause-released
returns-in-Some-clause-released c = λ g s a.
    let l = c.args.self.now in
    let left : State = record s { results = left_by_ack c.args.conn c.args.number s.results } in
    let calls = c.in-Some.ensures.released s.moment s.results a.results.of_calls in
    let now = results-now g s l left.results l.results c.release.new.self (call-released s.moment c.args.conn c.args.number s.results l.results l.call_results c.release.new.self calls a.results) a in
    let refs = ap references_of_results (c.in-Some.ensures.value s.moment s.results a.results.of_calls) ∙ append-nil (references_in c.in-Some.value) ∙ c.reference_in.ensures in
    subst (λ (u : State). IsLiving g u c.drop_found.new.self) (sym (released-as g s (is_acked_by c.args.conn c.args.number) _ refs)) (c.drop_found.ensures.dropped g left now)

pub returns-in-None-clause-held : goal.returns-in-None-clause-held
returns-in-None-clause-held c = λ g s a. sym (any-none (is_acked_by c.args.conn c.args.number) s.results (c.in-None.ensures.value s.moment s.results a.results.of_calls))

pub returns-in-None-clause-released : goal.returns-in-None-clause-released
returns-in-None-clause-released c = λ g s a.
    let l = c.args.self.now in
    let left : State = record s { results = left_by_ack c.args.conn c.args.number s.results } in
    let calls = c.in-None.ensures.released s.moment s.results a.results.of_calls in
    let now = results-now g s l left.results l.results c.release.new.self (call-released s.moment c.args.conn c.args.number s.results l.results l.call_results c.release.new.self calls a.results) a in
    let refs = ap references_of_results (c.in-None.ensures.value s.moment s.results a.results.of_calls) in
    subst (λ (u : State). IsLiving g u (record l { call_results = c.release.new.self })) (sym (released-as g s (is_acked_by c.args.conn c.args.number) [] refs ∙ dropped-none left)) now
