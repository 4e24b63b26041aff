use Rattle.std.proofs.Common.{◌≡◌, ℕ, List, [], ◌∷◌, Option, sym, ap, subst, ◌∙◌, append-nil, map, filter}
use Rattle.std.specs.Prelude.{not}
use Rattle.space_ids.specs.declared.value.Value.{Value}
use Rattle.sp_rules.specs.OwnEvents.{is_of_root}
use Rattle.sp_rules.specs.References.{references_in}
use Rattle.sp_rules.specs.State.{State, KeptResult}
use Rattle.sp_results.specs.Held.{references_of_results}
use Rattle.sp_living.specs.Livings.{IsLiving}
use Rattle.sp_living.specs.Parts.{AreResults}
use Rattle.sp_living.specs.Views.{kept}
use Rattle.sp_living.proofs.LivingLemmas.{dropped-none}
use Rattle.sp_living.proofs.ResultLemmas.{of-task, released-as, root-released}
use Rattle.sp_living.proofs.StepLemmas.{results-now}
use Rattle.sp_living.proofs.living.Living.release_root.Goals as goal

pub returns-in-Some-clause-released : goal.returns-in-Some-clause-released
returns-in-Some-clause-released c = λ g s a.
    let l = c.args.self.now in
    let task = c.args.task in
    let left : State = record s { results = filter (λ (r : KeptResult). not (is_of_root task r)) s.results } in
    let roots = subst (λ (rows : List (ℕ × Option Value)). AreResults s.moment left.results rows l.call_results) (sym c.in-Some.ensures.left) (root-released s.moment task s.results l.results l.call_results a.results) in
    let now = results-now g s l left.results c.take.new.self l.call_results roots a in
    let found : filter (is_of_root task) s.results ≡ kept (task, c.in-Some.value) ∷ [] = of-task s.moment task s.results l.results l.call_results a.results ∙ ap (map kept) c.in-Some.ensures.value in
    let refs = ap references_of_results found ∙ append-nil (references_in c.in-Some.value) ∙ c.reference_in.ensures in
    subst (λ (u : State). IsLiving g u c.drop_found.new.self) (sym (released-as g s (is_of_root task) _ refs)) (c.drop_found.ensures.dropped g left now)

pub returns-in-None-clause-released : goal.returns-in-None-clause-released
returns-in-None-clause-released c = λ g s a.
    let l = c.args.self.now in
    let task = c.args.task in
    let left : State = record s { results = filter (λ (r : KeptResult). not (is_of_root task r)) s.results } in
    let roots = subst (λ (rows : List (ℕ × Option Value)). AreResults s.moment left.results rows l.call_results) (sym c.in-None.ensures.left) (root-released s.moment task s.results l.results l.call_results a.results) in
    let now = results-now g s l left.results c.take.new.self l.call_results roots a in
    let found : filter (is_of_root task) s.results ≡ [] = of-task s.moment task s.results l.results l.call_results a.results ∙ ap (map kept) c.in-None.ensures.value in
    let refs = ap references_of_results found in
    subst (λ (u : State). IsLiving g u (record l { results = c.take.new.self })) (sym (released-as g s (is_of_root task) [] refs ∙ dropped-none left)) now
