use Rattle.std.proofs.Common.{◌≡◌, ◌+◌, None, Some, Option, sym, ap, subst, ◌∙◌}
use Rattle.std.specs.Prelude.{option_map, unwrap_or}
use Rattle.sp_rules.specs.Events.{Ended}
use Rattle.sp_rules.specs.Holders.{drop}
use Rattle.sp_rules.specs.LivingTasks.{report}
use Rattle.sp_rules.specs.State.{State, Living, Origin, say}
use Rattle.sp_rules.specs.Tasks.{steps}
use Rattle.sp_tasks.specs.Behaviours.{origin_of, outcome_of}
use Rattle.sp_tasks.specs.declared.origin.Origin.{Origin as Told}
use Rattle.sp_living.specs.Livings.{IsLiving}
use Rattle.sp_living.specs.Steps.{without_task}
use Rattle.sp_living.proofs.HandLemmas.{steps-held}
use Rattle.sp_living.proofs.StepLemmas.{held-of}
use Rattle.sp_living.proofs.TableLemmas.{none-left}
use Rattle.sp_tasks.proofs.LentLemmas.{lent-same, no-more-still}
use Rattle.sp_endings.proofs.tasks.end_task.Goals as goal

pub returns-in_default-clause-ended : goal.returns-in_default-clause-ended
returns-in_default-clause-ended w c = λ g s t k a tells there fuel.
    let none : None ≡ Some t.origin =
    ap (λ (o : Option Told). option_map origin_of o) (sym (none-left c.take_task.result c.in_default.not-Some)) ∙ c.take_task.ensures.origin g s a ∙ ap (λ (o : Option Living). option_map (λ (u : Living). u.origin) o) there in cc

pub returns-clause-ended : goal.returns-clause-ended
returns-clause-ended w c = λ g s t k a tells there fuel.
    let l = c.args.living.now in
    let id = c.args.id in
    let begun : State = without_task id (s.retired + (steps k t.task).made) s in
    let a1 = c.take_task.ensures.left g s (s.retired + (steps k t.task).made) a in
    let a2 = c.in_ok-say.ensures.said g begun a1 in
    let a3 = c.in_ok-report.ensures.reported g _ a2 tells in
    let a4 = c.drop_holders.ensures.dropped g _ a3 in
    let held : c.deref.result.now ≡ (steps k t.task).held = c.deref.ensures.value ∙ c.in_ok-held.ensures ∙ held-of g s l id t a there ∙ sym (steps-held k t.task) in
    let found : Some (origin_of c.in-Some.origin) ≡ Some t.origin =
    ap (λ (o : Option Told). option_map origin_of o) (sym c.in-Some.is) ∙ c.take_task.ensures.origin g s a ∙ ap (λ (o : Option Living). option_map (λ (u : Living). u.origin) o) there in
    let origin : origin_of c.in-Some.origin ≡ t.origin = ap (λ (o : Option Origin). unwrap_or o t.origin) found in
    let copy = c.in_ok-copy_outcome.ensures in
    subst (λ (u : State). IsLiving g u c.drop_holders.new.self)
    (λ j. drop g (held j) (report g (origin j) id (fuel j) (outcome_of c.args.outcome) (say (Ended id (outcome_of (copy j))) begun))) a4

pub returns-clause-lent : goal.returns-clause-lent
returns-clause-lent w c = no-more-still (no-more-still (no-more-still c.take_task.ensures.lent (lent-same c.say.ensures.tasks)) c.in_ok-report.ensures.lent) (lent-same c.drop_holders.ensures.tasks)

pub returns-in_default-clause-lent : goal.returns-in_default-clause-lent
returns-in_default-clause-lent w c = c.take_task.ensures.lent
