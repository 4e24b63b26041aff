use Rattle.std.proofs.Common.{◌≡◌, ℕ, ◌+◌, ap, subst, ◌∙◌}
use Rattle.sp_rules.specs.Events.{Ready, Started}
use Rattle.sp_rules.specs.Holders.{hold}
use Rattle.sp_rules.specs.LivingTasks.{add_task}
use Rattle.sp_rules.specs.State.{State, say}
use Rattle.sp_rules.specs.Tasks.{start}
use Rattle.sp_tasks.specs.Behaviours.{origin_of}
use Rattle.sp_living.specs.Holding.{held_at}
use Rattle.sp_living.specs.Livings.{IsLiving}
use Rattle.sp_living.specs.Steps.{with_task}
use Rattle.sp_living.proofs.StepLemmas.{held-started}
use Rattle.sp_tasks.proofs.LentLemmas.{lent-still}
use Rattle.sp_living.proofs.living.Living.start.Goals as goal

pub returns-clause-started : goal.returns-clause-started
unfolding add_task
returns-clause-started c = λ g s a.
    let origin = origin_of c.args.origin in
    let begun : State = with_task g origin c.args.method c.args.arguments.now c.args.fuel s in
    let a1 = c.in_ok-id.ensures.entered g s a in
    let id : c.in_ok-id.id ≡ s.tasks_made + 1 = c.in_ok-id.ensures.id g s a in
    let a2 = c.in_ok-say.ensures.said g begun a1 in
    let a3 = c.in_ok-hold.ensures.held g _ a2 in
    let a4 = c.in_ok-say-2.ensures.said g _ a3 in
    let refs : c.deref.result.now ≡ (start g c.args.method c.args.arguments.now c.args.fuel).held =
    c.deref.ensures.value ∙ c.in_ok-held.ensures ∙ ap (λ (n : ℕ). held_at n c.enter.new.self) id ∙ held-started g s c.args.self.now c.enter.new.self origin c.args.method c.args.arguments.now c.args.fuel a a1 in
    subst (λ (u : State). IsLiving g u c.say-2.new.self) (λ j. say (Ready (id j)) (hold g (refs j) (say (Started (id j)) begun))) a4

pub returns-clause-lent : goal.returns-clause-lent
returns-clause-lent c = lent-still (lent-still (lent-still c.in_ok-id.ensures.lent c.say.ensures.tasks) c.hold.ensures.tasks) c.say-2.ensures.tasks
