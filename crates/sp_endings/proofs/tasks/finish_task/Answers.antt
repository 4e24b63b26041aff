use Rattle.std.proofs.Common.{◌≡◌, ℕ, Some, sym, ap, subst, ◌∙◌}
use Rattle.std.proofs.lemmas.Result.{on_ok_weaker}
use Rattle.sp_rules.specs.LivingTasks.{after_steps, end_with}
use Rattle.sp_rules.specs.State.{State, task_at}
use Rattle.sp_rules.specs.Tasks.{Task, steps}
use Rattle.sp_tasks.specs.Behaviours.{outcome_of}
use Rattle.sp_living.specs.Livings.{IsLiving}
use Rattle.sp_living.proofs.HandLemmas.{task-is, taken}
use Rattle.sp_endings.proofs.TaskLemmas.{finishes}
use Rattle.std.specs.Prelude.{OnOk}
use Rattle.sp_tasks.specs.Lent.{LendsNoMore}
use Rattle.sp_endings.proofs.tasks.finish_task.Goals as goal

pub returns-clause-finished : goal.returns-clause-finished
returns-clause-finished w c = on_ok_weaker c.end_task.result (λ ended. λ g s a tells stands fuel.
    let l = c.args.living.now in
    let hand = c.args.task.now in
    let outcome = outcome_of c.args.outcome in
    let h = taken g s l hand a c.requires in
    let there : task_at s c.id.result ≡ Some h.living = ap (task_at s) c.id.ensures ∙ h.there in
    let left : c.args.fuel ≡ (steps hand.made h.living.task).fuel = fuel ∙ ap (λ (t : Task). t.fuel) (sym (task-is g s l hand a h)) in
    subst (λ (u : State). IsLiving g u c.end_task.new.living)
    ((λ j. end_with g (c.id.ensures j) (after_steps hand.made h.living) outcome s) ∙ sym (finishes g s l hand outcome a h stands))
    (ended g s h.living hand.made a tells there left)) c.end_task.ensures.ended

pub returns-clause-lent : goal.returns-clause-lent
returns-clause-lent w c = subst (λ (id : ℕ). OnOk c.end_task.result (LendsNoMore id c.args.living.now.tasks c.end_task.new.living.tasks)) c.id.ensures c.end_task.ensures.lent
