use Rattle.std.proofs.Common.{sym, ap, subst, ◌∙◌}
use Rattle.std.proofs.lemmas.Result.{IfOk-weaker, on_ok_weaker}
use Rattle.sp_rules.specs.Events.{Finished}
use Rattle.sp_rules.specs.LivingTasks.{finish_task}
use Rattle.sp_rules.specs.Space.{on}
use Rattle.sp_state.specs.Spaces.{IsSpace}
use Rattle.sp_state.specs.declared.space_state.SpaceState.{SpaceState}
use Rattle.sp_state.proofs.FrameLemmas.{space-is}
use Rattle.sp_changes.proofs.ChangeLemmas.{end-is, end-may}
use Rattle.sp_tasks.specs.Lent.{LendsNoMore}
use Rattle.sp_tasks.proofs.LentLemmas.{lent-same, no-more-still, on-any}
use Rattle.sp_changes.proofs.ends.finish_in.Goals as goal

pub returns-clause-outputs : goal.returns-clause-outputs
returns-clause-outputs w c = IfOk-weaker c.conclude.result _ _ (λ outs told. λ g s is rest tells stands fuel.
    let task = c.args.task.now in
    told g (finish_task g task.id task.made s) (c.in_ok-finish_task.ensures.finished g s (subst (λ (x : SpaceState). IsSpace g s x) (sym (c.deref_mut-state.ensures.value ∙ c.space.view_is)) is) tells stands fuel) (end-may g s task.id task.made rest) ∙ sym (ap (λ r. r.1) (end-is g s task.id task.made))) c.conclude.ensures.outputs

pub returns-clause-state : goal.returns-clause-state
returns-clause-state w c = on_ok_weaker c.conclude.result (λ told. λ g s is rest tells stands fuel.
    let task = c.args.task.now in
    space-is g _ (on g (Finished task.id task.made) s).0 _ (ap (λ r. r.0) (end-is g s task.id task.made)) (told g (finish_task g task.id task.made s) (c.in_ok-finish_task.ensures.finished g s (subst (λ (x : SpaceState). IsSpace g s x) (sym (c.deref_mut-state.ensures.value ∙ c.space.view_is)) is) tells stands fuel) (end-may g s task.id task.made rest))) c.conclude.ensures.concluded

pub returns-clause-lent : goal.returns-clause-lent
returns-clause-lent w c = on-any c.conclude.result (no-more-still (subst (λ (x : SpaceState). LendsNoMore c.args.task.now.id x.living.tasks c.finish_task.new.self.living.tasks) (c.deref_mut-state.ensures.value ∙ c.space.view_is) c.in_ok-finish_task.ensures.lent) (lent-same c.conclude.ensures.tasks))
