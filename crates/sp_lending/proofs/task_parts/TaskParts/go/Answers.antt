use Rattle.std.proofs.Common.{ap, sym, subst, ◌∙◌}
use Rattle.sp_tasks.specs.Recorded.{Recorded}
use Rattle.sp_lending.specs.Hands.{IsTask}
use Rattle.sp_lending.specs.declared.task_parts.TaskParts.{TaskParts}
use Rattle.sp_lending.proofs.TaskLemmas.{level-by, ran-fits, ran-task}
use Rattle.sp_lending.proofs.task_parts.TaskParts.go.Goals as goal

pub ran-requires : goal.ran-requires
ran-requires c =
    let k = c.requires.known in
    let task = c.args.self.now in
    let p = c.args.player in
    let l = level-by k.setting task p k.is in
    ran-fits k.setting task.hand.task l.now p c.run-made.result c.fuel-fuel.result l.is l.level (c.run-made.ensures.within p.task.program k.setting l.now l.level)
    (c.fuel-fuel.ensures ∙ ap (λ (r : Recorded). r.began.fuel) c.record.ensures) c.fuel-fuel.type_inv

pub returns-clause-of : goal.returns-clause-of
returns-clause-of c = λ g is.
    let task = c.args.self.now in
    let p = c.args.player in
    let l = level-by g task p is in
    let ran = c.run-made.new.self in
    subst (λ (task : TaskParts). IsTask g task) (sym (c.put_stand.ensures ∙ ap (λ (task : TaskParts). record task { stand = c.pause-stand.result.0 }) c.put_player.ensures))
    (ran-task g task p c.ran.new.self ran c.pause-stand.result.0 c.run-made.result l c.ran.ensures.task (c.run-made.ensures.level p.task.program g l.now l.level) c.run-made.ensures.ahead c.pause-stand.ensures)
