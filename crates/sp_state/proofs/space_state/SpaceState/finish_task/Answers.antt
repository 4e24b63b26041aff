use Rattle.std.proofs.Common.{refl}
use Rattle.std.proofs.lemmas.Result.{on_ok_weaker}
use Rattle.sp_rules.specs.LivingTasks.{finish_task}
use Rattle.sp_owner.specs.Owners.{owner_parts}
use Rattle.sp_state.proofs.QuietLemmas.{finish_keeps, parts-quiet}
use Rattle.sp_state.proofs.SpaceLemmas.{quiet}
use Rattle.sp_state.proofs.space_state.SpaceState.finish_task.Goals as goal

pub returns-clause-finished : goal.returns-clause-finished
returns-clause-finished w c = on_ok_weaker c.finish_task.result (λ now. λ g s is tells stands fuel.
    let task = c.args.task.now in
    quiet g s (finish_task g task.id task.made s) c.args.self.now c.finish_task.new.living (finish_keeps (parts-quiet g (owner_parts s)) {s = s} task.id task.made refl) (now g s is.living tells stands fuel) is) c.finish_task.ensures.finished
