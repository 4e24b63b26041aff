use Rattle.std.proofs.lemmas.Result.{on_ok_weaker}
use Rattle.sp_rules.specs.LivingTasks.{park_call}
use Rattle.sp_state.proofs.SpaceLemmas.{park-parts, quiet}
use Rattle.sp_state.proofs.space_state.SpaceState.park_call.Goals as goal

pub returns-clause-parked : goal.returns-clause-parked
returns-clause-parked w c = on_ok_weaker c.park_call.result (λ now. λ g s is tells stands fuel.
    let task = c.args.task in
    quiet g s (park_call g task.id task.made s) c.args.self.now c.park_call.new.self (park-parts g task.id task.made s) (now g s is.living tells stands fuel) is) c.park_call.ensures.parked
