use Rattle.std.proofs.Common.{refl}
use Rattle.sp_rules.specs.LivingTasks.{give_back}
use Rattle.sp_owner.specs.Owners.{owner_parts}
use Rattle.sp_state.proofs.QuietLemmas.{give_back_keeps, parts-quiet}
use Rattle.sp_state.proofs.SpaceLemmas.{quiet}
use Rattle.sp_state.proofs.space_state.SpaceState.give_back.Goals as goal

pub returns-clause-back : goal.returns-clause-back
returns-clause-back c = λ g s is.
    quiet g s (give_back c.args.task.id c.args.task.made s) c.args.self.now c.give_back.new.self (give_back_keeps (parts-quiet g (owner_parts s)) {s = s} c.args.task.id c.args.task.made refl) (c.give_back.ensures.back g s is.living) is
