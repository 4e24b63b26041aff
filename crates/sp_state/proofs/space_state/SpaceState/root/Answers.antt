use Rattle.std.proofs.Common.{refl}
use Rattle.sp_rules.specs.LivingTasks.{add_task}
use Rattle.sp_rules.specs.State.{OfRoot}
use Rattle.sp_owner.specs.Owners.{owner_parts}
use Rattle.sp_state.proofs.QuietLemmas.{add_task_keeps, parts-quiet}
use Rattle.sp_state.proofs.SpaceLemmas.{quiet}
use Rattle.sp_state.proofs.space_state.SpaceState.root.Goals as goal

pub returns-clause-id : goal.returns-clause-id
returns-clause-id c = λ g s is. c.in_ok-id.ensures.id g s is.living

pub returns-clause-started : goal.returns-clause-started
returns-clause-started c = λ g s is.
    quiet g s (add_task g OfRoot c.args.method c.args.arguments.now c.args.fuel s) c.args.self.now c.start.new.self
    (add_task_keeps (parts-quiet g (owner_parts s)) {s = s} OfRoot c.args.method c.args.arguments.now c.args.fuel refl) (c.in_ok-id.ensures.started g s is.living) is
