use Rattle.sp_rules.specs.Requests.{settle}
use Rattle.sp_rules.specs.Space.{finish_event}
use Rattle.std.proofs.Common.{true, ◌∙◌}
use Rattle.sp_state.proofs.SpaceLemmas.{finished-parts, quiet}
use Rattle.sp_state.proofs.space_state.SpaceState.conclude.Goals as goal

pub returns-clause-outputs : goal.returns-clause-outputs
returns-clause-outputs c = λ g s is may. c.conclude.ensures.outputs g (settle s) (c.in_ok-settle.ensures.settled g s is.living may)

pub returns-clause-concluded : goal.returns-clause-concluded
returns-clause-concluded c = λ g s is may.
    quiet g s (finish_event true s).0 c.args.self.now c.conclude.new.self (finished-parts s) (c.conclude.ensures.concluded g (settle s) (c.in_ok-settle.ensures.settled g s is.living may)) is

pub returns-clause-tasks : goal.returns-clause-tasks
returns-clause-tasks c = c.conclude.ensures.tasks ∙ c.settle.ensures.tasks
