use Rattle.std.proofs.Common.{ap}
use Rattle.sp_tasks.specs.Rows.{Hand}
use Rattle.sp_lending.specs.Works.{state_after}
use Rattle.sp_lending.proofs.WorkLemmas.{idle-turn, parks-then}
use Rattle.sp_lending.proofs.parts.Parts.wait.Goals as goal

pub returns-in-Ok-clause-turned : goal.returns-in-Ok-clause-turned
returns-in-Ok-clause-turned c = λ g s id n w.
    let t = state_after g w.events s in
    parks-then g s id n c.args.self.now c.park_own.new.self c.args.task _ w (c.in-Ok.ensures.state g t w.is w.of) (c.in-Ok.ensures.outputs g t w.is w.of)

pub returns-in-Err-clause-turned : goal.returns-in-Err-clause-turned
returns-in-Err-clause-turned c = λ g s id n w.
    idle-turn g s id n c.args.self.now c.park_own.new.self c.args.task c.in-Err.back.0 w (c.in-Err.ensures.unchanged g (state_after g w.events s) w.is) (c.in-Err.ensures.of g w.of)
    (ap (λ (hand : Hand). hand.id) c.in-Err.ensures.kept)
