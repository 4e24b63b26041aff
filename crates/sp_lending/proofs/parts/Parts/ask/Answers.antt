use Rattle.sp_lending.specs.Works.{state_after}
use Rattle.sp_lending.proofs.WorkLemmas.{idle-turn, one-operation}
use Rattle.sp_lending.proofs.parts.Parts.ask.Goals as goal

pub returns-in-Ok-clause-left : goal.returns-in-Ok-clause-left
returns-in-Ok-clause-left c = λ g s id n w.
    let t = state_after g w.events s in
    one-operation g s id n c.args.self.now c.commit_own.new.self c.args.task.now c.commit_own.new.task c.args.op.now w (c.in-Ok.ensures.state g t w.is w.of) (c.commit_own.ensures.of g t w.is w.of) (c.commit_own.ensures.id g t w.is)

pub returns-in-Err-clause-left : goal.returns-in-Err-clause-left
returns-in-Err-clause-left c = λ g s id n w.
    let t = state_after g w.events s in
    idle-turn g s id n c.args.self.now c.commit_own.new.self c.args.task.now c.commit_own.new.task w (c.in-Err.ensures.unchanged g t w.is) (c.commit_own.ensures.of g t w.is w.of) (c.commit_own.ensures.id g t w.is)
