use Rattle.std.proofs.Common.{ap}
use Rattle.sp_tasks.specs.Rows.{Hand}
use Rattle.sp_lending.proofs.WorkLemmas.{at-work-as, idle-turn}
use Rattle.sp_lending.proofs.parts.Parts.turn.Goals as goal

pub run-requires : goal.run-requires
run-requires c = let k = c.requires.known in record { known = record { setting = k.setting; is = k.of } }

pub ask-requires-clause-known : goal.ask-requires-clause-known
ask-requires-clause-known c = let k = c.requires.known in record { setting = k.setting; state = k.state; is = k.is; of = c.run.ensures.of k.setting k.of }

pub returns-in-Turn-clause-left : goal.returns-in-Turn-clause-left
returns-in-Turn-clause-left c = λ g s id n w.
    let space = c.args.self.now in
    idle-turn g s id n space space c.args.task.now c.run.new.self w w.is (c.run.ensures.of g w.of) (ap (λ (hand : Hand). hand.id) c.run.ensures.same)

pub returns-in-Memory-clause-left : goal.returns-in-Memory-clause-left
returns-in-Memory-clause-left c = λ g s id n w.
    let space = c.args.self.now in
    idle-turn g s id n space space c.args.task.now c.run.new.self w w.is (c.run.ensures.of g w.of) (ap (λ (hand : Hand). hand.id) c.run.ensures.same)

pub returns-in-Ended-clause-left : goal.returns-in-Ended-clause-left
returns-in-Ended-clause-left c = λ g s id n w.
    let space = c.args.self.now in
    at-work-as g s id n space space c.args.task.now c.run.new.self w w.is (c.run.ensures.of g w.of) (ap (λ (hand : Hand). hand.id) c.run.ensures.same)

pub returns-in-Asks-clause-left : goal.returns-in-Asks-clause-left
returns-in-Asks-clause-left c = λ g s id n w.
    let space = c.args.self.now in
    c.ask.ensures.left g s id n (at-work-as g s id n space space c.args.task.now c.run.new.self w w.is (c.run.ensures.of g w.of) (ap (λ (hand : Hand). hand.id) c.run.ensures.same))
