use Rattle.std.proofs.Common.{◌+◌, arith}
use Rattle.std.specs.Prelude.{suc}
use Rattle.sp_lending.proofs.WorkLemmas.{at-work-more, known-of, left-at, not-yet, turned-more}
use Rattle.sp_lending.specs.declared.working.Left.TheVariants as left
use Rattle.sp_lending.proofs.parts.Parts.take_turns.Goals as goal

pub turn-requires-clause-own : goal.turn-requires-clause-own
turn-requires-clause-own c = c.loop-turn.invariant.0

pub turn-requires-clause-known : goal.turn-requires-clause-known
turn-requires-clause-known c =
    let k = c.requires.known in
    known-of k.setting k.state c.args.task.hand.task.id c.loop-turn._turn c.loop-turn.self c.loop-turn.task
    (c.loop-turn.invariant.1 k.setting k.state c.args.task.hand.task.id (not-yet k.setting k.state c.args.self.now c.args.task k.is k.of))

pub loop-turn-init : goal.loop-turn-init
loop-turn-init c = (c.requires.own, λ g s id w. w)

pub loop-turn-preserved : goal.loop-turn-preserved
loop-turn-preserved c =
    let i = c.loop-turn._turn in
    let new = c.turn.new.self in
    let task = c.turn.new.task in (
      c.turn.ensures.own,
      λ g s id w. at-work-more g s id (suc i) (i + 1) new task (omega arith) (left-at g s id i new task c.turn.result left.GoesOn c.in-GoesOn.is (c.turn.ensures.left g s id i (c.loop-turn.invariant.1 g s id w))),
    )

pub wait-requires-clause-known : goal.wait-requires-clause-known
wait-requires-clause-known c =
    let k = c.requires.known in
    let id = c.args.task.hand.task.id in
    let i = c.loop-turn._turn in
    let w = c.loop-turn.invariant.1 k.setting k.state id (not-yet k.setting k.state c.args.self.now c.args.task k.is k.of) in
    known-of k.setting k.state id i c.turn.new.self c.turn.new.task
    (left-at k.setting k.state id i c.turn.new.self c.turn.new.task c.turn.result left.AtCall c.in-AtCall.is (c.turn.ensures.left k.setting k.state id i w))

pub returns-in-AtCall-clause-turned : goal.returns-in-AtCall-clause-turned
returns-in-AtCall-clause-turned c = λ g s id w.
    let i = c.loop-turn._turn in
    let after = left-at g s id i c.turn.new.self c.turn.new.task c.turn.result left.AtCall c.in-AtCall.is (c.turn.ensures.left g s id i (c.loop-turn.invariant.1 g s id w)) in
    turned-more g s id (suc i) c.args.turns c.wait.new.self c.wait.result (omega (arith, c.loop-turn-test.true)) (c.wait.ensures.turned g s id i after)

pub returns-in-Ended-clause-turned : goal.returns-in-Ended-clause-turned
returns-in-Ended-clause-turned c = λ g s id w.
    let i = c.loop-turn._turn in
    let after = left-at g s id i c.turn.new.self c.turn.new.task c.turn.result left.Ended c.in-Ended.is (c.turn.ensures.left g s id i (c.loop-turn.invariant.1 g s id w)) in
    turned-more g s id (suc i) c.args.turns c.end.new.self c.end.result (omega (arith, c.loop-turn-test.true)) (c.end.ensures.turned g s id i after)

pub returns-in-Refused-clause-turned : goal.returns-in-Refused-clause-turned
returns-in-Refused-clause-turned c = λ g s id w.
    let i = c.loop-turn._turn in
    at-work-more g s id (suc i) c.args.turns c.turn.new.self c.turn.new.task (omega (arith, c.loop-turn-test.true))
    (left-at g s id i c.turn.new.self c.turn.new.task c.turn.result (left.Refused c.in-Refused.fault) c.in-Refused.is (c.turn.ensures.left g s id i (c.loop-turn.invariant.1 g s id w)))

pub returns-clause-own : goal.returns-clause-own
returns-clause-own c = c.loop-turn.invariant.0

pub returns-clause-turned : goal.returns-clause-turned
returns-clause-turned c = λ g s id w. at-work-more g s id c.loop-turn._turn c.args.turns c.loop-turn.self c.loop-turn.task c.loop-turn.auto._turn-end (c.loop-turn.invariant.1 g s id w)
