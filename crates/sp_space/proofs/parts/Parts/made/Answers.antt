use Rattle.std.proofs.Common.{◌≡◌, inl, [], sym, ap, subst, ◌∙◌}
use Rattle.sp_tasks.specs.Recorded.{Recorded}
use Rattle.sp_core.specs.Hands.{finished, given_back}
use Rattle.sp_machines.specs.declared.task_machine.Next.TheVariants as next
use Rattle.sp_space.proofs.HandLemmas.{made-fits, made-hand}
use Rattle.sp_space.proofs.NextLemmas.{idle, last-step, made-ended, own-step}
use Rattle.sp_machines.proofs.ResultLemmas.{if-err, if-ok, on-err}
use Rattle.sp_space.proofs.StepLemmas.{event-refused, one-event}
use Rattle.sp_space.proofs.parts.Parts.made.Goals as goal

-- the hand counts it
pub ran-requires : goal.ran-requires
ran-requires c =
    let k = c.requires.known in
    made-fits k.setting k.history c.args.self.now c.args.hand c.args.outcome k.is c.fuel-fuel.result (c.fuel-fuel.ensures ∙ ap (λ (r : Recorded). r.began.fuel) c.record.ensures) c.fuel-fuel.type_inv

pub returns-in-Some-clause-done : goal.returns-in-Some-clause-done
returns-in-Some-clause-done c =
    if-ok c.end.result _ _ (λ outputs done. λ g h n.
    let space = c.args.self.now in
    let hand = c.args.hand in
    let after = c.ran.new.self in
    one-event g h hand.task.id n.living (finished after.task) c.end.new.self _ n.lives (idle g h space hand (next.Made c.args.outcome) n) (last-step g h space hand after c.args.outcome c.in-Some.outcome n c.in-Some.is c.ran.ensures.task)
    (done g h (made-ended g h space hand after c.args.outcome c.in-Some.outcome n c.in-Some.is c.ran.ensures.task (c.ran.ensures.own space.core c.requires.own)))) c.end.ensures.done

pub returns-in-Some-clause-refused : goal.returns-in-Some-clause-refused
returns-in-Some-clause-refused c =
    if-err c.end.result _ _ (λ fault refused. λ g h n.
    let space = c.args.self.now in
    let hand = c.args.hand in
    let after = c.ran.new.self in
    event-refused g h hand.task.id n.living (finished after.task) [] fault n.lives (idle g h space hand (next.Made c.args.outcome) n) (last-step g h space hand after c.args.outcome c.in-Some.outcome n c.in-Some.is c.ran.ensures.task)
    (refused g h (made-ended g h space hand after c.args.outcome c.in-Some.outcome n c.in-Some.is c.ran.ensures.task (c.ran.ensures.own space.core c.requires.own)))) c.end.ensures.refused

pub returns-in-Some-clause-same : goal.returns-in-Some-clause-same
returns-in-Some-clause-same c = on-err c.end.result _ _ (λ same. λ g h n. same g h n.in_hand.stands) c.end.ensures.same

pub returns-in-None-clause-done : goal.returns-in-None-clause-done
returns-in-None-clause-done c = λ g h n.
    let space = c.args.self.now in
    let hand = c.args.hand in
    let after = c.ran.new.self in
    one-event g h hand.task.id n.living (given_back after.task) c.go_on.new.self _ n.lives (idle g h space hand (next.Made c.args.outcome) n) (own-step g h space hand after c.args.outcome n c.in-None.is c.ran.ensures.task)
    (c.go_on.ensures.goes g h (made-hand g h space hand after c.args.outcome n c.ran.ensures.task (c.ran.ensures.own space.core c.requires.own)))
