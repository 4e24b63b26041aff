use Rattle.std.proofs.Common.{[]}
use Rattle.sp_core.specs.Hands.{finished}
use Rattle.sp_space.proofs.HandLemmas.{ended-hand}
use Rattle.sp_space.proofs.NextLemmas.{ended-step, idle}
use Rattle.sp_machines.proofs.ResultLemmas.{if-err, if-ok, on-err}
use Rattle.sp_space.proofs.StepLemmas.{event-refused, one-event}
use Rattle.sp_machines.specs.declared.task_machine.Next.TheVariants as next
use Rattle.sp_space.proofs.parts.Parts.finish.Goals as goal

pub returns-clause-done : goal.returns-clause-done
returns-clause-done c =
    if-ok c.end.result _ _ (λ outputs done. λ g h n.
    let space = c.args.self.now in
    let hand = c.args.hand in
    one-event g h hand.task.id n.living (finished hand.task) c.end.new.self _ n.lives (idle g h space hand (next.Ended c.args.outcome) n) (ended-step g h space hand c.args.outcome n)
    (done g h (ended-hand g h space hand c.args.outcome n).0)) c.end.ensures.done

pub returns-clause-refused : goal.returns-clause-refused
returns-clause-refused c =
    if-err c.end.result _ _ (λ fault refused. λ g h n.
    let space = c.args.self.now in
    let hand = c.args.hand in
    event-refused g h hand.task.id n.living (finished hand.task) [] fault n.lives (idle g h space hand (next.Ended c.args.outcome) n) (ended-step g h space hand c.args.outcome n)
    (refused g h (ended-hand g h space hand c.args.outcome n).0)) c.end.ensures.refused

pub returns-clause-same : goal.returns-clause-same
returns-clause-same c = on-err c.end.result _ _ (λ same. λ g h n. same g h n.in_hand.stands) c.end.ensures.same
