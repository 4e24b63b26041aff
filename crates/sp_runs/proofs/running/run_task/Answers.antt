use Rattle.std.proofs.Common.{◌≡◌, ◌∙◌, Option, ap, arith, subst}
use Rattle.std.specs.Prelude.{IfSome}
use Rattle.cls_link.specs.Links.{Links}
use Rattle.vm_step.specs.Run.{State, run}
use Rattle.vm_step.specs.Task.{IsOutcome, Tasked, fuel_left}
use Rattle.vm_step.specs.declared.outcome.Outcome.{Outcome}
use Rattle.sp_runs.proofs.Ended.{ended_by_one_more, none_told}
use Rattle.sp_runs.proofs.running.run_task.Goals as goal

pub unreachable-requires : goal.unreachable-requires
unreachable-requires c =
    let last : c.run-2.new.self.state ≡ run c.args.program.now 1 c.run.new.self.state = ap (λ (t : Tasked). t.state) c.run-2.ensures.task in
    absurd (none_told c.in_ok-told.told c.in-None.is ((c.in_ok-told.ensures).over
    (ended_by_one_more c.args.program.now c.run.new.self.state c.run-2.new.self.state (fuel_left c.args.task.now.state) 18446744073709551615 c.requires.plain
    (λ turn. c.run.ensures.turn (c.run.ensures.pause ∙ turn)) (omega (arith, c.requires.fuel)) c.run.ensures.never_stuck c.run-2.ensures.never_stuck last c.run-2.ensures.stopped)))

pub returns-clause-ended : goal.returns-clause-ended
returns-clause-ended c =
    let program : Links = c.args.program.now in
    let ended = subst (λ (o : Option Outcome). IfSome o (IsOutcome c.run-2.new.self.program.classes c.run-2.new.self.state)) c.in-Some.is (c.in_ok-told.ensures).ending in
    let last = subst (λ (t : Tasked). IsOutcome t.program.classes t.state c.in-Some.outcome) c.run-2.ensures.task ended in
    let further = subst (λ (s : State). IsOutcome c.run.new.self.program.classes s c.in-Some.outcome) (c.run.ensures.further 1) last in
    let first = subst (λ (t : Tasked). IsOutcome t.program.classes (run program 18446744073709551616 c.args.task.now.state) c.in-Some.outcome) c.run.ensures.task further in
    let over = subst (λ (p : Links). IsOutcome p.classes (run program 18446744073709551616 c.args.task.now.state) c.in-Some.outcome) c.requires.program first in
    (c.in-Some.outcome, over, c.in_ok-named-in-Some.ensures)
