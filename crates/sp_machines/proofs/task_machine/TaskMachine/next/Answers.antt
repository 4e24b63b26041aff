use Rattle.std.proofs.Common.{◌≡◌, true, false, None, ap, sym, subst, ◌∙◌}
use Rattle.std.specs.Prelude.{option_map}
use Rattle.sp_tasks.specs.Behaviours.{outcome_of}
use Rattle.vm_step.specs.Task.{pause_at}
use Rattle.sp_behaviours.specs.Follows.{is_over}
use Rattle.sp_machines.specs.Players.{IsLevel, Played, ended_in, end_in}
use Rattle.sp_machines.proofs.PlayedLemmas.{asks-level, ended-next, made-level, made-next, ran, ran-is}
use Rattle.sp_machines.proofs.task_machine.TaskMachine.next.Goals as goal

pub returns-then-self-clause-next : goal.returns-then-self-clause-next
returns-then-self-clause-next c = λ links g t level.
    let ahead : c.args.self.now.ahead ≡ true = ap (λ (p : Played). p.ahead) (sym c.self.view_is) ∙ c.if-self.true in
    let made = made-next links g t c.args.self.now c.in_ok-ended.field-0 level ahead c.in_ok-ended.ensures.ended c.in_ok-ended.ensures.over in
    (ahead, made.0, made.1, made.2)

pub returns-in-Some-clause-next : goal.returns-in-Some-clause-next
returns-in-Some-clause-next c = λ links g t level.
    let abreast : c.args.self.now.ahead ≡ false = ap (λ (p : Played). p.ahead) (sym c.self.view_is) ∙ c.if-self.false in
    (abreast, ended-next links g t c.args.self.now c.in-Some.outcome level abreast (ap (option_map outcome_of) (sym c.in-Some.is) ∙ c.in_ok-outcome.ensures))

pub returns-in-Ask-clause-level : goal.returns-in-Ask-clause-level
returns-in-Ask-clause-level c = λ links g t level.
    let p = c.args.self.now in
    let abreast : p.ahead ≡ false = ap (λ (p : Played). p.ahead) (sym c.self.view_is) ∙ c.if-self.false in
    let same = ran-is p c.self.inside.task c.run.new.self c.self.inside.taken c.self.inside.is_ahead c.self.inside.is_ahead c.self.inside.program.now c.self.view_is c.self.invariant c.run.ensures.task
    ∙ ap (λ b. ran b p) c.if-self.false in
    subst (IsLevel links g t) (sym same)
    (asks-level links g t p c.in-Ask.asked level abreast (c.in-Ask.ensures.pause ∙ ap (λ (q : Played). pause_at q.task.state) same))

pub returns-in_err-ended-in_default-run-clause-level : goal.returns-in_err-ended-in_default-run-clause-level
returns-in_err-ended-in_default-run-clause-level c = λ links g t level.
    let p = c.args.self.now in
    let abreast : p.ahead ≡ false = ap (λ (p : Played). p.ahead) (sym c.self.view_is) ∙ c.if-self.false in
    let same = ran-is p c.self.inside.task c.run.new.self c.self.inside.taken c.self.inside.is_ahead true c.self.inside.program.now c.self.view_is c.self.invariant c.run.ensures.task in
    let ends : None ≡ end_in p.task.program.classes p.task.state = ap (option_map outcome_of) (sym c.in_default.is) ∙ c.in_ok-outcome.ensures in
    subst (IsLevel links g t) (sym same)
    (made-level links g t p level abreast ends (λ op asks. c.in_default-run.not-Ask op (c.run.ensures.pause ∙ ap (λ (q : Played). pause_at q.task.state) same ∙ asks)))

pub returns-in_ok-ended-in_default-run : goal.returns-in_ok-ended-in_default-run
returns-in_ok-ended-in_default-run c =
    let p = c.args.self.now in
    let abreast : p.ahead ≡ false = ap (λ (p : Played). p.ahead) (sym c.self.view_is) ∙ c.if-self.false in
    let same = ran-is p c.self.inside.task c.run.new.self c.self.inside.taken c.self.inside.is_ahead true c.self.inside.program.now c.self.view_is c.self.invariant c.run.ensures.task in
    let ends : None ≡ end_in p.task.program.classes p.task.state = ap (option_map outcome_of) (sym c.in_default.is) ∙ c.in_ok-outcome.ensures in
    record {
      level = λ links g t level. subst (IsLevel links g t) (sym same)
          (made-level links g t p level abreast ends (λ op asks. c.in_default-run.not-Ask op (c.run.ensures.pause ∙ ap (λ (q : Played). pause_at q.task.state) same ∙ asks)));
      next = λ links g t level.
          let now = made-level links g t p level abreast ends (λ op asks. c.in_default-run.not-Ask op (c.run.ensures.pause ∙ ap (λ (q : Played). pause_at q.task.state) same ∙ asks)) in
          let made = made-next links g t (ran true p) c.in_ok-ended-in_default-run.field-0 now (λ j. true)
          (c.in_ok-ended-in_default-run.ensures.ended ∙ ap (λ (q : Played). ended_in q.task.program.classes q.task.state) same)
          (c.in_ok-ended-in_default-run.ensures.over ∙ ap (λ (q : Played). is_over q.task.state) same) in
          ((λ j. true), made.0, made.1, made.2);
      asked = tt;
    }
