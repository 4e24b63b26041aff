use Rattle.std.proofs.Common.{◌≡◌, ◌∙◌, ap, sym, subst}
use Rattle.vm_step.specs.Run.{State, over, IsNeverStuck}
use Rattle.vm_step.specs.Task.{Tasked, GivesInts, last_end, outcome_at, phase_state}
use Rattle.vm_step.proofs.Outcomes.{end_there, given_over, is_outcome, on_err}
use Rattle.vm_step.proofs.task.Task.outcome.Goals as goal

pub told_last-requires : goal.told_last-requires
told_last-requires c =
    end_there c.self.inside.program.value (phase_state c.self.inside.phase) _ _ c.self.invariant.never_stuck (ap phase_state c.in-Over.is)

pub returns-in_ok-told_last-in-Over-clause-ending : goal.returns-in_ok-told_last-in-Over-clause-ending
returns-in_ok-told_last-in-Over-clause-ending c =
    let safe : IsNeverStuck c.args.self.now.program c.args.self.now.state = subst (λ (t : Tasked). IsNeverStuck t.program t.state) c.self.view_is c.self.invariant.never_stuck in
    let is : c.args.self.now.state ≡ over (last_end c.in-Over.last) c.in-Over.field-1 = sym (ap (λ (t : Tasked). t.state) c.self.view_is) ∙ ap phase_state c.in-Over.is in
    (is_outcome c.args.self.now.program c.args.self.now.state (last_end c.in-Over.last) c.in-Over.field-1 c.in_ok-told_last-in-Over.field-0 safe is c.in_ok-told_last-in-Over.ensures.told).ending

pub returns-in_ok-told_last-in-Over-clause-of_set : goal.returns-in_ok-told_last-in-Over-clause-of_set
returns-in_ok-told_last-in-Over-clause-of_set c =
    let safe : IsNeverStuck c.args.self.now.program c.args.self.now.state = subst (λ (t : Tasked). IsNeverStuck t.program t.state) c.self.view_is c.self.invariant.never_stuck in
    let is : c.args.self.now.state ≡ over (last_end c.in-Over.last) c.in-Over.field-1 = sym (ap (λ (t : Tasked). t.state) c.self.view_is) ∙ ap phase_state c.in-Over.is in
    (is_outcome c.args.self.now.program c.args.self.now.state (last_end c.in-Over.last) c.in-Over.field-1 c.in_ok-told_last-in-Over.field-0 safe is c.in_ok-told_last-in-Over.ensures.told).of_set

pub returns-in_err-told_last-in-Over-clause-memory : goal.returns-in_err-told_last-in-Over-clause-memory
returns-in_err-told_last-in-Over-clause-memory c =
    let is : c.args.self.now.state ≡ over (last_end c.in-Over.last) c.in-Over.field-1 = sym (ap (λ (t : Tasked). t.state) c.self.view_is) ∙ ap phase_state c.in-Over.is in
    on_err c.from_residual.result (subst (λ (s : State). GivesInts (outcome_at c.args.self.now.program.classes s)) (sym is)
    (given_over c.args.self.now.program.classes (last_end c.in-Over.last) c.in-Over.field-1 c.in_err-told_last-in-Over.ensures.memory))
