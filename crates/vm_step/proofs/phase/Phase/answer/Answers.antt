use Rattle.std.proofs.Common.{◌<◌, ap, subst, sym, ◌∙◌}
use Rattle.vm_step.specs.Run.{State, IsNeverStuck}
use Rattle.vm_step.specs.Task.{fuel_left, phase_state}
use Rattle.vm_step.proofs.Runs.{IsNeverStuck-answer, answer-fuel, answer-spends}
use Rattle.vm_step.proofs.phase.Phase.answer.Goals as goal

pub returns-clause-never_stuck : goal.returns-clause-never_stuck
returns-clause-never_stuck c =
    subst (IsNeverStuck c.args.program.now) (sym c.answered.ensures) (IsNeverStuck-answer c.args.program.now c.args.reply (phase_state c.args.self) c.requires.safe c.requires.due)

pub returns-clause-fuel : goal.returns-clause-fuel
returns-clause-fuel c =
    ap fuel_left c.answered.ensures ∙ answer-fuel c.args.program.now c.args.reply (phase_state c.args.self) c.requires.safe c.requires.due

pub returns-clause-spent : goal.returns-clause-spent
returns-clause-spent c =
    subst (λ (s : State). fuel_left s < fuel_left (phase_state c.args.self)) (sym c.answered.ensures)
    (answer-spends c.args.program.now c.args.reply (phase_state c.args.self) c.requires.safe c.requires.due)
