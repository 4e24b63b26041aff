use Rattle.std.proofs.Common.{◌≡◌, ap, subst, ◌∙◌}
use Rattle.cls_link.specs.Links.{Links}
use Rattle.vm_step.specs.Run.{Waits, IsCrossing, IsNeverStuck}
use Rattle.vm_step.specs.Task.{Tasked, phase_state}
use Rattle.vm_step.proofs.Runs.{at_once}
use Rattle.vm_step.proofs.task.Task.arguments.Goals as goal

pub passed-requires : goal.passed-requires
passed-requires c =
    let links : Links = c.self.inside.program.value in
    let w = c.in-Waiting in
    let safe = subst (IsNeverStuck links) (ap phase_state w.is) c.self.invariant.never_stuck in
    let same : links ≡ c.args.program.now = ap (λ (t : Tasked). t.program) c.self.view_is ∙ c.requires in
    subst (λ (x : Links). IsCrossing x.classes w.asked w.machine) same (at_once links (Waits w.asked w.machine w.field-2) safe).2
