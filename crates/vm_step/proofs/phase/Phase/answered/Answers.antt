use Rattle.std.proofs.Common.{◌≡◌, ap, subst, sym, ◌∙◌}
use Rattle.vm_step.specs.Run.{Waits, answer, IsDue, IsNeverStuck}
use Rattle.vm_step.specs.Task.{phase_state}
use Rattle.vm_step.proofs.Runs.{at_once, can_complete}
use Rattle.vm_step.proofs.phase.Phase.answered.Goals as goal

pub complete-requires-clause-next : goal.complete-requires-clause-next
complete-requires-clause-next c =
    let was : phase_state c.args.self ≡ Waits c.in-Waiting.asked c.in-Waiting.machine c.in-Waiting.fuel = ap phase_state c.in-Waiting.is in
    let safe = subst (IsNeverStuck c.args.program.now) was c.requires.safe in
    let here = (at_once c.args.program.now (Waits c.in-Waiting.asked c.in-Waiting.machine c.in-Waiting.fuel) safe).1 in
    rw (c.instructions-code.ensures, c.method.ensures, c.linked.ensures.linked) here

pub complete-requires-clause-fits : goal.complete-requires-clause-fits
complete-requires-clause-fits c =
    let was : phase_state c.args.self ≡ Waits c.in-Waiting.asked c.in-Waiting.machine c.in-Waiting.fuel = ap phase_state c.in-Waiting.is in
    can_complete c.args.program.now c.args.reply c.in-Waiting.asked c.in-Waiting.machine c.in-Waiting.fuel
    (subst (IsNeverStuck c.args.program.now) was c.requires.safe) (subst (IsDue c.args.program.now.classes c.args.reply) was c.requires.due)

pub returns-in-Waiting : goal.returns-in-Waiting
unfolding answer
returns-in-Waiting c =
    let was : phase_state c.args.self ≡ Waits c.in-Waiting.asked c.in-Waiting.machine c.in-Waiting.fuel = ap phase_state c.in-Waiting.is in
    c.complete.ensures ∙ sym (ap (answer c.args.reply) was)
