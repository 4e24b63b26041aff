use Rattle.std.proofs.Common.{ap, ◌∙◌}
use Rattle.vm_step.specs.Task.{pause_at}
use Rattle.sp_machines.specs.Players.{Played}
use Rattle.sp_machines.proofs.PlayedLemmas.{asks-in}
use Rattle.sp_machines.proofs.task_machine.TaskMachine.asked.Goals as goal

pub returns-in-Ask : goal.returns-in-Ask
returns-in-Ask c = asks-in c.in-Ask.asked c.args.self.now.task.state (c.in-Ask.ensures ∙ ap (λ (p : Played). pause_at p.task.state) c.self.view_is)
