use Rattle.sp_machines.proofs.PlayedLemmas.{ended-told}
use Rattle.sp_machines.proofs.ResultLemmas.{if-ok}
use Rattle.sp_machines.proofs.task_machine.TaskMachine.end.Goals as goal

pub returns : goal.returns
returns c = if-ok c.outcome.result _ _ (λ told ends. ended-told c.args.self.now told ends) c.outcome.ensures
