use Rattle.sp_machines.proofs.PlayedLemmas.{waits-for}
use Rattle.sp_machines.proofs.ResultLemmas.{if-ok}
use Rattle.sp_machines.proofs.task_machine.TaskMachine.awaited.Goals as goal

pub returns : goal.returns
returns c = if-ok c.op.result _ _ (λ op tells. waits-for c.args.self.now c.args.asked.now op c.requires tells) c.op.ensures
