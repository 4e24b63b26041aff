use Rattle.vm_step.proofs.Outcomes.{nowhere}
use Rattle.vm_step.proofs.task.Task.told.Goals as goal

pub unreachable-requires : goal.unreachable-requires
unreachable-requires c = nowhere c.args.ending _ _ c.requires c.in-ReturnedReference.is c.in-Some.is
