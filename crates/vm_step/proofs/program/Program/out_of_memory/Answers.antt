use Rattle.vm_act.specs.declared.ending.Thrown.TheVariants.{OutOfMemoryError}
use Rattle.vm_step.proofs.program.Program.out_of_memory.Goals as goal

pub returns : goal.returns
returns c = c.thrown.ensures.named OutOfMemoryError
