use Rattle.sp_machine_laws.proofs.MachineLemmas
use Rattle.sp_machine_laws.proofs.laws.tasks_are_machines_in_worlds.Goals as goal

pub returns : goal.returns
returns c = MachineLemmas.tasks_are_machines_in_worlds
