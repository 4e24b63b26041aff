use Rattle.vm_laws.proofs.Subjects
use Rattle.vm_laws.proofs.worlds.checked_sets_are_typed.Goals as goal

pub returns : goal.returns
returns c = Subjects.typed
