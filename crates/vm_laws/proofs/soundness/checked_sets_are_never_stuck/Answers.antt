use Rattle.vm_laws.proofs.Starts
use Rattle.vm_laws.proofs.soundness.checked_sets_are_never_stuck.Goals as goal

pub returns : goal.returns
returns c = Starts.checked
