use Rattle.vm_laws.proofs.SoundCallees as Callees
use Rattle.vm_laws.proofs.soundness.methods_with_code_are_called.Goals as goal

pub returns : goal.returns
returns c = Callees.called
