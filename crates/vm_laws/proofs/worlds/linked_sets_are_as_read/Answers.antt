use Rattle.vm_laws.proofs.AsRead.{as_read}
use Rattle.vm_laws.proofs.worlds.linked_sets_are_as_read.Goals as goal

pub returns : goal.returns
returns c = λ links are. as_read links.classes are.set
