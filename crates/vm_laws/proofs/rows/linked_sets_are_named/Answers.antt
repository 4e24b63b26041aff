use Rattle.vm_laws.proofs.AsRead.{as_read}
use Rattle.vm_laws.proofs.Named.{named}
use Rattle.vm_laws.proofs.rows.linked_sets_are_named.Goals as goal

pub returns : goal.returns
returns c = λ links frames are typed. named links frames are typed (as_read links.classes are.set)
