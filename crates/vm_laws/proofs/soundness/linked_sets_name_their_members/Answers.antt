use Rattle.vm_laws.proofs.AsRead.{as_read}
use Rattle.vm_laws.proofs.Members.{members}
use Rattle.vm_laws.proofs.soundness.linked_sets_name_their_members.Goals as goal

pub returns : goal.returns
returns c = λ links frames are typed. members links frames are typed (as_read links.classes are.set)
