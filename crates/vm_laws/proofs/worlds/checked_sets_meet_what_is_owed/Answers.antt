use Rattle.vm_laws.proofs.AsRead.{as_read}
use Rattle.vm_laws.proofs.Owing.{owed}
use Rattle.vm_laws.proofs.worlds.checked_sets_meet_what_is_owed.Goals as goal

pub returns : goal.returns
returns c = λ links frames are typed. owed links frames are typed (as_read links.classes are.set)
