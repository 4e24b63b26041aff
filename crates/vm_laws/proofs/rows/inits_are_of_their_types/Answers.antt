use Rattle.vm_laws.proofs.AsRead.{as_read}
use Rattle.vm_laws.proofs.RowsCallees.{init_runs}
use Rattle.vm_laws.proofs.rows.inits_are_of_their_types.Goals as goal

pub returns : goal.returns
returns c = λ links frames are. init_runs links frames are (as_read links.classes are.set)
