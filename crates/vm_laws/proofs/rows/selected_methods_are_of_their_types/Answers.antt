use Rattle.vm_laws.proofs.AsRead.{as_read}
use Rattle.vm_laws.proofs.RowsCallees.{selects, selects_interface}
use Rattle.vm_laws.proofs.rows.selected_methods_are_of_their_types.Goals as goal

pub returns : goal.returns
returns c = record {
  classes = λ links frames are. selects links frames are (as_read links.classes are.set);
  interfaces = λ links frames are. selects_interface links frames are (as_read links.classes are.set);
}
