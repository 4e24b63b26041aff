use Rattle.vm_laws.proofs.AsRead.{as_read}
use Rattle.vm_laws.proofs.Callees.{callee_agrees, plain_callee_agrees}
use Rattle.vm_laws.proofs.worlds.callees_are_of_their_types.Goals as goal

pub returns : goal.returns
returns c = record {
  any = λ links frames are. callee_agrees links frames are (as_read links.classes are.set);
  plain = λ links frames are. plain_callee_agrees links frames are (as_read links.classes are.set);
}
