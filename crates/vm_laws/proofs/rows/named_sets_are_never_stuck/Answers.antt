use Rattle.vm_laws.proofs.AsRead.{as_read}
use Rattle.vm_laws.proofs.NeverStuck.{never_stuck, never_stuck_by_replies}
use Rattle.vm_laws.proofs.rows.named_sets_are_never_stuck.Goals as goal

pub returns : goal.returns
returns c = record {
  steps = λ links frames are typed. never_stuck links frames are typed (as_read links.classes are.set);
  replies = λ links frames are typed. never_stuck_by_replies links frames are typed (as_read links.classes are.set);
}
