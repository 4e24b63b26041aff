use Rattle.vm_laws.proofs.AsRead.{as_read}
use Rattle.vm_laws.proofs.LookUps.{held, kept_at}
use Rattle.vm_laws.proofs.worlds.fields_are_of_their_types.Goals as goal

pub returns : goal.returns
returns c = record { held = λ classes set. held classes (as_read classes set); kept = kept_at }
