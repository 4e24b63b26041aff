use Rattle.sp_behaviours.proofs.FieldLemmas
use Rattle.sp_behaviours.proofs.stores.held_objects_stand.Goals as goal

pub returns : goal.returns
returns c = FieldLemmas.held_objects_stand
