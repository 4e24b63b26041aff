use Rattle.sp_behaviours.proofs.ReferenceLemmas
use Rattle.sp_behaviours.proofs.stores.references_are_remote.Goals as goal

pub returns : goal.returns
returns c = ReferenceLemmas.references_are_remote
