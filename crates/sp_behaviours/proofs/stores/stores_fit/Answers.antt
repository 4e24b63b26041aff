use Rattle.sp_behaviours.proofs.StoreLemmas
use Rattle.sp_behaviours.proofs.stores.stores_fit.Goals as goal

pub returns : goal.returns
returns c = StoreLemmas.stores_fit
