use Rattle.sp_laws.proofs.OwingLemmas
use Rattle.sp_laws.proofs.laws.leases_owe_their_end.Goals as goal

pub returns : goal.returns
returns c = OwingLemmas.leases_owe_their_end
