use Rattle.sp_laws.proofs.LookupLemmas
use Rattle.sp_laws.proofs.calls.lookups_end_as_named.Goals as goal

pub returns : goal.returns
returns c = LookupLemmas.lookups_end_as_named
