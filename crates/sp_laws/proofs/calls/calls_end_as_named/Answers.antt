use Rattle.sp_laws.proofs.CallEndLemmas
use Rattle.sp_laws.proofs.calls.calls_end_as_named.Goals as goal

pub returns : goal.returns
returns c = CallEndLemmas.calls_end_as_named
