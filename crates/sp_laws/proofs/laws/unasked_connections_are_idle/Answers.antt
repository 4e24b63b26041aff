use Rattle.sp_laws.proofs.IdleLemmas
use Rattle.sp_laws.proofs.laws.unasked_connections_are_idle.Goals as goal

pub returns : goal.returns
returns c = IdleLemmas.unasked_connections_are_idle
