use Rattle.sp_laws.proofs.ShutLemmas
use Rattle.sp_laws.proofs.frames.connections_end.Goals as goal

pub returns : goal.returns
returns c = ShutLemmas.connections_end
