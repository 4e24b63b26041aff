use Rattle.sp_laws.proofs.SilentLemmas
use Rattle.sp_laws.proofs.frames.ended_connections_are_silent.Goals as goal

pub returns : goal.returns
returns c = SilentLemmas.ended_connections_are_silent
