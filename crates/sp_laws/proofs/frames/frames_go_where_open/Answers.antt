use Rattle.sp_laws.proofs.OpenLemmas
use Rattle.sp_laws.proofs.frames.frames_go_where_open.Goals as goal

pub returns : goal.returns
returns c = OpenLemmas.frames_go_where_open
