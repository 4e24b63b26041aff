use Rattle.sp_held_laws.proofs.QuietPlays
use Rattle.sp_held_laws.proofs.runs.a_reference_passes_where_nothing_fails.Goals as goal

pub returns : goal.returns
returns c = QuietPlays.a_reference_passes_where_nothing_fails
