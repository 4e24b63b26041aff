use Rattle.sp_held_laws.proofs.PassesPlays
use Rattle.sp_held_laws.proofs.laws.a_held_reference_is_passed_on.Goals as goal

pub returns : goal.returns
returns c = PassesPlays.a_held_reference_is_passed_on c.a_reference_passes_where_nothing_fails.ensures
