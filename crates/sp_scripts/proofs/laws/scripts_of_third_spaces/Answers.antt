use Rattle.sp_scripts.proofs.ThirdSpacesPlays
use Rattle.sp_scripts.proofs.laws.scripts_of_third_spaces.Goals as goal

pub returns : goal.returns
returns c = record { third_space = ThirdSpacesPlays.third_space; third_space_swept = ThirdSpacesPlays.third_space_swept; fetch_through_third = ThirdSpacesPlays.fetch_through_third; fresh_round_trip = ThirdSpacesPlays.fresh_round_trip; entry_before_start = ThirdSpacesPlays.entry_before_start }
