use Rattle.sp_scripts.proofs.BadLinesPlays
use Rattle.sp_scripts.proofs.laws.scripts_of_bad_lines.Goals as goal

pub returns : goal.returns
returns c = record { bad_lookup_self = BadLinesPlays.bad_lookup_self; bad_root_kind = BadLinesPlays.bad_root_kind; bad_root_no_holder = BadLinesPlays.bad_root_no_holder; lapsed_lease_is_no_root_argument = BadLinesPlays.lapsed_lease_is_no_root_argument; bad_space = BadLinesPlays.bad_space }
