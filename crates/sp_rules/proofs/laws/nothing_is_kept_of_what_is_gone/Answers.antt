use Rattle.sp_rules.proofs.StandingLemmas
use Rattle.sp_rules.proofs.laws.nothing_is_kept_of_what_is_gone.Goals as goal

pub returns : goal.returns
returns c = record { names = StandingLemmas.names_stand; entries = StandingLemmas.entries_stand }
