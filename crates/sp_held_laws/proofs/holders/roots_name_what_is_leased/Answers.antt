use Rattle.sp_held_laws.proofs.GuardLemmas
use Rattle.sp_held_laws.proofs.holders.roots_name_what_is_leased.Goals as goal

pub returns : goal.returns
returns c = GuardLemmas.roots_name_what_is_leased
