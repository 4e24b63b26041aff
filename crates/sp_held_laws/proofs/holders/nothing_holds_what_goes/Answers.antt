use Rattle.sp_held_laws.proofs.GuardLemmas
use Rattle.sp_held_laws.proofs.holders.nothing_holds_what_goes.Goals as goal

pub returns : goal.returns
returns c = GuardLemmas.nothing_holds_what_goes
