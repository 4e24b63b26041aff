use Rattle.sp_held_laws.proofs.ResultLemmas
use Rattle.sp_held_laws.proofs.holders.results_are_held.Goals as goal

pub returns : goal.returns
returns c = ResultLemmas.results_are_held
