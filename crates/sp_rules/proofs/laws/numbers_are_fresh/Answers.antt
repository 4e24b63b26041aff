use Rattle.sp_rules.proofs.NumberLemmas
use Rattle.sp_rules.proofs.laws.numbers_are_fresh.Goals as goal

pub returns : goal.returns
returns c = NumberLemmas.numbers_are_fresh
