use Rattle.sp_rules.proofs.OwnLemmas
use Rattle.sp_rules.proofs.laws.own_references_stand.Goals as goal

pub returns : goal.returns
returns c = OwnLemmas.own_references_stand
