use Rattle.cf_insns.proofs.Exact.{one_spelling}
use Rattle.cf_insns.proofs.laws.one_spelling.Goals as goal

pub returns : goal.returns
returns c = one_spelling
