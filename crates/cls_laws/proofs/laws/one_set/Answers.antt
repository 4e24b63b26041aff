use Rattle.cls_laws.proofs.Sets.{one_set}
use Rattle.cls_laws.proofs.laws.one_set.Goals as goal

pub returns : goal.returns
returns c = one_set
