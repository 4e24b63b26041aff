use Rattle.cls_laws.proofs.Links.{one_linking}
use Rattle.cls_laws.proofs.laws.one_linking.Goals as goal

pub returns : goal.returns
returns c = one_linking
