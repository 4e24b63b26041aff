use Rattle.ver_check.proofs.Typings.{one_typing}
use Rattle.ver_check.proofs.laws.one_typing.Goals as goal

pub returns : goal.returns
returns c = one_typing
