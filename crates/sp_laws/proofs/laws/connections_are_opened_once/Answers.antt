use Rattle.sp_laws.proofs.OnceRules
use Rattle.sp_laws.proofs.laws.connections_are_opened_once.Goals as goal

pub returns : goal.returns
returns c = OnceRules.connections_are_opened_once
