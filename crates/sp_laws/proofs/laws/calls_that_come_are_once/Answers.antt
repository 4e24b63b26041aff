use Rattle.sp_laws.proofs.InboundLemmas
use Rattle.sp_laws.proofs.laws.calls_that_come_are_once.Goals as goal

pub returns : goal.returns
returns c = InboundLemmas.calls_that_come_are_once
