use Rattle.sp_laws.proofs.HeldCalls
use Rattle.sp_laws.proofs.laws.calls_are_held.Goals as goal

pub returns : goal.returns
returns c = HeldCalls.calls_are_held
