use Rattle.sp_order_laws.proofs.TurnLemmas
use Rattle.sp_order_laws.proofs.hellos.hellos_are_said_first.Goals as goal

pub returns : goal.returns
returns c = TurnLemmas.hellos_are_said_first
