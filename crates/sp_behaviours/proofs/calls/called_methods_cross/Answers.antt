use Rattle.sp_behaviours.proofs.NamedLemmas
use Rattle.sp_behaviours.proofs.calls.called_methods_cross.Goals as goal

pub returns : goal.returns
returns c = NamedLemmas.called_methods_cross
