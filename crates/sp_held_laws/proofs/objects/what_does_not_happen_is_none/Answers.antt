use Rattle.sp_held_laws.proofs.NoneLemmas
use Rattle.sp_held_laws.proofs.objects.what_does_not_happen_is_none.Goals as goal

pub returns : goal.returns
returns c = NoneLemmas.what_does_not_happen_is_none
