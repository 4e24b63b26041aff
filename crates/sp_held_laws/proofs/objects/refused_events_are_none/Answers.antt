use Rattle.sp_held_laws.proofs.NoneLemmas
use Rattle.sp_held_laws.proofs.objects.refused_events_are_none.Goals as goal

pub returns : goal.returns
returns c = NoneLemmas.refused_events_are_none
