use Rattle.sp_held_laws.proofs.WholeLemmas
use Rattle.sp_held_laws.proofs.objects.what_is_seen_stays_whole.Goals as goal

pub returns : goal.returns
returns c = WholeLemmas.what_is_seen_stays_whole
