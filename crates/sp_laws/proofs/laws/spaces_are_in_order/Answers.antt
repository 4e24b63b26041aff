use Rattle.sp_laws.proofs.SpaceLemmas
use Rattle.sp_laws.proofs.laws.spaces_are_in_order.Goals as goal

pub returns : goal.returns
returns c = SpaceLemmas.spaces_are_in_order
