use Rattle.sp_held_laws.proofs.GrantLaws
use Rattle.sp_held_laws.proofs.kept.what_is_held_is_granted.Goals as goal

pub returns : goal.returns
returns c = GrantLaws.what_is_held_is_granted c.holders_are_counted.ensures
