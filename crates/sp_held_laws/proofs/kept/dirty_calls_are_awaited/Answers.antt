use Rattle.sp_held_laws.proofs.GrantLaws
use Rattle.sp_held_laws.proofs.kept.dirty_calls_are_awaited.Goals as goal

pub returns : goal.returns
returns c = GrantLaws.dirty_calls_are_awaited c.holders_are_counted.ensures
