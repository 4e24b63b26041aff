use Rattle.std.proofs.Common.{refl}
use Rattle.sp_state.proofs.SpaceLemmas.{quiet}
use Rattle.sp_state.proofs.space_state.SpaceState.lend.Goals as goal

pub returns-clause-same : goal.returns-clause-same
returns-clause-same c = λ g s is. quiet g s s c.args.self.now c.lend.new.self refl (c.lend.ensures.same g s is.living) is
