use Rattle.std.proofs.Common.{ℕ, ap}
use Rattle.std.specs.Prelude.{nat_le}
use Rattle.sp_state.proofs.space_state.SpaceState.says_late.Goals as goal

pub returns : goal.returns
returns c = λ g s is. ap (λ (n : ℕ). nat_le 2 n) is.version
