use Rattle.std.proofs.Common.{sym}
use Rattle.sp_state.proofs.SpaceLemmas.{opening-numbered}
use Rattle.sp_state.proofs.space_state.SpaceState.new.Goals as goal

pub returns : goal.returns
returns c = λ g own spoken said. record { id = sym own; version = sym spoken; digest = sym said; numbers = opening-numbered; owner = c.in_ok-owner.ensures g own; living = c.in_ok-living.ensures g own }
