use Rattle.std.proofs.Common.{subst, sym}
use Rattle.sp_rules.specs.State.{opening}
use Rattle.sp_state.specs.Spaces.{IsSpace}
use Rattle.sp_state.specs.declared.space_state.SpaceState.{SpaceState}
use Rattle.sp_core.proofs.RestLemmas.{opening-rest}
use Rattle.sp_core.proofs.space_core.SpaceCore.with_hashes.Goals as goal

pub returns : goal.returns
returns c = λ g id digest fuel version. record {
  id = sym id;
  fuel = sym fuel;
  state = subst (λ (x : SpaceState). IsSpace g opening x) (sym c.in_ok-state.ensures) (c.in_ok-first.ensures g id version digest);
  spare = tt;
  rest = opening-rest;
}
