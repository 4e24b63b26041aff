use Rattle.std.proofs.Common.{[], refl, subst, sym}
use Rattle.sp_rules.specs.Lists.{each}
use Rattle.sp_rules.specs.Worlds.{new_world}
use Rattle.sp_world.specs.Residents.{AreResidents}
use Rattle.sp_world.proofs.world.World.empty.Goals as goal

pub returns-clause-world : goal.returns-clause-world
unfolding each new_world
returns-clause-world g c = record {
  spaces = subst (AreResidents g.S.WorldSpace.is_space []) (sym c.new-residents.ensures.items) tt;
  refused = tt;
  waiting = record { base = new_world []; wired = c.new-wiring.ensures; is = refl };
}
