use Rattle.std.proofs.Common.{◌≡◌, true, List}
use Rattle.sp_rules.specs.Classes.{Setting}
use Rattle.sp_rules.specs.Worlds.{new_world}
use Rattle.sp_world.specs.Waitings.{AreNew, IsWorld, is_settled}
use Rattle.sp_world.proofs.world.World.new.Given as goal

abbrev pub invariant-loop-space : goal.invariant-loop-space
invariant-loop-space g l = record {
  world : (settings : List Setting) → AreNew g.S.WorldSpace.is_space settings l.yielded → IsWorld g.S.WorldSpace.is_space (new_world settings) l.world;
  settled : is_settled l.world ≡ true;
}
