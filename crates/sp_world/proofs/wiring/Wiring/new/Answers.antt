use Rattle.std.proofs.Common.{ap, sym}
use Rattle.std.specs.Map.{lookup}
use Rattle.std.specs.Str.{bytes_eq}
use Rattle.sp_rules.specs.Worlds.{new_world}
use Rattle.sp_world.proofs.wiring.Wiring.new.Goals as goal

pub returns : goal.returns
unfolding new_world
returns c = record {
  numbers = λ peer. ap (λ es. lookup (bytes_eq peer) es) c.new-numbers.ensures.empty;
  pipes = c.new-pipes.ensures;
  dials = sym c.new-dials.ensures;
}
