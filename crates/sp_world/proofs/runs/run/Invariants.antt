use Rattle.std.proofs.Common.{map, take}
use Rattle.sp_rules.specs.Worlds.{World, run}
use Rattle.sp_world.specs.Happenings.{happening_of}
use Rattle.sp_world.specs.Waitings.{IsWorld}
use Rattle.sp_world.proofs.runs.run.Given as goal

abbrev pub invariant-loop-made : goal.invariant-loop-made
invariant-loop-made g l = (w : World) → IsWorld g.S.WorldSpace.is_space w l.initial.world → IsWorld g.S.WorldSpace.is_space (run w (take l.made (map happening_of l.events))) l.world
