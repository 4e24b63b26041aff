use Rattle.std.proofs.Common.{◌-◌, drop, length, map}
use Rattle.sp_rules.specs.Worlds.{World}
use Rattle.sp_outputs.specs.Notes.{output_of}
use Rattle.sp_world.specs.Waitings.{Awaits}
use Rattle.sp_world.proofs.wiring.Wiring.put_all.Given as goal

abbrev pub invariant-outputs : goal.invariant-outputs
invariant-outputs l = (w : World) → Awaits w l.writer (drop l.initial.next (map output_of l.row)) l.initial.self → Awaits w l.writer (drop l.next (map output_of l.row)) l.self

abbrev pub decreases-outputs : goal.decreases-outputs
decreases-outputs l = length l.row - l.next
