use Rattle.std.proofs.Common.{◌∙◌}
use Rattle.std.specs.Prelude.{slice_get}
use Rattle.sp_pipes.specs.Connections.{end_of}
use Rattle.sp_world.proofs.MakeLemmas.{shown-queued, still-wired}
use Rattle.sp_world.proofs.world.World.queued.Goals as goal

pub returns : goal.returns
returns g c = λ w h. c.is_queued.ensures w.pipes (still-wired g.S.WorldSpace.is_space w c.args.self.now c.requires h).pipes ∙ shown-queued (slice_get w.pipes c.args.conn) (end_of c.args.to)
