use Rattle.sp_world.proofs.MakeLemmas.{still-wired}
use Rattle.sp_world.proofs.world.World.unaccepted.Goals as goal

pub returns : goal.returns
returns g c = λ w h. c.unaccepted.ensures w.pipes (still-wired g.S.WorldSpace.is_space w c.args.self.now c.requires h).pipes
