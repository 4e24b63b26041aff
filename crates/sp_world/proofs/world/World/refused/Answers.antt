use Rattle.sp_world.proofs.world.World.refused.Goals as goal

pub returns : goal.returns
returns g c = λ w h. h.refused
