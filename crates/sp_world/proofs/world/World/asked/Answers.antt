use Rattle.std.proofs.Common.{◌∙◌, sym}
use Rattle.sp_world.proofs.MakeLemmas.{still-wired}
use Rattle.sp_world.proofs.world.World.asked.Goals as goal

pub returns : goal.returns
returns g c = λ w h. c.as_slice.ensures ∙ sym (still-wired g.S.WorldSpace.is_space w c.args.self.now c.requires h).dials
