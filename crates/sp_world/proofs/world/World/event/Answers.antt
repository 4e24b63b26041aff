use Rattle.sp_rules.specs.Worlds.{after}
use Rattle.sp_world.specs.Happenings.{happening_of}
use Rattle.sp_world.proofs.MakeLemmas.{event-made, keeps-world}
use Rattle.sp_world.proofs.WiringLemmas.{all-err}
use Rattle.sp_world.proofs.world.World.event.Goals as goal

pub returns-clause-happened : goal.returns-clause-happened
returns-clause-happened g c = λ w h.
    c.settle-2.ensures.same (after w (happening_of c.args.event.now))
    (event-made g.S.WorldSpace.is_space (happening_of c.args.event.now) w c.settle.new.self c.happen.new.self c.in_ok-settle.ensures.settled c.in_ok-happen.ensures.made (c.settle.ensures.same w h))

pub returns-in_err-happen-clause-same : goal.returns-in_err-happen-clause-same
returns-in_err-happen-clause-same g c = all-err c.from_residual-in_err-happen.result (λ w h.
    keeps-world g.S.WorldSpace.is_space w c.settle.new.self c.happen.new.self c.in_ok-settle.ensures.settled c.in_err-happen.ensures.kept (c.settle.ensures.same w h))
