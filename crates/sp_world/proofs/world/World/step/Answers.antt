use Rattle.sp_world.proofs.MakeLemmas.{makes-step}
use Rattle.sp_world.proofs.world.World.step.Goals as goal

pub returns-clause-made : goal.returns-clause-made
returns-clause-made g c = makes-step g.S.WorldSpace.is_space c.args.space c.args.task c.args.self.now c.tell_step.new.self c.in_ok-_taken._taken c.in_ok-_taken.ensures.heard c.tell_step.ensures.wiring
