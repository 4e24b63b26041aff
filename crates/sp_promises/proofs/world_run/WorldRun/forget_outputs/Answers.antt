use Rattle.sp_promises.proofs.RunLemmas.{forgotten}
use Rattle.sp_promises.proofs.world_run.WorldRun.forget_outputs.Goals as goal

pub invariant_of-self : goal.invariant_of-self
invariant_of-self g c = forgotten g.S.WorldSpace.is_space c.self.inside.spaces.value c.self.inside.events.value c.args.number c.self.inside.world c.forget_outputs.new.self c.forget_outputs.ensures.world c.self.invariant
