use Rattle.std.proofs.Common.{refl}
use Rattle.sp_rules.specs.Events.{Root}
use Rattle.sp_rules.specs.Worlds.{Own, happens}
use Rattle.sp_world.proofs.MakeLemmas.{makes-told}
use Rattle.sp_world.proofs.world.World.root.Goals as goal

pub returns-clause-made : goal.returns-clause-made
returns-clause-made g c =
    makes-told g.S.WorldSpace.is_space c.args.space (Root c.args.method c.args.arguments.now c.args.fuel) (happens (Own c.args.space (Root c.args.method c.args.arguments.now c.args.fuel)))
    c.args.self.now c.tell_root.new.self c.in_ok-_taken._taken c.in_ok-_taken.ensures.heard (λ w. refl) c.tell_root.ensures.wiring
