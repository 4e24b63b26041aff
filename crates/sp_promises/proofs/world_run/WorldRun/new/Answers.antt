use Rattle.std.proofs.Common.{List, subst, sym}
use Rattle.sp_rules.specs.Worlds.{WorldEvent}
use Rattle.sp_promises.specs.WorldRuns.{IsRun}
use Rattle.sp_promises.proofs.RunLemmas.{begun}
use Rattle.sp_promises.proofs.world_run.WorldRun.new.Goals as goal

pub invariant_of-result : goal.invariant_of-result
invariant_of-result g c =
    subst (λ (ss : List g.row.S.Denot). IsRun g.S.WorldSpace.is_space ss c.of.result.value c.in_ok-world.world) (sym c.of-made_of.ensures)
    (subst (λ (es : List WorldEvent). IsRun g.S.WorldSpace.is_space c.args.spaces.items es c.in_ok-world.world) (sym c.of.ensures)
    (begun g.S.WorldSpace.is_space c.args.spaces.items c.in_ok-world.world c.requires.new c.in_ok-world.ensures.world))
