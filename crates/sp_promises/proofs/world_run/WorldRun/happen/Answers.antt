use Rattle.std.proofs.Common.{◌<◌, List, arith, subst, sym}
use Rattle.sp_rules.specs.Worlds.{WorldEvent}
use Rattle.sp_world.specs.Happenings.{happening_of}
use Rattle.sp_world.specs.Waitings.{IsWorld}
use Rattle.sp_world.specs.declared.world.World.{World}
use Rattle.sp_promises.specs.WorldRuns.{IsRun}
use Rattle.sp_promises.proofs.RunLemmas.{grown, not-made, one-made, still}
use Rattle.sp_promises.proofs.world_run.WorldRun.happen.Goals as goal

pub invariant_of-self : goal.invariant_of-self
invariant_of-self g c =
    subst (λ (es : List WorldEvent). IsRun g.S.WorldSpace.is_space c.self.inside.spaces.value es c.in-Ok-run.world) (sym c.of-longer.ensures)
    (grown g.S.WorldSpace.is_space c.self.inside.spaces.value c.self.inside.events.value (happening_of c.args.event) c.self.inside.world c.in-Ok-run.world c.pieces_make_a_run.ensures
    (λ w h. c.in-Ok-run.ensures.world w (subst (λ (v : World g.row.S.Denot). IsWorld g.S.WorldSpace.is_space w v) (sym c.replace-world.ensures.value) h))
    c.self.invariant)

pub invariant_of-self-then-rest-eq0 : goal.invariant_of-self-then-rest-eq0
invariant_of-self-then-rest-eq0 g c =
    still g.S.WorldSpace.is_space c.self.inside.spaces.value c.self.inside.events.value c.self.inside.world c.in-Err.rest.world
    (λ w h. not-made g.S.WorldSpace.is_space w c.in-Err.rest.made (happening_of c.args.event) c.in-Err.rest.world c.if-rest-eq0.true
    (c.in-Err.ensures.unfinished w (subst (λ (v : World g.row.S.Denot). IsWorld g.S.WorldSpace.is_space w v) (sym c.replace-world.ensures.value) h)))
    c.self.invariant

pub invariant_of-self-in-Err : goal.invariant_of-self-in-Err
invariant_of-self-in-Err g c =
    let some : 0 < c.in-Err.rest.made = omega (arith, c.if-rest-eq0.false) in
    subst (λ (es : List WorldEvent). IsRun g.S.WorldSpace.is_space c.self.inside.spaces.value es c.in-Err.rest.world) (sym c.of-longer.ensures)
    (grown g.S.WorldSpace.is_space c.self.inside.spaces.value c.self.inside.events.value (happening_of c.args.event) c.self.inside.world c.in-Err.rest.world c.pieces_make_a_run.ensures
    (λ w h. one-made g.S.WorldSpace.is_space w c.in-Err.rest.made (happening_of c.args.event) c.in-Err.rest.world some
    (c.in-Err.ensures.unfinished w (subst (λ (v : World g.row.S.Denot). IsWorld g.S.WorldSpace.is_space w v) (sym c.replace-world.ensures.value) h)))
    c.self.invariant)
