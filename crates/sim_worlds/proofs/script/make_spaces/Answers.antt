use Rattle.std.proofs.Common.{sym, subst}
use Rattle.std.specs.Prelude.{All}
use Rattle.std.proofs.lemmas.List.Elements.{All-push}
use Rattle.sp_promises.specs.WorldRuns.{IsNew}
use Rattle.sim_worlds.proofs.script.make_spaces.Goals as goal

pub loop-number-preserved : goal.loop-number-preserved
loop-number-preserved g c =
    subst (All (IsNew g.S.WorldSpace.is_space)) (sym c.in-Ok.ensures.items)
    (All-push (IsNew g.S.WorldSpace.is_space) c.loop-number.spaces.items c.in_ok-space.space c.loop-number.invariant c.in_ok-space.ensures.new)
