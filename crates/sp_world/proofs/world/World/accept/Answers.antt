use Rattle.std.proofs.Common.{◌∙◌, refl, sym}
use Rattle.std.proofs.lemmas.Result.{on_ok_weaker}
use Rattle.sp_rules.specs.Worlds.{accept}
use Rattle.sp_world.specs.Waitings.{accept_end}
use Rattle.sp_world.proofs.FitLemmas.{accept-fits, accept-not}
use Rattle.sp_world.proofs.MakeLemmas.{makes-nothing, makes-other}
use Rattle.sp_world.proofs.world.World.accept.Goals as goal

pub returns-in-Some-clause-made : goal.returns-in-Some-clause-made
returns-in-Some-clause-made g c = on_ok_weaker c.accept_at.result (λ made.
    makes-other g.S.WorldSpace.is_space (accept_end c.args.conn c.in-Some.space) (accept c.args.conn) c.args.self.now c.accept_at.new.self
    (λ w h. accept-fits c.args.conn c.in-Some.space w (sym (c.unopened_space.ensures w.pipes h.pipes) ∙ c.in-Some.is)) made) c.accept_at.ensures.made

pub returns-in-None-clause-made : goal.returns-in-None-clause-made
returns-in-None-clause-made g c =
    makes-nothing g.S.WorldSpace.is_space (accept c.args.conn) c.args.self.now _ (λ w h. accept-not c.args.conn w (sym (c.unopened_space.ensures w.pipes h.pipes) ∙ c.in-None.is)) refl refl c.requires (λ w h. h)
