use Rattle.std.proofs.Common.{◌∙◌, refl, sym}
use Rattle.std.proofs.lemmas.Result.{on_ok_weaker}
use Rattle.sp_rules.specs.Worlds.{deliver}
use Rattle.sp_pipes.specs.Connections.{end_of}
use Rattle.sp_world.specs.Waitings.{deliver_next}
use Rattle.sp_world.proofs.FitLemmas.{deliver-fits, deliver-not}
use Rattle.sp_world.proofs.MakeLemmas.{makes-nothing, makes-other}
use Rattle.sp_world.proofs.world.World.deliver.Goals as goal

pub returns-in-Some-clause-made : goal.returns-in-Some-clause-made
returns-in-Some-clause-made g c = on_ok_weaker c.deliver_to.result (λ made.
    makes-other g.S.WorldSpace.is_space (deliver_next c.args.conn (end_of c.args.to) c.in-Some.space) (deliver c.args.conn (end_of c.args.to)) c.args.self.now c.deliver_to.new.self
    (λ w h. deliver-fits c.args.conn c.in-Some.space (end_of c.args.to) w (sym (c.live_space.ensures w.pipes h.pipes) ∙ c.in-Some.is)) made) c.deliver_to.ensures.made

pub returns-in-None-clause-made : goal.returns-in-None-clause-made
returns-in-None-clause-made g c =
    makes-nothing g.S.WorldSpace.is_space (deliver c.args.conn (end_of c.args.to)) c.args.self.now _ (λ w h. deliver-not c.args.conn (end_of c.args.to) w (sym (c.live_space.ensures w.pipes h.pipes) ∙ c.in-None.is)) refl refl c.requires (λ w h. h)
