use Rattle.std.proofs.Common.{◌∙◌, refl, sym}
use Rattle.std.proofs.lemmas.Result.{on_ok_weaker}
use Rattle.sp_rules.specs.Worlds.{write_fails}
use Rattle.sp_pipes.specs.Connections.{end_of}
use Rattle.sp_world.specs.Waitings.{unwritten_end}
use Rattle.sp_world.proofs.FitLemmas.{write-fits, write-not}
use Rattle.sp_world.proofs.MakeLemmas.{makes-nothing, makes-other}
use Rattle.sp_world.proofs.world.World.write_fails.Goals as goal

pub returns-in-Some-clause-made : goal.returns-in-Some-clause-made
returns-in-Some-clause-made g c = on_ok_weaker c.write_fails_at.result (λ made.
    makes-other g.S.WorldSpace.is_space (unwritten_end c.args.conn (end_of c.args.at) c.in-Some.space c.lost-lost.result) (write_fails c.args.conn (end_of c.args.at) c.args.unsent) c.args.self.now c.write_fails_at.new.self
    (λ w h. write-fits c.args.conn c.in-Some.space c.args.unsent c.lost-lost.result (end_of c.args.at) w (sym (c.live_space.ensures w.pipes h.pipes) ∙ c.in-Some.is) (sym (c.lost-lost.ensures w.pipes h.pipes))) made) c.write_fails_at.ensures.made

pub returns-in-None-clause-made : goal.returns-in-None-clause-made
returns-in-None-clause-made g c =
    makes-nothing g.S.WorldSpace.is_space (write_fails c.args.conn (end_of c.args.at) c.args.unsent) c.args.self.now _ (λ w h. write-not c.args.conn c.args.unsent (end_of c.args.at) w (sym (c.live_space.ensures w.pipes h.pipes) ∙ c.in-None.is)) refl refl c.requires (λ w h. h)
