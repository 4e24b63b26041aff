use Rattle.std.proofs.Common.{◌∙◌, ap, refl, sym}
use Rattle.std.specs.Prelude.{slice_get}
use Rattle.std.proofs.lemmas.Result.{on_ok_weaker}
use Rattle.sp_pipes.specs.Connections.{comes_over, end_of}
use Rattle.sp_rules.specs.Worlds.{End}
use Rattle.sp_world.specs.Waitings.{close_end, deliver_last}
use Rattle.sp_world.proofs.FitLemmas.{last-fits, last-not}
use Rattle.sp_world.proofs.MakeLemmas.{makes-nothing, makes-other}
use Rattle.sp_world.proofs.world.World.deliver_end.Goals as goal

pub returns-then-is_over-clause-made : goal.returns-then-is_over-clause-made
returns-then-is_over-clause-made g c = on_ok_weaker c.close.result (λ made.
    makes-other g.S.WorldSpace.is_space (close_end c.args.conn (end_of c.args.to) c.args.space) (deliver_last c.args.conn (end_of c.args.to) c.args.space) c.args.self.now c.close.new.self
    (λ w h. last-fits c.args.conn c.args.space (end_of c.args.to) w
    (ap (λ (n : End). comes_over n (slice_get w.pipes c.args.conn)) (sym c.other.ensures) ∙ sym (c.is_over.ensures w.pipes h.pipes) ∙ c.if-is_over.true)) made) c.close.ensures.made

pub returns-clause-made : goal.returns-clause-made
returns-clause-made g c =
    makes-nothing g.S.WorldSpace.is_space (deliver_last c.args.conn (end_of c.args.to) c.args.space) c.args.self.now _
    (λ w h. last-not c.args.conn c.args.space (end_of c.args.to) w
    (ap (λ (n : End). comes_over n (slice_get w.pipes c.args.conn)) (sym c.other.ensures) ∙ sym (c.is_over.ensures w.pipes h.pipes) ∙ c.if-is_over.false)) refl refl c.requires (λ w h. h)
