use Rattle.std.proofs.Common.{◌∙◌, ap, sym}
use Rattle.std.specs.Prelude.{option_copied}
use Rattle.std.proofs.lemmas.Result.{on_ok_weaker}
use Rattle.sp_pipes.specs.Connections.{end_of}
use Rattle.sp_world.specs.Waitings.{deliver_last, deliver_next}
use Rattle.sp_world.proofs.FitLemmas.{next-end}
use Rattle.sp_world.proofs.MakeLemmas.{makes-other}
use Rattle.sp_world.proofs.world.World.deliver_to.Goals as goal

pub returns-in-None-clause-made : goal.returns-in-None-clause-made
returns-in-None-clause-made g c = on_ok_weaker c.deliver_end.result (λ made.
    makes-other g.S.WorldSpace.is_space (deliver_last c.args.conn (end_of c.args.to) c.args.space) (deliver_next c.args.conn (end_of c.args.to) c.args.space) c.args.self.now c.deliver_end.new.self
    (λ w h. next-end c.args.conn c.args.space (end_of c.args.to) w (sym (c.front.ensures w.pipes h.pipes) ∙ ap option_copied c.in-None.is)) made) c.deliver_end.ensures.made
