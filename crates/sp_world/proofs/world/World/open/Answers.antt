use Rattle.std.proofs.Common.{◌∙◌, ap, refl, sym}
use Rattle.std.specs.List.{list_any}
use Rattle.std.proofs.lemmas.Result.{on_ok_weaker}
use Rattle.sp_rules.specs.Worlds.{is_pair, open_pipe}
use Rattle.sp_world.specs.Waitings.{open_next}
use Rattle.sp_world.proofs.FitLemmas.{open-fits, open-not}
use Rattle.sp_world.proofs.MakeLemmas.{makes-nothing, makes-other}
use Rattle.sp_world.proofs.world.World.open.Goals as goal

pub returns-then-contains-clause-made : goal.returns-then-contains-clause-made
returns-then-contains-clause-made g c = on_ok_weaker c.open_asked.result (λ made.
    makes-other g.S.WorldSpace.is_space (open_next c.args.dialler c.args.dialled) (open_pipe c.args.dialler c.args.dialled) c.args.self.now c.open_asked.new.self
    (λ w h. open-fits c.args.dialler c.args.dialled w (ap (list_any (is_pair c.args.dialler c.args.dialled)) h.dials ∙ sym c.contains.ensures ∙ c.if-contains.true)) made) c.open_asked.ensures.made

pub returns-clause-made : goal.returns-clause-made
returns-clause-made g c =
    makes-nothing g.S.WorldSpace.is_space (open_pipe c.args.dialler c.args.dialled) c.args.self.now _
    (λ w h. open-not c.args.dialler c.args.dialled w (ap (list_any (is_pair c.args.dialler c.args.dialled)) h.dials ∙ sym c.contains.ensures ∙ c.if-contains.false)) refl refl c.requires (λ w h. h)
