use Rattle.std.proofs.Common.{◌∙◌, ap, refl, sym}
use Rattle.std.specs.List.{list_any}
use Rattle.std.proofs.lemmas.Result.{on_ok_weaker}
use Rattle.sp_rules.specs.Worlds.{is_pair, refuse}
use Rattle.sp_world.specs.Waitings.{refuse_next}
use Rattle.sp_world.proofs.FitLemmas.{refuse-asked, refuse-not}
use Rattle.sp_world.proofs.MakeLemmas.{makes-nothing, makes-other}
use Rattle.sp_world.proofs.world.World.refuse.Goals as goal

pub returns-then-contains-clause-made : goal.returns-then-contains-clause-made
returns-then-contains-clause-made g c = on_ok_weaker c.refuse_asked.result (λ made.
    makes-other g.S.WorldSpace.is_space (refuse_next c.args.dialler c.args.dialled) (refuse c.args.dialler c.args.dialled) c.args.self.now c.refuse_asked.new.self
    (λ w h. refuse-asked c.args.dialler c.args.dialled w (ap (list_any (is_pair c.args.dialler c.args.dialled)) h.dials ∙ sym c.contains.ensures ∙ c.if-contains.true)) made) c.refuse_asked.ensures.made

pub returns-clause-made : goal.returns-clause-made
returns-clause-made g c =
    makes-nothing g.S.WorldSpace.is_space (refuse c.args.dialler c.args.dialled) c.args.self.now _
    (λ w h. refuse-not c.args.dialler c.args.dialled w (ap (list_any (is_pair c.args.dialler c.args.dialled)) h.dials ∙ sym c.contains.ensures ∙ c.if-contains.false)) refl refl c.requires (λ w h. h)
