use Rattle.std.proofs.Common.{◌∙◌, refl, sym}
use Rattle.std.proofs.lemmas.Result.{on_ok_weaker}
use Rattle.sp_world.specs.Waitings.{refuse_next, refuse_peer}
use Rattle.sp_world.proofs.FitLemmas.{refuse-fits, refuse-nobody}
use Rattle.sp_world.proofs.MakeLemmas.{still-makes-nothing, still-makes-other}
use Rattle.sp_world.proofs.world.World.refuse_asked.Goals as goal

pub returns-in-Some-clause-made : goal.returns-in-Some-clause-made
returns-in-Some-clause-made g c = on_ok_weaker c.refuse_to.result (λ made.
    still-makes-other g.S.WorldSpace.is_space (refuse_peer c.args.dialler c.args.dialled c.in-Some.peer) (refuse_next c.args.dialler c.args.dialled) c.args.self.now c.refuse_to.new.self
    (λ w h. refuse-fits c.args.dialler c.args.dialled w c.in-Some.peer (sym (c.id.ensures w h.spaces) ∙ c.in-Some.is)) made) c.refuse_to.ensures.made

pub returns-in-None-clause-made : goal.returns-in-None-clause-made
returns-in-None-clause-made g c =
    still-makes-nothing g.S.WorldSpace.is_space (refuse_next c.args.dialler c.args.dialled) c.args.self.now _
    (λ w h. refuse-nobody c.args.dialler c.args.dialled w (sym (c.id.ensures w h.spaces) ∙ c.in-None.is)) refl refl c.requires (λ w h. h)
