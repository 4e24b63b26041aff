use Rattle.std.proofs.Common.{◌∙◌, ap, refl, subst, sym}
use Rattle.sp_rules.specs.Events.{Refused}
use Rattle.sp_rules.specs.Worlds.{without_pair}
use Rattle.sp_world.specs.Waitings.{IsWired, refuse_peer}
use Rattle.sp_world.proofs.MakeLemmas.{makes-missed, makes-taken}
use Rattle.sp_world.proofs.WiringLemmas.{wired-dialled}
use Rattle.sp_world.proofs.world.World.refuse_to.Goals as goal

pub returns-then-taken-clause-made : goal.returns-then-taken-clause-made
returns-then-taken-clause-made g c =
    makes-taken g.S.WorldSpace.is_space c.args.dialler (Refused c.args.peer) (refuse_peer c.args.dialler c.args.dialled c.args.peer) (λ w. record w { asked = without_pair c.args.dialler c.args.dialled w.asked }) c.args.self.now c.bring.new.self _ c.in_ok-taken.taken c.if-taken.true c.in_ok-taken.ensures.heard
    (λ w h. refl) (λ w. refl) (λ w. refl) refl refl refl
    (λ w h. wired-dialled w (record w { asked = without_pair c.args.dialler c.args.dialled w.asked }) c.args.self.now.wiring c.bring.new.self.wiring _ c.bring.ensures.wiring refl refl refl refl
    (λ asks k e. ap (without_pair c.args.dialler c.args.dialled) (sym e) ∙ ap (without_pair c.args.dialler c.args.dialled) k ∙ sym c.remove.ensures) h)

pub returns-clause-made : goal.returns-clause-made
returns-clause-made g c =
    makes-missed g.S.WorldSpace.is_space c.args.dialler (Refused c.args.peer) (refuse_peer c.args.dialler c.args.dialled c.args.peer) (λ w. record w { asked = without_pair c.args.dialler c.args.dialled w.asked }) c.args.self.now c.bring.new.self c.bring.new.self c.in_ok-taken.taken c.if-taken.false c.in_ok-taken.ensures.heard
    (λ w h. refl) (λ w. refl) refl refl refl (λ w h. subst (IsWired w) (sym c.bring.ensures.wiring) h)
