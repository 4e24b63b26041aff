use Rattle.std.proofs.Common.{List, refl, subst, sym}
use Rattle.sp_rules.specs.Events.{Received}
use Rattle.sp_rules.specs.Lists.{at_index}
use Rattle.sp_rules.specs.Worlds.{Pipe, on_side, set_side, take_front}
use Rattle.sp_pipes.specs.Connections.{ArePipes, end_of}
use Rattle.sp_world.specs.Waitings.{IsWired, deliver_front}
use Rattle.sp_world.proofs.MakeLemmas.{makes-missed, makes-taken}
use Rattle.sp_world.proofs.WiringLemmas.{wired-moved}
use Rattle.sp_world.proofs.world.World.deliver_frame.Goals as goal

pub returns-then-taken-clause-made : goal.returns-then-taken-clause-made
returns-then-taken-clause-made g c =
    makes-taken g.S.WorldSpace.is_space c.args.space (Received c.args.conn c.args.message) (deliver_front c.args.conn (end_of c.args.to) c.args.space c.args.message) (on_side take_front c.args.conn (end_of c.args.to)) c.args.self.now c.bring.new.self _ c.in_ok-taken.taken c.if-taken.true c.in_ok-taken.ensures.heard
    (λ w h. refl) (λ w. refl) (λ w. refl) refl refl refl
    (λ w h. wired-moved w (on_side take_front c.args.conn (end_of c.args.to) w) c.args.self.now.wiring c.bring.new.self.wiring _ c.bring.ensures.wiring refl refl refl refl
    (λ ps k e. subst (λ (qs : List Pipe). ArePipes (at_index (set_side take_front (end_of c.args.to)) c.args.conn qs) c.take_front.new.self) e (c.take_front.ensures.taken ps k)) h)

pub returns-clause-made : goal.returns-clause-made
returns-clause-made g c =
    makes-missed g.S.WorldSpace.is_space c.args.space (Received c.args.conn c.args.message) (deliver_front c.args.conn (end_of c.args.to) c.args.space c.args.message) (on_side take_front c.args.conn (end_of c.args.to)) c.args.self.now c.bring.new.self c.bring.new.self c.in_ok-taken.taken c.if-taken.false c.in_ok-taken.ensures.heard
    (λ w h. refl) (λ w. refl) refl refl refl (λ w h. subst (IsWired w) (sym c.bring.ensures.wiring) h)
