use Rattle.std.proofs.Common.{List, refl, subst, sym}
use Rattle.sp_rules.specs.Events.{Closed}
use Rattle.sp_rules.specs.Lists.{at_index}
use Rattle.sp_rules.specs.Worlds.{Pipe, ends, on_side, set_side}
use Rattle.sp_pipes.specs.Connections.{ArePipes, end_of}
use Rattle.sp_world.specs.Waitings.{IsWired, close_end}
use Rattle.sp_world.proofs.MakeLemmas.{makes-missed, makes-taken}
use Rattle.sp_world.proofs.WiringLemmas.{wired-moved}
use Rattle.sp_world.proofs.world.World.close.Goals as goal

pub returns-then-taken-clause-made : goal.returns-then-taken-clause-made
returns-then-taken-clause-made g c =
    makes-taken g.S.WorldSpace.is_space c.args.space (Closed c.args.conn) (close_end c.args.conn (end_of c.args.to) c.args.space) (on_side ends c.args.conn (end_of c.args.to)) c.args.self.now c.bring.new.self _ c.in_ok-taken.taken c.if-taken.true c.in_ok-taken.ensures.heard
    (λ w h. refl) (λ w. refl) (λ w. refl) refl refl refl
    (λ w h. wired-moved w (on_side ends c.args.conn (end_of c.args.to) w) c.args.self.now.wiring c.bring.new.self.wiring _ c.bring.ensures.wiring refl refl refl refl
    (λ ps k e. subst (λ (qs : List Pipe). ArePipes (at_index (set_side ends (end_of c.args.to)) c.args.conn qs) c.end.new.self) e (c.end.ensures.ended ps k)) h)

pub returns-clause-made : goal.returns-clause-made
returns-clause-made g c =
    makes-missed g.S.WorldSpace.is_space c.args.space (Closed c.args.conn) (close_end c.args.conn (end_of c.args.to) c.args.space) (on_side ends c.args.conn (end_of c.args.to)) c.args.self.now c.bring.new.self c.bring.new.self c.in_ok-taken.taken c.if-taken.false c.in_ok-taken.ensures.heard
    (λ w h. refl) (λ w. refl) refl refl refl (λ w h. subst (IsWired w) (sym c.bring.ensures.wiring) h)
