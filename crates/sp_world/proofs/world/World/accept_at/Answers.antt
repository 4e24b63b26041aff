use Rattle.std.proofs.Common.{List, None, refl, subst, sym}
use Rattle.sp_rules.specs.Events.{Opened}
use Rattle.sp_rules.specs.Lists.{at_index}
use Rattle.sp_rules.specs.Worlds.{Pipe, Accepter, begin_side, on_side, set_side}
use Rattle.sp_pipes.specs.Connections.{ArePipes}
use Rattle.sp_world.specs.Waitings.{IsWired, accept_end}
use Rattle.sp_world.proofs.MakeLemmas.{makes-missed, makes-taken}
use Rattle.sp_world.proofs.WiringLemmas.{wired-moved}
use Rattle.sp_world.proofs.world.World.accept_at.Goals as goal

pub returns-then-taken-clause-made : goal.returns-then-taken-clause-made
returns-then-taken-clause-made g c =
    makes-taken g.S.WorldSpace.is_space c.args.space (Opened c.args.conn None) (accept_end c.args.conn c.args.space) (on_side begin_side c.args.conn Accepter) c.args.self.now c.bring.new.self _ c.in_ok-taken.taken c.if-taken.true c.in_ok-taken.ensures.heard
    (λ w h. refl) (λ w. refl) (λ w. refl) refl refl refl
    (λ w h. wired-moved w (on_side begin_side c.args.conn Accepter w) c.args.self.now.wiring c.bring.new.self.wiring _ c.bring.ensures.wiring refl refl refl refl
    (λ ps k e. subst (λ (qs : List Pipe). ArePipes (at_index (set_side begin_side Accepter) c.args.conn qs) c.begin.new.self) e (c.begin.ensures.begun ps k)) h)

pub returns-clause-made : goal.returns-clause-made
returns-clause-made g c =
    makes-missed g.S.WorldSpace.is_space c.args.space (Opened c.args.conn None) (accept_end c.args.conn c.args.space) (on_side begin_side c.args.conn Accepter) c.args.self.now c.bring.new.self c.bring.new.self c.in_ok-taken.taken c.if-taken.false c.in_ok-taken.ensures.heard
    (λ w h. refl) (λ w. refl) refl refl refl (λ w h. subst (IsWired w) (sym c.bring.ensures.wiring) h)
