use Rattle.std.proofs.Common.{List, refl, subst, sym}
use Rattle.sp_rules.specs.Events.{WriteFailed}
use Rattle.sp_rules.specs.Lists.{at_index}
use Rattle.sp_rules.specs.Worlds.{Pipe, End, cut_end, ends, on_side, other, set_side}
use Rattle.sp_pipes.specs.Connections.{ArePipes, end_of}
use Rattle.sp_world.specs.Waitings.{IsWired, unwritten_end}
use Rattle.sp_world.proofs.MakeLemmas.{makes-missed, makes-taken}
use Rattle.sp_world.proofs.WiringLemmas.{wired-moved}
use Rattle.sp_world.proofs.world.World.write_fails_at.Goals as goal

pub returns-then-taken-clause-made : goal.returns-then-taken-clause-made
returns-then-taken-clause-made g c =
    makes-taken g.S.WorldSpace.is_space c.args.space (WriteFailed c.args.conn c.args.lost) (unwritten_end c.args.conn (end_of c.args.at) c.args.space c.args.lost) (λ w. on_side ends c.args.conn (end_of c.args.at) (on_side (cut_end c.args.lost) c.args.conn (other (end_of c.args.at)) w)) c.args.self.now c.bring.new.self _ c.in_ok-taken.taken c.if-taken.true c.in_ok-taken.ensures.heard
    (λ w h. refl) (λ w. refl) (λ w. refl) refl refl refl
    (λ w h. wired-moved w (on_side ends c.args.conn (end_of c.args.at) (on_side (cut_end c.args.lost) c.args.conn (other (end_of c.args.at)) w)) c.args.self.now.wiring c.bring.new.self.wiring _ c.bring.ensures.wiring refl refl refl refl
    (λ ps k e. subst (λ (qs : List Pipe). ArePipes (at_index (set_side ends (end_of c.args.at)) c.args.conn (at_index (set_side (cut_end c.args.lost) (other (end_of c.args.at))) c.args.conn qs)) c.end.new.self) e
    (c.end.ensures.ended (at_index (set_side (cut_end c.args.lost) (other (end_of c.args.at))) c.args.conn ps)
    (subst (λ (n : End). ArePipes (at_index (set_side (cut_end c.args.lost) n) c.args.conn ps) c.cut_end.new.self) c.other.ensures (c.cut_end.ensures.cut ps k)))) h)

pub returns-clause-made : goal.returns-clause-made
returns-clause-made g c =
    makes-missed g.S.WorldSpace.is_space c.args.space (WriteFailed c.args.conn c.args.lost) (unwritten_end c.args.conn (end_of c.args.at) c.args.space c.args.lost) (λ w. on_side ends c.args.conn (end_of c.args.at) (on_side (cut_end c.args.lost) c.args.conn (other (end_of c.args.at)) w)) c.args.self.now c.bring.new.self c.bring.new.self c.in_ok-taken.taken c.if-taken.false c.in_ok-taken.ensures.heard
    (λ w h. refl) (λ w. refl) refl refl refl (λ w h. subst (IsWired w) (sym c.bring.ensures.wiring) h)
