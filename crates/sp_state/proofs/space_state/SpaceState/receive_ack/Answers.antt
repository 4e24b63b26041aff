use Rattle.std.proofs.Common.{refl, sym, subst, ◌∙◌}
use Rattle.std.proofs.lemmas.Result.{on_ok_weaker}
use Rattle.sp_rules.specs.Endings.{close}
use Rattle.sp_rules.specs.Frames.{got_ack, is_acked_by, release}
use Rattle.sp_rules.specs.State.{State}
use Rattle.sp_owner.specs.Owners.{owner_parts}
use Rattle.sp_living.specs.Livings.{IsLiving}
use Rattle.sp_state.proofs.CallLemmas.{acked, unacked}
use Rattle.sp_state.proofs.FrameLemmas.{release-none, space-is}
use Rattle.sp_state.proofs.QuietLemmas.{parts-quiet, release_keeps}
use Rattle.sp_state.proofs.SpaceLemmas.{quiet}
use Rattle.sp_tasks.proofs.LentLemmas.{lent-next, lent-same}
use Rattle.sp_state.proofs.space_state.SpaceState.receive_ack.Goals as goal

pub returns-then-release_acked-clause-got : goal.returns-then-release_acked-clause-got
returns-then-release_acked-clause-got w c = λ g s row is silent tells on.
    let conn = c.args.conn in
    let number = c.args.number in
    let left = release g (is_acked_by conn number) s in
    space-is g left (got_ack g row number s) _ (acked g row conn number s on (sym (c.release_acked.ensures.held g s is.living) ∙ c.if-release_acked.true))
    (quiet g s left c.args.self.now c.release_acked.new.self (release_keeps (parts-quiet g (owner_parts s)) {s = s} (is_acked_by conn number) refl) (c.release_acked.ensures.released g s is.living) is)

pub returns-clause-got : goal.returns-clause-got
returns-clause-got w c = on_ok_weaker c.close.result (λ now. λ g s row is silent tells on.
    let conn = c.args.conn in
    let number = c.args.number in
    let none = sym (c.release_acked.ensures.held g s is.living) ∙ c.if-release_acked.false in
    let living = subst (λ (t : State). IsLiving g t c.release_acked.new.self) (release-none g (is_acked_by conn number) s none) (c.release_acked.ensures.released g s is.living) in
    space-is g (close g g.classes.unmarshal conn s) (got_ack g row number s) c.close.new.self (unacked g row conn number s on none)
    (now g s (quiet g s s c.args.self.now c.release_acked.new.self refl living is) silent tells)) c.close.ensures.closed

pub returns-then-release_acked-clause-lent : goal.returns-then-release_acked-clause-lent
returns-then-release_acked-clause-lent w c = lent-same c.release_acked.ensures.tasks

pub returns-clause-lent : goal.returns-clause-lent
returns-clause-lent w c = on_ok_weaker c.close.result (λ closed. lent-next c.release_acked.ensures.tasks closed) c.close.ensures.lent
