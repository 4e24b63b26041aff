use Rattle.std.proofs.Common.{refl, sym, ap, ◌∙◌}
use Rattle.std.specs.Prelude.{find}
use Rattle.std.proofs.lemmas.Result.{on_ok_weaker}
use Rattle.sp_rules.specs.Behaviours.{Reply}
use Rattle.sp_rules.specs.Endings.{close}
use Rattle.sp_rules.specs.Frames.{answered_by, ends_as, spent_reply}
use Rattle.sp_rules.specs.LivingTasks.{reply_to}
use Rattle.sp_rules.specs.ParkedFrames.{is_asked_on, is_call_on, remove_requests}
use Rattle.sp_rules.specs.State.{State}
use Rattle.sp_owner.specs.Owners.{owner_parts}
use Rattle.sp_tasks.specs.Behaviours.{reply_of}
use Rattle.sp_living.proofs.FoundLemmas.{one-asks}
use Rattle.sp_state.proofs.AnswerLemmas.{answers-nothing, answers-one, ends-at, none-left}
use Rattle.sp_state.proofs.FrameLemmas.{space-is}
use Rattle.sp_state.proofs.QuietLemmas.{parts-quiet, reply_to_keeps}
use Rattle.sp_state.proofs.SpaceLemmas.{quiet}
use Rattle.sp_tasks.proofs.LentLemmas.{lent-next}
use Rattle.sp_state.proofs.space_state.SpaceState.receive_spent.Goals as goal

pub returns-in_default-clause-got : goal.returns-in_default-clause-got
returns-in_default-clause-got w c = on_ok_weaker c.close.result (λ now. λ g s row peer is silent tells on dialled.
    let conn = c.args.conn in
    let number = c.args.number in
    let none = sym (none-left c.asked.result c.in_default.not-Some) ∙ c.asked.ensures g s row peer is.living on.there dialled in
    space-is g (close g g.classes.unmarshal conn s) (answered_by g row number (ends_as g row number (spent_reply g)) s) c.close.new.self
    (answers-nothing g row conn number (ends_as g row number (spent_reply g)) s on none) (now g s is silent tells)) c.close.ensures.closed

pub returns-clause-got : goal.returns-clause-got
returns-clause-got w c = on_ok_weaker c.reply_to.result (λ replied. λ g s row peer is silent tells on dialled.
    let conn = c.args.conn in
    let number = c.args.number in
    let found = one-asks c.in-Some.asker (find (is_asked_on conn number) s.requests) (sym c.in-Some.is ∙ c.asked.ensures g s row peer is.living on.there dialled) in
    let asked = found.row.asked in
    let left : State = remove_requests (is_call_on conn number) s in
    let living = c.take_call.ensures.taken g s row peer is.living on.there dialled in
    let reply : Reply = reply_of c.spent_for-reply.result in
    let now = quiet g s (reply_to g asked reply left) c.args.self.now c.reply_to.new.self (reply_to_keeps (parts-quiet g (owner_parts s)) {s = left} asked reply refl) (replied g left asked living found.asks) is in
    space-is g (reply_to g asked reply left) (answered_by g row number (ends_as g row number (spent_reply g)) s) _
    (answers-one g row conn number (ends_as g row number (spent_reply g)) s c.in-Some.asker on found ∙ ends-at g row conn number (spent_reply g) asked s on ∙ ap (λ (r : Reply). reply_to g asked r left) (sym (c.spent_for-reply.ensures g asked tells found.asks))) now) c.reply_to.ensures.replied

pub returns-clause-lent : goal.returns-clause-lent
returns-clause-lent w c = on_ok_weaker c.reply_to.result (λ replied. lent-next c.take_call.ensures.tasks replied) c.reply_to.ensures.lent
