use Rattle.std.proofs.Common.{Option, refl, subst}
use Rattle.std.proofs.lemmas.Result.{on_ok_weaker}
use Rattle.space_ids.specs.declared.ids.ClassId.{ClassId}
use Rattle.sp_rules.specs.Behaviours.{Throws}
use Rattle.sp_rules.specs.LivingTasks.{reply_to}
use Rattle.sp_rules.specs.ParkedFrames.{is_call_on, remove_requests}
use Rattle.sp_rules.specs.Lists.{with_some}
use Rattle.sp_rules.specs.State.{State, Request}
use Rattle.sp_living.specs.Livings.{IsLiving}
use Rattle.sp_owner.specs.Owners.{owner_parts}
use Rattle.sp_state.specs.Spaces.{IsSpace}
use Rattle.sp_state.proofs.QuietLemmas.{acks-early, parts-quiet, reply_to_keeps, send_keeps}
use Rattle.sp_state.proofs.SpaceLemmas.{quiet}
use Rattle.net_message.specs.declared.message.Message.TheVariants as message
use Rattle.sp_rules.specs.Events.{Acks}
use Rattle.sp_rules.specs.State.{send}
use Rattle.sp_tasks.proofs.LentLemmas.{lent-next}
use Rattle.sp_state.proofs.space_state.SpaceState.refuse_returned.Goals as goal

pub returns-clause-refused : goal.returns-clause-refused
returns-clause-refused w c = on_ok_weaker c.reply_to.result (λ replied. λ g s row peer question request is tells on dialled found asks.
    let conn = c.args.conn in
    let number = c.args.number in
    let left : State = send Acks conn (message.Ack number) (remove_requests (is_call_on conn number) s) in
    let acked = subst (λ (o : Option Request). IsLiving g (with_some o s (λ (r : Request). left)) c.acknowledge.new.self) found (c.in_ok-acknowledge.ensures.acknowledged g s row peer is.living on.there dialled) in
    let class = c.thrown-class.ensures g.classes tells in
    let parts = send_keeps (parts-quiet g (owner_parts s)) {s = remove_requests (is_call_on conn number) s} Acks conn (message.Ack number) acks-early refl in
    let now = quiet g s (reply_to g question (Throws c.thrown-class.result) left) c.args.self.now c.reply_to.new.self
    (reply_to_keeps (parts-quiet g (owner_parts s)) {s = left} question (Throws c.thrown-class.result) parts)
    (replied g left question acked asks) is in
    subst (λ (k : ClassId). IsSpace g (reply_to g question (Throws k) left) (record c.args.self.now { living = c.reply_to.new.self })) class now) c.reply_to.ensures.replied

pub returns-clause-lent : goal.returns-clause-lent
returns-clause-lent w c = on_ok_weaker c.reply_to.result (λ replied. lent-next c.acknowledge.ensures.tasks replied) c.reply_to.ensures.lent
