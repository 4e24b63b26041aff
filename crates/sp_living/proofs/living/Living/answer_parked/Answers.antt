use Rattle.std.proofs.Common.{Option, refl, sym, subst, ◌∙◌}
use Rattle.std.specs.Prelude.{find}
use Rattle.std.proofs.lemmas.Result.{on_ok_weaker}
use Rattle.sp_rules.specs.Events.{Acks}
use Rattle.sp_rules.specs.Lists.{with_some}
use Rattle.sp_rules.specs.ParkedFrames.{is_call_on, remove_requests}
use Rattle.sp_rules.specs.State.{State, Request}
use Rattle.net_message.specs.declared.message.Message.TheVariants as message
use Rattle.sp_tasks.specs.Behaviours.{reply_of}
use Rattle.sp_transport.specs.Transports.{IsTransport}
use Rattle.sp_living.specs.Livings.{IsLiving}
use Rattle.sp_living.proofs.FoundLemmas.{none-asks, one-asks}
use Rattle.sp_living.proofs.LivingLemmas.{moved, sent-own}
use Rattle.sp_living.proofs.AnswerLemmas.{acked, result-drops, result-goes}
use Rattle.sp_tasks.proofs.LentLemmas.{lent-none}
use Rattle.sp_living.proofs.living.Living.answer_parked.Goals as goal

pub returns-in-Some-clause-answered : goal.returns-in-Some-clause-answered
returns-in-Some-clause-answered c = on_ok_weaker c.reply_to.result (λ replied. λ g s p a at of.
    let conn = c.args.conn in
    let number = c.args.number in
    let mine = c.is_dialled.ensures.ours c.if-not-is_dialled.false s a.transport in
    let t = c.in_ok-reserve_notes.ensures.same s a.transport in
    let by = one-asks c.in-Some.asker (find (is_call_on conn number) s.requests) (sym c.in-Some.is ∙ c.acknowledge_reserved.ensures.asker s mine.row mine.peer t mine.stands mine.dialled) in
    let now = subst (λ (o : Option Request). IsTransport (with_some o s (λ (r : Request). acked conn number s)) c.acknowledge_reserved.new.self) by.there
    (c.acknowledge_reserved.ensures.acknowledged s mine.row mine.peer t mine.stands mine.dialled) in
    let living = moved g s (acked conn number s) c.args.self.now c.acknowledge_reserved.new.self (sent-own Acks conn (message.Ack number) (remove_requests (is_call_on conn number) s)) (λ before. now) a in
    subst (λ (u : State). IsLiving g u c.reply_to.new.self) (sym (result-goes g p (reply_of c.args.reply) s conn number by.row at of by.there))
    (replied g (acked conn number s) by.row.asked living by.asks)) c.reply_to.ensures.replied

pub returns-in-None-clause-answered : goal.returns-in-None-clause-answered
returns-in-None-clause-answered c = λ g s p a at of.
    let conn = c.args.conn in
    let number = c.args.number in
    let mine = c.is_dialled.ensures.ours c.if-not-is_dialled.false s a.transport in
    let t = c.in_ok-reserve_notes.ensures.same s a.transport in
    let none = none-asks conn number s.requests (sym c.in-None.is ∙ c.acknowledge_reserved.ensures.asker s mine.row mine.peer t mine.stands mine.dialled) in
    let now = subst (λ (o : Option Request). IsTransport (with_some o s (λ (r : Request). acked conn number s)) c.acknowledge_reserved.new.self) none
    (c.acknowledge_reserved.ensures.acknowledged s mine.row mine.peer t mine.stands mine.dialled) in
    let living = moved g s s c.args.self.now c.acknowledge_reserved.new.self refl (λ before. now) a in
    subst (λ (u : State). IsLiving g u (record c.args.self.now { transport = c.acknowledge_reserved.new.self })) (sym (result-drops g p (reply_of c.args.reply) s conn number at of none)) living

pub returns-in-None-clause-lent : goal.returns-in-None-clause-lent
returns-in-None-clause-lent c = lent-none c.args.self.now.tasks
