use Rattle.std.proofs.Common.{Bool, Option, cond, sym, ap, subst, ◌∙◌}
use Rattle.std.specs.Prelude.{is_some, not}
use Rattle.std.proofs.lemmas.Result.{on_ok_weaker}
use Rattle.net_message.specs.declared.message.Message.{Message}
use Rattle.sp_rules.specs.Events.{Replies}
use Rattle.sp_rules.specs.LivingTasks.{keep_result, reply_frame}
use Rattle.sp_rules.specs.State.{State, Acked, Connection, connection_at, send}
use Rattle.sp_tasks.specs.Behaviours.{outcome_of}
use Rattle.sp_living.specs.Livings.{IsLiving}
use Rattle.sp_living.proofs.StepLemmas.{found-open, none-open}
use Rattle.sp_tasks.proofs.LentLemmas.{lent-none, lent-still, on-any}
use Rattle.sp_endings.proofs.tasks.answer_call.Goals as goal

-- a connection that is not open
pub returns-then-is_none-clause-answered : goal.returns-then-is_none-clause-answered
returns-then-is_none-clause-answered w c = λ g s id a tells.
    let conn = c.args.conn in
    let kept : State = keep_result g (Acked conn c.args.number) (outcome_of c.args.outcome) s in
    let sent : State = send Replies conn (reply_frame g c.args.number c.args.fuel (outcome_of c.args.outcome)) kept in
    let none = none-open c.connection.result (connection_at s conn) (c.connection.ensures s (c.transport.ensures g s a)) (c.is_none.ensures ∙ ap not c.if-is_none.true) in
    subst (λ (o : Option Connection). IsLiving g (cond (is_some o) sent s) c.args.living.now) (sym none) a

pub returns-clause-answered : goal.returns-clause-answered
returns-clause-answered w c = on_ok_weaker c.reply.result (λ sent. λ g s id a tells.
    let kept : State = keep_result g (Acked c.args.conn c.args.number) (outcome_of c.args.outcome) s in
    let is_open = found-open c.connection.result (connection_at s c.args.conn) (c.connection.ensures s (c.transport.ensures g s a)) (c.is_none.ensures ∙ ap not c.if-is_none.false) in
    let frame = reply_frame g c.args.number c.args.fuel (outcome_of c.args.outcome) in
    let out = sent g kept (c.in_ok-keep_outcome.ensures.kept g s a) in
    subst (λ (b : Bool). IsLiving g (cond b (send Replies c.args.conn frame kept) s) c.reply.new.self) (sym is_open)
    (subst (λ (m : Message). IsLiving g (send Replies c.args.conn m kept) c.reply.new.self) (c.in_ok-frame.ensures g tells) out)) c.reply.ensures.sent

pub returns-then-is_none-clause-lent : goal.returns-then-is_none-clause-lent
returns-then-is_none-clause-lent w c = lent-none c.args.living.now.tasks

pub returns-clause-lent : goal.returns-clause-lent
returns-clause-lent w c = on-any c.reply.result (lent-still c.in_ok-keep_outcome.ensures.lent c.reply.ensures.tasks)
