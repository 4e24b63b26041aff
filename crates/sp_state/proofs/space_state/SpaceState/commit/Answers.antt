use Rattle.std.proofs.Common.{ap, ◌∙◌}
use Rattle.sp_rules.specs.LivingTasks.{after_op}
use Rattle.sp_tasks.specs.Behaviours.{op_of, reply_of}
use Rattle.sp_tasks.specs.Rows.{TaskTable, is_in_hand, row_of}
use Rattle.sp_living.proofs.HandLemmas.{taken}
use Rattle.sp_tasks.proofs.LentLemmas.{lent-next}
use Rattle.sp_state.proofs.OpLemmas.{committed-space}
use Rattle.sp_state.proofs.space_state.SpaceState.commit.Goals as goal

pub give_reply-requires : goal.give_reply-requires
give_reply-requires w c = ap (λ (t : TaskTable). is_in_hand (row_of c.args.task.now.id t.rows) c.args.task.now) c.perform.ensures.tasks ∙ c.requires

pub returns-clause-committed : goal.returns-clause-committed
returns-clause-committed w c = λ g s is tells may.
    let hand = c.args.task.now in
    let op = op_of c.args.op.now in
    let h = taken g s c.args.self.now.living hand is.living c.requires in
    let now = c.in_ok-reply.ensures.performed g s is tells may in
    committed-space g hand.id hand.made op (reply_of c.in_ok-reply.reply) h.living s c.perform.new.self c.give_reply.new.self h.ready
    (c.in_ok-reply.ensures.reply g s is tells may) now (c.in_ok-give_reply.ensures.given g (after_op g op s) now.living)

pub returns-clause-lent : goal.returns-clause-lent
returns-clause-lent w c = lent-next c.perform.ensures.tasks c.in_ok-give_reply.ensures.lent
