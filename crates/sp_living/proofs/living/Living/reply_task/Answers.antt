use Rattle.std.proofs.Common.{List, Option, sym, ap, subst, ◌∙◌}
use Rattle.std.specs.Prelude.{not}
use Rattle.std.proofs.lemmas.Result.{on_ok_weaker}
use Rattle.space_ids.specs.declared.ids.Ref.{Ref}
use Rattle.sp_rules.specs.Events.{Ready}
use Rattle.sp_rules.specs.Holders.{hold}
use Rattle.sp_rules.specs.Lists.{with_some}
use Rattle.sp_rules.specs.LivingTasks.{after_reply, reply_task}
use Rattle.sp_rules.specs.State.{State, Living, say, set_task}
use Rattle.sp_rules.specs.Tasks.{answer, gained}
use Rattle.sp_tasks.specs.Behaviours.{reply_of}
use Rattle.sp_tasks.specs.Rows.{row_of}
use Rattle.sp_living.specs.Holding.{held_at}
use Rattle.sp_living.specs.Livings.{IsLiving}
use Rattle.sp_living.proofs.StepLemmas.{absent, gains, held-of, no-origin, now-answered, waits-there}
use Rattle.sp_tasks.proofs.LentLemmas.{lent-none, lent-still, on-any}
use Rattle.sp_living.proofs.living.Living.reply_task.Goals as goal

pub returns-then-is_none-clause-replied : goal.returns-then-is_none-clause-replied
unfolding reply_task
returns-then-is_none-clause-replied c = λ g s a.
    let l = c.args.self.now in
    let id = c.args.id in
    let reply = reply_of c.args.reply in
    let none = absent g s l id (no-origin c.origin.result (row_of id l.tasks.rows) (c.is_none.ensures ∙ ap not c.if-is_none.true) c.origin.ensures) a in
    subst (λ (o : Option Living). IsLiving g (with_some o s (λ t. say (Ready id) (hold g (gained t.task (answer g reply t.task)) (set_task (after_reply g reply) id s)))) l) (sym none) a

pub returns-clause-replied : goal.returns-clause-replied
unfolding reply_task
returns-clause-replied c = on_ok_weaker c.say.result (λ told. λ g s a.
    let l = c.args.self.now in
    let id = c.args.id in
    let reply = reply_of c.args.reply in
    let waits = sym c.waits.ensures ∙ c.if-not-waits.false in
    let (t, there) = waits-there g s l id waits a in
    let begun : State = set_task (after_reply g reply) id s in
    let a1 = now-answered g s l id reply c.answer_reserved.new.self waits c.answer_reserved.ensures.answered a in
    let a2 = c.in_ok-hold_found.ensures.held g begun a1 in
    let refs = c.gained-gained.ensures ∙ gains g reply t.task (held_at id l) (held-of g s l id t a there) in
    subst (λ (u : State). IsLiving g u c.say.new.self)
    (ap (λ (rs : List Ref). say (Ready id) (hold g rs begun)) refs ∙ sym (ap (λ (o : Option Living). with_some o s (λ t. say (Ready id) (hold g (gained t.task (answer g reply t.task)) (set_task (after_reply g reply) id s)))) there))
    (told g _ a2)) c.say.ensures.said

pub returns-then-is_none-clause-lent : goal.returns-then-is_none-clause-lent
returns-then-is_none-clause-lent c = lent-none c.args.self.now.tasks

pub returns-clause-lent : goal.returns-clause-lent
returns-clause-lent c = on-any c.say.result (lent-still (lent-still c.answer_reserved.ensures.lent c.hold_found.ensures.tasks) c.say.ensures.tasks)
