use Rattle.std.proofs.Common.{Some, sym, ap, subst, ◌∙◌}
use Rattle.std.proofs.lemmas.Result.{on_ok_weaker}
use Rattle.sp_rules.specs.Behaviours.{Outcome}
use Rattle.sp_rules.specs.Events.{Ended}
use Rattle.sp_rules.specs.LivingTasks.{keep_result}
use Rattle.sp_rules.specs.State.{State, RootAcked, say}
use Rattle.sp_tasks.specs.Behaviours.{reply_of}
use Rattle.sp_living.specs.Livings.{IsLiving}
use Rattle.sp_living.proofs.StepLemmas.{asked-call, asked-lookup}
use Rattle.sp_tasks.proofs.LentLemmas.{lent-same, on-any}
use Rattle.sp_living.proofs.living.Living.reply_to.Goals as goal

pub returns-in-Call-clause-replied : goal.returns-in-Call-clause-replied
returns-in-Call-clause-replied c = on_ok_weaker c.reply_task.result (λ replied. λ g s question a asked.
    subst (λ (u : State). IsLiving g u c.reply_task.new.self) (sym (asked-call g question c.in-Call.task c.in-Call.lent c.in-Call.kind (reply_of c.args.reply) s (asked ∙ ap (λ x. Some x) c.in-Call.is)))
    (replied g s a)) c.reply_task.ensures.replied

pub returns-in-Lookup-clause-replied : goal.returns-in-Lookup-clause-replied
returns-in-Lookup-clause-replied c = on_ok_weaker c.end_lookup.result (λ ended. λ g s question a asked.
    subst (λ (u : State). IsLiving g u c.end_lookup.new.self)
    (ap (λ (o : Outcome). keep_result g (RootAcked c.in-Lookup.task) o (say (Ended c.in-Lookup.task o) s)) c.outcome_with.ensures ∙ sym (asked-lookup g question c.in-Lookup.task (reply_of c.args.reply) s (asked ∙ ap (λ x. Some x) c.in-Lookup.is)))
    (ended g s a)) c.end_lookup.ensures.ended

pub returns-in-Lookup-clause-lent : goal.returns-in-Lookup-clause-lent
returns-in-Lookup-clause-lent c = on-any c.end_lookup.result (lent-same c.end_lookup.ensures.tasks)
