use Rattle.std.proofs.Common.{subst}
use Rattle.std.proofs.lemmas.Result.{on_ok_weaker}
use Rattle.sp_rules.specs.Events.{Ended}
use Rattle.sp_rules.specs.LivingTasks.{keep_result}
use Rattle.sp_rules.specs.State.{RootAcked, say}
use Rattle.sp_tasks.specs.Behaviours.{outcome_of}
use Rattle.sp_tasks.specs.declared.behaviour.Outcome.{Outcome}
use Rattle.sp_living.specs.Livings.{IsLiving}
use Rattle.sp_living.proofs.living.Living.end_lookup.Goals as goal

pub returns-clause-ended : goal.returns-clause-ended
returns-clause-ended c = on_ok_weaker c.keep_root_outcome.result (λ kept. λ g s a.
    subst (λ (o : Outcome). IsLiving g (keep_result g (RootAcked c.args.task) (outcome_of c.args.outcome) (say (Ended c.args.task (outcome_of o)) s)) c.keep_root_outcome.new.self) c.in_ok-told.ensures
    (kept g _ (c.in_ok-say.ensures.said g s a))) c.keep_root_outcome.ensures.kept
