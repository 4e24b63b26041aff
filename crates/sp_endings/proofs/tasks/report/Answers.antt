use Rattle.std.proofs.Common.{sym, subst}
use Rattle.std.proofs.lemmas.Result.{on_ok_weaker}
use Rattle.sp_rules.specs.LivingTasks.{report}
use Rattle.sp_tasks.specs.Behaviours.{origin_of, outcome_of}
use Rattle.sp_tasks.specs.declared.origin.Origin.{Origin}
use Rattle.sp_living.specs.Livings.{IsLiving}
use Rattle.sp_tasks.proofs.LentLemmas.{lent-same, on-any}
use Rattle.sp_endings.proofs.tasks.report.Goals as goal

pub returns-in-Call-clause-reported : goal.returns-in-Call-clause-reported
returns-in-Call-clause-reported w c = on_ok_weaker c.answer_call.result (λ answered. λ g s a tells.
    subst (λ (o : Origin). IsLiving g (report g (origin_of o) c.args.id c.args.fuel (outcome_of c.args.outcome) s) c.answer_call.new.living) (sym c.in-Call.is) (answered g s c.args.id a tells)) c.answer_call.ensures.answered

pub returns-in-Root-clause-lent : goal.returns-in-Root-clause-lent
returns-in-Root-clause-lent w c = on-any c.keep_root_outcome.result (lent-same c.keep_root_outcome.ensures.tasks)
