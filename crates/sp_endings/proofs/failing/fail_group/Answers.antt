use Rattle.std.proofs.Common.{sym, subst, ap, ◌∙◌}
use Rattle.dgc_client.specs.declared.lease.Due.{Due}
use Rattle.sp_rules.specs.Endings.{fail_group}
use Rattle.sp_rules.specs.State.{State}
use Rattle.sp_living.specs.Livings.{IsLiving}
use Rattle.sp_endings.proofs.FailLemmas.{cleans-fail}
use Rattle.sp_tasks.proofs.LentLemmas.{lent-same}
use Rattle.sp_endings.proofs.failing.fail_group.Goals as goal

pub returns-in-Clean-clause-failed : goal.returns-in-Clean-clause-failed
returns-in-Clean-clause-failed w c = λ g s a tells.
    let group = c.args.group.now in
    let call = c.args.call in
    subst (λ (u : State). IsLiving g u c.clean_failed.new.self)
    (sym (ap (λ (kind : Due). fail_group g kind group call s) c.in-Clean.is ∙ cleans-fail g c.in-Clean.strong group call s)) (c.clean_failed.ensures.failed g s a)

pub returns-in-Clean-clause-lent : goal.returns-in-Clean-clause-lent
returns-in-Clean-clause-lent w c = lent-same c.clean_failed.ensures.tasks
