use Rattle.std.proofs.Common.{Option, sym, ap, subst}
use Rattle.sp_rules.specs.Lists.{with_some}
use Rattle.sp_rules.specs.LivingTasks.{after_steps, give_back}
use Rattle.sp_rules.specs.State.{State, Living, set_task}
use Rattle.sp_living.specs.Livings.{IsLiving}
use Rattle.sp_living.proofs.HandLemmas.{taken}
use Rattle.sp_living.proofs.StepLemmas.{now-back}
use Rattle.sp_living.proofs.living.Living.give_back.Goals as goal

pub returns-clause-back : goal.returns-clause-back
unfolding give_back
returns-clause-back c = λ g s a.
    let hand = c.args.task in
    let h = taken g s c.args.self.now hand a c.requires in
    subst (λ (u : State). IsLiving g u (record c.args.self.now { tasks = c.give_back.new.self })) (sym (ap (λ (o : Option Living). with_some o s (λ t. set_task (after_steps hand.made) hand.id s)) h.ready))
    (now-back g s c.args.self.now hand c.give_back.new.self h c.give_back.ensures.back a)
