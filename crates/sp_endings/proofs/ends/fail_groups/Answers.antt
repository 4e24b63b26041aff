use Rattle.std.proofs.Common.{List, take, sym, subst, arith}
use Rattle.std.proofs.lemmas.List.{take_all}
use Rattle.sp_requests.specs.declared.asked.OutGroup.{OutGroup}
use Rattle.sp_rules.specs.Lists.{each}
use Rattle.sp_rules.specs.State.{State}
use Rattle.sp_endings.specs.Ends.{fail_out}
use Rattle.sp_living.specs.Livings.{IsLiving}
use Rattle.sp_endings.proofs.EachLemmas.{each-next, each-none}
use Rattle.sp_tasks.proofs.LentLemmas.{lent-none, lent-then}
use Rattle.sp_endings.proofs.ends.fail_groups.Goals as goal

pub loop-told-init : goal.loop-told-init
loop-told-init w c = record {
  done = λ g s a tells. subst (λ (u : State). IsLiving g u c.args.living.now) (sym (each-none (fail_out g) s)) a;
  lent = lent-none c.args.living.now.tasks;
}

pub loop-told-preserved : goal.loop-told-preserved
loop-told-preserved w c = record {
  done = λ g s a tells.
      let groups = c.args.groups.now in
      let before = each (fail_out g) (take c.loop-told.told-index groups) s in
      subst (λ (u : State). IsLiving g u c.fail_group.new.living) (sym (each-next (fail_out g) groups c.loop-told.told-index c.told-item.result s c.loop-told-test.true c.told-item.is))
      (c.in_ok-fail_group.ensures.failed g before (c.loop-told.invariant.done g s a tells) tells);
  lent = lent-then c.loop-told.invariant.lent c.in_ok-fail_group.ensures.lent;
}

pub returns-clause-failed : goal.returns-clause-failed
returns-clause-failed w c = λ g s a tells.
    let groups = c.args.groups.now in
    subst (λ (l : List OutGroup). IsLiving g (each (fail_out g) l s) c.loop-told.living) (take_all c.loop-told.told-index groups (omega arith)) (c.loop-told.invariant.done g s a tells)

pub returns-clause-lent : goal.returns-clause-lent
returns-clause-lent w c = c.loop-told.invariant.lent
