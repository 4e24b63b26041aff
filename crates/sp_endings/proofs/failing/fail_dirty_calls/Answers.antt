use Rattle.std.proofs.Common.{List, take, sym, subst, ◌∙◌, arith}
use Rattle.std.proofs.lemmas.List.{take_all}
use Rattle.dgc_client.specs.Table.{references_at}
use Rattle.space_ids.specs.declared.ids.ForeignId.{ForeignId}
use Rattle.space_ids.specs.declared.ids.ObjId.{ObjId}
use Rattle.sp_rules.specs.Endings.{fail_dirty}
use Rattle.sp_rules.specs.Lists.{each}
use Rattle.sp_rules.specs.State.{State}
use Rattle.sp_living.specs.Livings.{IsLiving}
use Rattle.sp_endings.proofs.EachLemmas.{each-none, each-read-of}
use Rattle.sp_tasks.proofs.LentLemmas.{lent-none, lent-then}
use Rattle.sp_endings.proofs.failing.fail_dirty_calls.Goals as goal

pub loop-id-init : goal.loop-id-init
loop-id-init w c = record {
  done = λ g s a tells. subst (λ (u : State). IsLiving g u c.args.living.now) (sym (each-none (fail_dirty g c.args.call) s)) a;
  lent = lent-none c.args.living.now.tasks;
}

pub loop-id-preserved : goal.loop-id-preserved
loop-id-preserved w c = record {
  done = λ g s a tells.
      let peer = c.args.group.now.peer in
      let named : ObjId → ForeignId = λ id. record { space = peer; id = id } in
      let before = each (fail_dirty g c.args.call) (references_at peer (take c.loop-id.id-index c.as_slice-id-items.result.now)) s in
      subst (λ (u : State). IsLiving g u c.fail_dirty.new.living) (sym (each-read-of (fail_dirty g c.args.call) named c.as_slice-id-items.result.now c.loop-id.id-index (record { 0 = 0 }) s c.loop-id-test.true))
      (c.in_ok-fail_dirty.ensures.failed g before (c.loop-id.invariant.done g s a tells) tells);
  lent = lent-then c.loop-id.invariant.lent c.in_ok-fail_dirty.ensures.lent;
}

pub returns-clause-failed : goal.returns-clause-failed
returns-clause-failed w c = λ g s a tells.
    let ids = c.as_slice-id-items.result.now in
    subst (λ (l : List ObjId). IsLiving g (each (fail_dirty g c.args.call) (references_at c.args.group.now.peer l) s) c.loop-id.living) (take_all c.loop-id.id-index ids (omega arith) ∙ c.as_slice-id-items.ensures)
    (c.loop-id.invariant.done g s a tells)

pub returns-clause-lent : goal.returns-clause-lent
returns-clause-lent w c = c.loop-id.invariant.lent
