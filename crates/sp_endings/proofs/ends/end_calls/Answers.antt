use Rattle.std.proofs.Common.{false, List, get_or, take, sym, ap, subst, ◌∙◌, arith}
use Rattle.std.proofs.lemmas.List.{take_all}
use Rattle.space_ids.specs.declared.ids.ClassId.{ClassId}
use Rattle.sp_requests.specs.declared.asked.Asker.TheVariants as asker
use Rattle.sp_requests.specs.declared.asked.ResultKind.TheVariants as result
use Rattle.sp_requests.specs.declared.ended.EndedCall.{EndedCall}
use Rattle.sp_rules.specs.Behaviours.{Throws}
use Rattle.sp_rules.specs.Lists.{each}
use Rattle.sp_rules.specs.LivingTasks.{reply_to}
use Rattle.sp_rules.specs.State.{State}
use Rattle.sp_endings.specs.Ends.{asked_by, end_call}
use Rattle.sp_living.specs.Livings.{IsLiving}
use Rattle.sp_endings.proofs.EachLemmas.{each-none, each-read}
use Rattle.sp_endings.proofs.EndLemmas.{asks-so}
use Rattle.sp_tasks.proofs.LentLemmas.{lent-none, lent-then}
use Rattle.sp_endings.proofs.ends.end_calls.Goals as goal

pub loop-call-init : goal.loop-call-init
loop-call-init c = record {
  done = λ g s a. subst (λ (u : State). IsLiving g u c.args.living.now) (sym (each-none (end_call g c.args.thrown) s)) a;
  lent = lent-none c.args.living.now.tasks;
}

pub loop-call-preserved : goal.loop-call-preserved
loop-call-preserved c = record {
  done = λ g s a.
      let calls = c.args.calls.now in
      let nothing : EndedCall = record { asker = asker.Call 0 0 result.Int; unsent = false } in
      let call : EndedCall = get_or calls c.loop-call.call-index nothing in
      let before = each (end_call g c.args.thrown) (take c.loop-call.call-index calls) s in
      subst (λ (u : State). IsLiving g u c.reply_to.new.self)
      (ap (λ (k : ClassId). reply_to g (asked_by call.asker) (Throws k) before) c.class.ensures ∙ sym (each-read (end_call g c.args.thrown) calls c.loop-call.call-index nothing s c.loop-call-test.true))
      (c.in_ok-reply_to.ensures.replied g before (asked_by call.asker) (c.loop-call.invariant.done g s a) (asks-so call.asker));
  lent = lent-then c.loop-call.invariant.lent c.in_ok-reply_to.ensures.lent;
}

pub returns-clause-ended : goal.returns-clause-ended
returns-clause-ended c = λ g s a.
    let calls = c.args.calls.now in
    subst (λ (l : List EndedCall). IsLiving g (each (end_call g c.args.thrown) l s) c.loop-call.living) (take_all c.loop-call.call-index calls (omega arith)) (c.loop-call.invariant.done g s a)

pub returns-clause-lent : goal.returns-clause-lent
returns-clause-lent c = c.loop-call.invariant.lent
