use Rattle.std.proofs.Common.{sym, ap, subst, ◌∙◌}
use Rattle.std.proofs.lemmas.Result.{IfOk-weaker, on_ok_weaker}
use Rattle.sp_rules.specs.LivingTasks.{after_op, op_reply}
use Rattle.sp_rules.specs.Refusals.{fits_store}
use Rattle.sp_rules.specs.State.{object_at}
use Rattle.sp_tasks.specs.Behaviours.{op_of}
use Rattle.sp_tasks.specs.declared.behaviour.Op.{Op}
use Rattle.sp_state.specs.Spaces.{IsSpace}
use Rattle.sp_state.proofs.OpLemmas.{call-reply, called-space, get-reply, got-space, put-reply, takes-there}
use Rattle.sp_state.proofs.space_state.SpaceState.perform.Goals as goal

pub returns-in-Create-clause-reply : goal.returns-in-Create-clause-reply
returns-in-Create-clause-reply w c = IfOk-weaker c.create.result _ _ (λ reply told. λ g s is tells may. told g s is tells may.numbers ∙ ap (λ (op : Op). op_reply g (op_of op) s) (sym c.in-Create.is)) c.create.ensures.reply

pub returns-in-Create-clause-performed : goal.returns-in-Create-clause-performed
returns-in-Create-clause-performed w c = on_ok_weaker c.create.result (λ made. λ g s is tells may.
    subst (λ (op : Op). IsSpace g (after_op g (op_of op) s) c.create.new.self) (sym c.in-Create.is) (made g s is tells may.numbers)) c.create.ensures.made

pub returns-in_ok-get-in-Get-clause-reply : goal.returns-in_ok-get-in-Get-clause-reply
returns-in_ok-get-in-Get-clause-reply w c = λ g s is tells may.
    get-reply g s c.in-Get.object c.in-Get.slot _ (c.in_ok-get-in-Get.ensures g s is (ap (λ (op : Op). fits_store g s (op_of op)) (sym c.in-Get.is) ∙ may.fits)) ∙ ap (λ (op : Op). op_reply g (op_of op) s) (sym c.in-Get.is)

pub returns-in_ok-get-in-Get-clause-performed : goal.returns-in_ok-get-in-Get-clause-performed
returns-in_ok-get-in-Get-clause-performed w c = λ g s is tells may.
    subst (λ (op : Op). IsSpace g (after_op g (op_of op) s) c.args.self.now) (sym c.in-Get.is) (got-space g c.in-Get.object c.in-Get.slot s c.args.self.now is)

pub returns-in_ok-put-in-Put-clause-reply : goal.returns-in_ok-put-in-Put-clause-reply
returns-in_ok-put-in-Put-clause-reply w c = λ g s is tells may.
    put-reply g s c.in-Put.object c.in-Put.slot c.in-Put.value ∙ ap (λ (op : Op). op_reply g (op_of op) s) (sym c.in-Put.is)

pub returns-in_ok-put-in-Put-clause-performed : goal.returns-in_ok-put-in-Put-clause-performed
returns-in_ok-put-in-Put-clause-performed w c = λ g s is tells may.
    subst (λ (op : Op). IsSpace g (after_op g (op_of op) s) c.put.new.self) (sym c.in-Put.is) (c.in_ok-put-in-Put.ensures.put g s is (takes-there g (object_at s c.in-Put.object) c.in-Put.slot c.in-Put.value (ap (λ (op : Op). fits_store g s (op_of op)) (sym c.in-Put.is) ∙ may.fits)))

pub returns-in-Call-clause-reply : goal.returns-in-Call-clause-reply
returns-in-Call-clause-reply w c = λ g s is tells may.
    call-reply g s c.in-Call.target c.in-Call.method c.in-Call.arguments ∙ ap (λ (op : Op). op_reply g (op_of op) s) (sym c.in-Call.is)

pub returns-in-Call-clause-performed : goal.returns-in-Call-clause-performed
returns-in-Call-clause-performed w c = λ g s is tells may.
    subst (λ (op : Op). IsSpace g (after_op g (op_of op) s) c.args.self.now) (sym c.in-Call.is) (called-space g c.in-Call.target c.in-Call.method c.in-Call.arguments s c.args.self.now is)
