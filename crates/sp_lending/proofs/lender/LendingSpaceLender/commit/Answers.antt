use Rattle.std.proofs.Common.{ap, sym, subst, ◌∙◌}
use Rattle.sp_lender.specs.Hands.{IsHistorys}
use Rattle.sp_machines.proofs.ResultLemmas.{if-ok, ok-or-on, on-ok}
use Rattle.sp_rules.specs.State.{ready_at}
use Rattle.sp_tasks.specs.Behaviours.{reply_of}
use Rattle.sp_tasks.specs.Rows.{replied_hand}
use Rattle.sp_lending.specs.Hands.{IsTask}
use Rattle.sp_lending.specs.Spaces.{IsSpace}
use Rattle.sp_lending.specs.declared.task_parts.TaskParts.{TaskParts}
use Rattle.sp_lending.proofs.SpaceLemmas.{in-some}
use Rattle.sp_lending.proofs.lender.LendingSpaceLender.commit.Goals as goal

pub invariant_of-self : goal.invariant_of-self
invariant_of-self b c =
    let n = b.N.Setup.setting in
    let k = c.self.invariant in
    ok-or-on c.commit.result _ _ _ (λ state. in-some n _ _ (state n k.state k.is c.task.invariant)) (λ same. in-some n _ _ (same n k.state k.is)) c.commit.ensures.state c.commit.ensures.unchanged

pub invariant_of-task : goal.invariant_of-task
invariant_of-task b c =
    let k = c.self.invariant in
    c.commit.ensures.of b.N.Setup.setting k.state k.is c.task.invariant

pub returns-clause-task : goal.returns-clause-task
returns-clause-task b c =
    if-ok c.commit.result _ _ (λ replies same. λ g s is of.
    same g s (subst (IsSpace g s) (sym c.self.view_is) is) ∙ ap (λ (t : TaskParts). replied_hand (reply_of replies.0) t.hand.task) c.task.view_is) c.commit.ensures.task

pub returns-clause-historys : goal.returns-clause-historys
returns-clause-historys b c =
    on-ok c.commit.result _ _ (λ historys. λ g s is of.
    subst (λ (t : TaskParts). IsTask g t → IsHistorys (ready_at s t.hand.task.id) t.hand.task) c.task.view_is (historys g s (subst (IsSpace g s) (sym c.self.view_is) is)) of) c.commit.ensures.historys

pub returns-clause-of : goal.returns-clause-of
returns-clause-of b c = λ g s is of.
    c.commit.ensures.of g s (subst (IsSpace g s) (sym c.self.view_is) is) (subst (λ (t : TaskParts). IsTask g t) (sym c.task.view_is) of)
