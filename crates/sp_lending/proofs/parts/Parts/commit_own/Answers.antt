use Rattle.std.proofs.Common.{Option, Some, ap, sym, subst, ◌∙◌}
use Rattle.sp_core.specs.Cores.{has_lent}
use Rattle.sp_tasks.specs.Rows.{Hand}
use Rattle.sp_tasks.specs.declared.behaviour.Stand.{Stand}
use Rattle.sp_lending.specs.Hands.{IsTask}
use Rattle.sp_lending.specs.declared.task_parts.TaskParts.{TaskParts}
use Rattle.sp_rules.specs.Space.{state_of}
use Rattle.sp_tasks.specs.Behaviours.{reply_of}
use Rattle.sp_lender.specs.Hands.{committed}
use Rattle.sp_lending.proofs.CommitLemmas.{commit-done, done-task}
use Rattle.sp_lending.proofs.LentIds.{lends-those, lent_ids}
use Rattle.sp_lending.proofs.SpaceLemmas.{kept-space, space-after, space-core}
use Rattle.sp_lending.proofs.TaskLemmas.{same-task, standing, standing-at, with-stand}
use Rattle.sp_lending.proofs.parts.Parts.commit_own.Goals as goal

pub returns-in-Ok-clause-state : goal.returns-in-Ok-clause-state
returns-in-Ok-clause-state c = λ g s is of.
    let space = c.args.self.now in
    let task = c.args.task.now in
    let at = c.in-Some.at in
    let st = standing g task at (sym c.take.ensures.value ∙ c.in-Some.is) of in
    let stands-at = standing-at g task at st in
    let core = c.commit_lent.new.self in
    space-after g s (committed task.hand.task c.args.op.now) space (record space { core = core }) is (λ h stands.
    let t = state_of g h in
    (commit-done g h space core task c.commit_lent.new.task.task at c.args.op.now (reply_of c.in-Ok._replies.0) stands st (c.in-Ok.ensures.accepted g t (lent_ids space.core) stands.core (lends-those space.core) stands.classes stands-at)
    (c.in-Ok.ensures.state g t stands.core stands.classes) (c.commit_lent.ensures.lent g t stands.core) (c.in-Ok.ensures.reply g t stands.core stands.classes) (c.in-Ok.ensures.task g t stands.core)).stands)

pub returns-in-Ok-clause-of : goal.returns-in-Ok-clause-of
returns-in-Ok-clause-of c = λ g s is of.
    let space = c.args.self.now in
    let task = c.args.task.now in
    let at = c.in-Some.at in
    let st = standing g task at (sym c.take.ensures.value ∙ c.in-Some.is) of in
    let h = is.history in
    let stands = is.stands in
    let t = state_of g h in
    let done = commit-done g h space c.commit_lent.new.self task c.commit_lent.new.task.task at c.args.op.now (reply_of c.in-Ok._replies.0) stands st
    (c.in-Ok.ensures.accepted g t (lent_ids space.core) stands.core (lends-those space.core) stands.classes (standing-at g task at st))
    (c.in-Ok.ensures.state g t stands.core stands.classes) (c.commit_lent.ensures.lent g t stands.core) (c.in-Ok.ensures.reply g t stands.core stands.classes) (c.in-Ok.ensures.task g t stands.core) in
    subst (λ (o : Option Stand). IsTask g (record task { hand = c.commit_lent.new.task; stand = o })) (sym c.take.ensures.after) (done-task g h space c.commit_lent.new.self task c.commit_lent.new.task c.args.op.now of.home done)

pub returns-in-Err-clause-of : goal.returns-in-Err-clause-of
returns-in-Err-clause-of c = λ g s is of.
    let task = c.args.task.now in
    subst (λ (t : TaskParts). IsTask g t) (sym c.put_stand.ensures)
    (with-stand g (record task { hand = c.commit_lent.new.task }) (Some c.in-Some.at) (sym c.take.ensures.value ∙ c.in-Some.is) (same-task g task c.commit_lent.new.task c.in-Err.ensures.kept of))

pub returns-in-Err-clause-unchanged : goal.returns-in-Err-clause-unchanged
returns-in-Err-clause-unchanged c = λ g s is.
    let space = c.args.self.now in
    kept-space g s space c.commit_lent.new.self is (λ t core. c.in-Err.ensures.unchanged g t core) (c.commit_lent.ensures.lent g s (space-core g s space is))

pub returns-in-Ok-clause-id : goal.returns-in-Ok-clause-id
returns-in-Ok-clause-id c = λ g s is. ap (λ (hand : Hand). hand.id) (c.in-Ok.ensures.task g s (space-core g s c.args.self.now is))

pub returns-in-Err-clause-id : goal.returns-in-Err-clause-id
returns-in-Err-clause-id c = λ g s is. ap (λ (t : TaskParts). t.hand.task.id) c.put_stand.ensures ∙ ap (λ (hand : Hand). hand.id) c.in-Err.ensures.kept

pub returns-in-Err-clause-own : goal.returns-in-Err-clause-own
returns-in-Err-clause-own c = ap (λ (t : TaskParts). has_lent c.commit_lent.new.self t.hand) c.put_stand.ensures ∙ c.commit_lent.ensures.own
