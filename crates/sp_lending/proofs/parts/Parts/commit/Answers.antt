use Rattle.std.proofs.Common.{Option, Some, sym, subst, ◌∙◌}
use Rattle.sp_tasks.specs.declared.behaviour.Stand.{Stand}
use Rattle.sp_lending.specs.Hands.{IsTask}
use Rattle.sp_lending.specs.declared.task_parts.TaskParts.{TaskParts}
use Rattle.sp_rules.specs.Space.{state_of}
use Rattle.sp_tasks.specs.Behaviours.{op_of, reply_of}
use Rattle.sp_lender.specs.Hands.{committed}
use Rattle.sp_lending.proofs.CommitLemmas.{commit-done, done-task}
use Rattle.sp_lending.proofs.FoundLemmas.{found-commit}
use Rattle.sp_lending.proofs.LentIds.{lends-those, lent_ids}
use Rattle.sp_lending.proofs.SpaceLemmas.{kept-space, space-after, space-core}
use Rattle.sp_lending.proofs.TaskLemmas.{same-task, standing, standing-at, with-stand}
use Rattle.sp_lending.proofs.parts.Parts.commit.Goals as goal

pub returns-in-Ok-clause-reply : goal.returns-in-Ok-clause-reply
returns-in-Ok-clause-reply c = λ g s is. c.in-Ok.ensures.reply g s (space-core g s c.args.self.now is) is.stands.classes

pub returns-in-Ok-clause-state : goal.returns-in-Ok-clause-state
returns-in-Ok-clause-state c = λ g s is of.
    let space = c.args.self.now in
    let task = c.args.task.now in
    let at = c.in-Some.at in
    let st = standing g task at (sym c.take.ensures.value ∙ c.in-Some.is) of in
    let stands-at = standing-at g task at st in
    let core = c.commit.new.self in
    space-after g s (committed task.hand.task c.args.op.now) space (record space { core = core }) is (λ h stands.
    let t = state_of g h in
    (commit-done g h space core task c.commit.new.task.task at c.args.op.now (reply_of c.in-Ok.replies.0) stands st (c.in-Ok.ensures.accepted g t (lent_ids space.core) stands.core (lends-those space.core) stands.classes stands-at)
    (c.in-Ok.ensures.state g t stands.core stands.classes) (c.commit.ensures.lent g t stands.core) (c.in-Ok.ensures.reply g t stands.core stands.classes) (c.in-Ok.ensures.task g t stands.core)).stands)

pub returns-in-Ok-clause-task : goal.returns-in-Ok-clause-task
returns-in-Ok-clause-task c = λ g s is. c.in-Ok.ensures.task g s (space-core g s c.args.self.now is)

pub returns-in-Ok-clause-historys : goal.returns-in-Ok-clause-historys
returns-in-Ok-clause-historys c = λ g s is of.
    let space = c.args.self.now in
    let task = c.args.task.now in
    let st = standing g task c.in-Some.at (sym c.take.ensures.value ∙ c.in-Some.is) of in
    (found-commit g s space.core task.hand.task (op_of c.args.op.now)
    (c.in-Ok.ensures.accepted g s (lent_ids space.core) (space-core g s space is) (lends-those space.core) is.stands.classes (standing-at g task c.in-Some.at st))).found.historys

pub returns-in-Ok-clause-of : goal.returns-in-Ok-clause-of
returns-in-Ok-clause-of c = λ g s is of.
    let space = c.args.self.now in
    let task = c.args.task.now in
    let at = c.in-Some.at in
    let st = standing g task at (sym c.take.ensures.value ∙ c.in-Some.is) of in
    let h = is.history in
    let stands = is.stands in
    let t = state_of g h in
    let done = commit-done g h space c.commit.new.self task c.commit.new.task.task at c.args.op.now (reply_of c.in-Ok.replies.0) stands st
    (c.in-Ok.ensures.accepted g t (lent_ids space.core) stands.core (lends-those space.core) stands.classes (standing-at g task at st))
    (c.in-Ok.ensures.state g t stands.core stands.classes) (c.commit.ensures.lent g t stands.core) (c.in-Ok.ensures.reply g t stands.core stands.classes) (c.in-Ok.ensures.task g t stands.core) in
    subst (λ (o : Option Stand). IsTask g (record task { hand = c.commit.new.task; stand = o })) (sym c.take.ensures.after) (done-task g h space c.commit.new.self task c.commit.new.task c.args.op.now of.home done)

pub returns-in-Err-clause-of : goal.returns-in-Err-clause-of
returns-in-Err-clause-of c = λ g s is of.
    let task = c.args.task.now in
    subst (λ (t : TaskParts). IsTask g t) (sym c.put_stand.ensures)
    (with-stand g (record task { hand = c.commit.new.task }) (Some c.in-Some.at) (sym c.take.ensures.value ∙ c.in-Some.is) (same-task g task c.commit.new.task c.in-Err.ensures.kept of))

pub returns-in-Err-clause-unchanged : goal.returns-in-Err-clause-unchanged
returns-in-Err-clause-unchanged c = λ g s is.
    let space = c.args.self.now in
    kept-space g s space c.commit.new.self is (λ t core. c.in-Err.ensures.unchanged g t core) (c.commit.ensures.lent g s (space-core g s space is))
