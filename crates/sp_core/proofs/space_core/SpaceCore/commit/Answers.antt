use Rattle.std.proofs.Common.{◌≡◌, ◌∷◌, None, ap, sym, subst, ◌∙◌}
use Rattle.std.proofs.lemmas.Result.{IfErr-weaker, on_err_weaker, on_ok_weaker}
use Rattle.sp_events.specs.FaultNames.{Refuses}
use Rattle.sp_living.specs.Hands.{task_of}
use Rattle.sp_rules.specs.Origins.{OwnStand}
use Rattle.sp_rules.specs.Refusals.{refusal}
use Rattle.sp_rules.specs.Space.{on, state_of}
use Rattle.sp_rules.specs.Tasks.{stand}
use Rattle.sp_tasks.specs.Behaviours.{op_of, reply_of}
use Rattle.sp_tasks.specs.Rows.{Hand, replied_hand}
use Rattle.sp_core.specs.Cores.{IsCore, lends, lent_as}
use Rattle.sp_core.specs.Hands.{committed}
use Rattle.sp_core.proofs.OpLemmas.{commit-outputs}
use Rattle.sp_core.proofs.TwinLemmas.{both, if-ok}
use Rattle.sp_core.proofs.space_core.SpaceCore.commit.Goals as goal

pub returns-then-not-lends-clause-outputs : goal.returns-then-not-lends-clause-outputs
returns-then-not-lends-clause-outputs w c = λ g s. commit-outputs g s c.args.task.now.task.id c.args.task.now.task.made (op_of c.args.op.now)

pub returns-then-not-lends-clause-refused : goal.returns-then-not-lends-clause-refused
returns-then-not-lends-clause-refused w c = λ g s lent is lending tells at. c.refuse_unlent.ensures.committed g s lent (op_of c.args.op.now) is lending

pub commit_lent-requires : goal.commit_lent-requires
commit_lent-requires w c = both _ _ (ap (λ (hand : Hand). lends c.args.self.now hand) c.keep_twin.ensures.task ∙ sym c.lends.ensures ∙ c.if-not-lends.false) c.keep_twin.ensures.fits

pub returns-clause-accepted : goal.returns-clause-accepted
returns-clause-accepted w c = on_ok_weaker c.commit_lent.result (λ told. λ g s lent is lending tells at.
    let keep = c.keep_twin.ensures.task in
    subst (λ (hand : Hand). refusal g (lent_as s hand lent) s (committed hand c.args.op.now) ≡ None) keep (told g s lent is lending tells (ap (λ (hand : Hand). stand (task_of g hand)) keep ∙ at))) c.commit_lent.ensures.accepted

pub returns-clause-outputs : goal.returns-clause-outputs
returns-clause-outputs w c = λ g s. commit-outputs g s c.args.task.now.task.id c.args.task.now.task.made (op_of c.args.op.now)

pub returns-clause-state : goal.returns-clause-state
returns-clause-state w c = on_ok_weaker c.commit_lent.result (λ told. λ g s is tells.
    subst (λ (hand : Hand). IsCore g (on g (committed hand c.args.op.now) s).0 c.commit_lent.new.self) c.keep_twin.ensures.task (told g s is tells)) c.commit_lent.ensures.state

pub returns-clause-task : goal.returns-clause-task
returns-clause-task w c = if-ok c.commit_lent.result _ _ (λ replies told. λ g s is. told g s is ∙ ap (λ (hand : Hand). replied_hand (reply_of replies.0) hand) c.keep_twin.ensures.task) c.commit_lent.ensures.task

pub returns-clause-lent : goal.returns-clause-lent
returns-clause-lent w c = c.commit_lent.ensures.lent

pub returns-clause-refused : goal.returns-clause-refused
returns-clause-refused w c = IfErr-weaker c.commit_lent.result _ _ (λ why told. λ g s lent is lending tells at.
    let keep = c.keep_twin.ensures.task in
    subst (λ (hand : Hand). Refuses (refusal g (lent_as s hand lent) s (committed hand c.args.op.now)) why) keep (told g s lent is lending tells (ap (λ (hand : Hand). stand (task_of g hand)) keep ∙ at))) c.commit_lent.ensures.refused

pub returns-clause-kept : goal.returns-clause-kept
returns-clause-kept w c = on_err_weaker c.commit_lent.result (λ told. told ∙ c.keep_twin.ensures.task) c.commit_lent.ensures.kept

pub returns-clause-standing : goal.returns-clause-standing
returns-clause-standing w c = on_ok_weaker c.commit_lent.result (λ told. λ g h lent is lending tells at taken.
    let keep = c.keep_twin.ensures.task in
    subst (λ (hand : Hand). OwnStand g (state_of g (committed hand c.args.op.now ∷ h))) keep (told g h lent is lending tells (ap (λ (hand : Hand). stand (task_of g hand)) keep ∙ at) taken)) c.commit_lent.ensures.standing
