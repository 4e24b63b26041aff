use Rattle.std.proofs.Common.{◌∷◌, refl}
use Rattle.sp_rules.specs.Refusals.{refusal}
use Rattle.sp_rules.specs.Space.{state_of}
use Rattle.sp_rules.proofs.OwnLemmas.{own_references_stand}
use Rattle.sp_tasks.specs.Behaviours.{op_of}
use Rattle.sp_core.specs.Cores.{lent_as}
use Rattle.sp_core.specs.Hands.{committed}
use Rattle.sp_core.proofs.CheckLemmas.{refused-none, refused-some}
use Rattle.sp_core.proofs.OpLemmas.{commit-outputs}
use Rattle.sp_core.proofs.TwinLemmas.{own-main}
use Rattle.sp_core.proofs.space_core.SpaceCore.commit_lent.Goals as goal

pub refuse_commit-requires : goal.refuse_commit-requires
refuse_commit-requires w c = own-main c.args.self.now c.args.task.now c.requires

pub returns-in_err-perform-in-None-clause-outputs : goal.returns-in_err-perform-in-None-clause-outputs
returns-in_err-perform-in-None-clause-outputs w c = λ g s. commit-outputs g s c.args.task.now.task.id c.args.task.now.task.made (op_of c.args.op.now)

pub returns-in-Some-clause-outputs : goal.returns-in-Some-clause-outputs
returns-in-Some-clause-outputs w c = λ g s. commit-outputs g s c.args.task.now.task.id c.args.task.now.task.made (op_of c.args.op.now)

pub returns-in-Some-clause-refused : goal.returns-in-Some-clause-refused
returns-in-Some-clause-refused w c = λ g s lent is lending tells at. refused-some _ c.in-Some.fault (c.in-Some.ensures.refused g s lent is lending tells at)

pub returns-in_ok-perform-in-None-clause-accepted : goal.returns-in_ok-perform-in-None-clause-accepted
returns-in_ok-perform-in-None-clause-accepted w c = λ g s lent is lending tells at. refused-none _ (c.in-None.ensures.refused g s lent is lending tells at)

pub returns-in_ok-perform-in-None-clause-reply : goal.returns-in_ok-perform-in-None-clause-reply
returns-in_ok-perform-in-None-clause-reply w c = λ g s is tells. c.in_ok-perform-in-None.ensures.reply g s is tells (c.in-None.ensures.may refl g s is tells)

pub returns-in_ok-perform-in-None-clause-state : goal.returns-in_ok-perform-in-None-clause-state
returns-in_ok-perform-in-None-clause-state w c = λ g s is tells. c.in_ok-perform-in-None.ensures.state g s is tells (c.in-None.ensures.may refl g s is tells)

pub returns-in_ok-perform-in-None-clause-outputs : goal.returns-in_ok-perform-in-None-clause-outputs
returns-in_ok-perform-in-None-clause-outputs w c = λ g s. commit-outputs g s c.args.task.now.task.id c.args.task.now.task.made (op_of c.args.op.now)

pub returns-in_ok-perform-in-None-clause-standing : goal.returns-in_ok-perform-in-None-clause-standing
returns-in_ok-perform-in-None-clause-standing w c = λ g h lent is lending tells at taken.
    own_references_stand g (committed c.args.task.now.task c.args.op.now ∷ h)
    ((lent_as (state_of g h) c.args.task.now.task lent, refused-none (refusal g (lent_as (state_of g h) c.args.task.now.task lent) (state_of g h) (committed c.args.task.now.task c.args.op.now)) (c.in-None.ensures.refused g (state_of g h) lent is lending tells at)), taken)
