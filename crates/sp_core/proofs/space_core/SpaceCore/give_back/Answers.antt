use Rattle.std.proofs.Common.{◌∷◌, cond, None, Some, ap, subst, ◌∙◌}
use Rattle.std.specs.Prelude.{not, ◌==◌, ◌&&◌}
use Rattle.sp_rules.specs.Refusals.{NotLent}
use Rattle.sp_rules.specs.Space.{on, state_of}
use Rattle.sp_rules.proofs.OwnLemmas.{own_references_stand}
use Rattle.sp_tasks.specs.Rows.{Hand}
use Rattle.sp_core.specs.Cores.{IsCore, is_lent, lent_as}
use Rattle.sp_core.specs.Hands.{given_back}
use Rattle.sp_core.proofs.HandLemmas.{back-refusal, not-lent}
use Rattle.sp_core.proofs.OpLemmas.{back-outputs}
use Rattle.sp_core.proofs.space_core.SpaceCore.give_back.Goals as goal

pub returns-then-not-lends-clause-outputs : goal.returns-then-not-lends-clause-outputs
returns-then-not-lends-clause-outputs c = λ g s. back-outputs g s c.args.task.task.id c.args.task.task.made

pub returns-then-not-lends-clause-refused : goal.returns-then-not-lends-clause-refused
returns-then-not-lends-clause-refused c = λ g s lent is lending.
    not-lent _ (back-refusal g s c.args.self.now c.args.task.task lent c.lends.result is lending c.lends.ensures ∙ ap (λ b. cond b None (Some NotLent)) c.if-not-lends.true)

pub returns-clause-accepted : goal.returns-clause-accepted
returns-clause-accepted c = λ g s lent is lending.
    back-refusal g s c.args.self.now c.args.task.task lent c.lends.result is lending c.lends.ensures ∙ ap (λ b. cond b None (Some NotLent)) c.if-not-lends.false

pub returns-clause-outputs : goal.returns-clause-outputs
returns-clause-outputs c = λ g s. back-outputs g s c.args.task.task.id c.args.task.task.made

pub returns-clause-state : goal.returns-clause-state
returns-clause-state c = λ g s is. subst (λ (hand : Hand). IsCore g (on g (given_back hand) s).0 c.take_back.new.self) c.keep_twin.ensures.task (c.take_back.ensures.state g s is)

pub returns-clause-others : goal.returns-clause-others
returns-clause-others c = λ other. c.take_back.ensures.others other ∙ ap (λ (hand : Hand). not (other == hand.id) && is_lent c.args.self.now other) c.keep_twin.ensures.task

pub returns-clause-standing : goal.returns-clause-standing
returns-clause-standing c = λ g h lent is lending taken.
    own_references_stand g (given_back c.args.task.task ∷ h)
    ((lent_as (state_of g h) c.args.task.task lent, back-refusal g (state_of g h) c.args.self.now c.args.task.task lent c.lends.result is lending c.lends.ensures ∙ ap (λ b. cond b None (Some NotLent)) c.if-not-lends.false), taken)
