use Rattle.std.proofs.Common.{Option, Some, None, ap, sym, subst, ◌∙◌}
use Rattle.std.specs.Prelude.{◌==◌, ◌||◌, IfSome}
use Rattle.sp_state.specs.Hands as state
use Rattle.sp_state.specs.declared.space_state.SpaceState.{SpaceState}
use Rattle.sp_core.specs.Hands.{IsSecond}
use Rattle.sp_core.specs.declared.space_core.SpaceCore.{SpaceCore}
use Rattle.sp_core.proofs.LendLemmas.{lend-hand, lend-lent, lend-new, lent-both}
use Rattle.sp_core.proofs.LentLemmas.{lent-same, second-after}
use Rattle.sp_core.proofs.TwinLemmas.{both, core-is, fits-lent, if-some, with-states}
use Rattle.sp_core.proofs.space_core.SpaceCore.lend.Goals as goal

pub returns-in_default-clause-lent : goal.returns-in_default-clause-lent
returns-in_default-clause-lent c = λ g s lent is lends. lend-lent g s c.args.self.now c.args.task lent None c.in_default.ensures.task is lends

pub returns-in_default-clause-state : goal.returns-in_default-clause-state
returns-in_default-clause-state c = λ g s is.
    with-states g s s c.args.self.now c.lend.new.self c.args.self.now.spare is (c.lend.ensures.same g s is.state)
    (if-some c.args.self.now.spare (IsSecond g s c.args.self.now.state) (IsSecond g s c.lend.new.self) (λ x second. second-after g s c.args.self.now.state c.lend.new.self x c.in_default.ensures.unlent second) is.spare) is.rest

pub returns-in_default-clause-unchanged : goal.returns-in_default-clause-unchanged
returns-in_default-clause-unchanged c = c.in_default.ensures.unlent.lent

pub returns-clause-lent : goal.returns-clause-lent
returns-clause-lent c = λ g s lent is lends. lend-lent g s c.args.self.now c.args.task lent (Some c.in-Some.hand) c.in-Some.ensures.task is lends

pub returns-clause-hand : goal.returns-clause-hand
returns-clause-hand c = λ g s is. lend-hand c.args.self.now c.args.task c.in-Some.hand c.in-Some.ensures.task g s is

pub returns-clause-task : goal.returns-clause-task
returns-clause-task c = lend-new c.args.task _ c.in-Some.hand c.in-Some.ensures.task

pub returns-clause-own : goal.returns-clause-own
returns-clause-own c =
    let new = lend-new c.args.task _ c.in-Some.hand c.in-Some.ensures.task in
    both _ _ (ap (λ (core : SpaceCore). state.has_lent core.state c.in-Some.hand) c.lend_twin-twin.ensures.core ∙ c.in-Some.ensures.own)
    (fits-lent c.lend_twin-twin.new.self.spare c.in-Some.hand c.lend_twin-twin.result c.args.task new.0 new.1 c.lend_twin-twin.ensures.own c.lend_twin-twin.ensures.twin)

pub returns-clause-state : goal.returns-clause-state
returns-clause-state c = λ g s is.
    let after = c.lend_twin-twin.new.self in
    core-is g s (record c.args.self.now { state = c.lend.new.self; spare = after.spare }) after c.lend_twin-twin.ensures.core
    (lent-both g s c.args.task c.in-Some.hand c.args.self.now c.lend.new.self after.spare c.lend_twin-twin.result is c.in-Some.ensures.task (c.lend.ensures.same g s is.state) c.in-Some.ensures.lent c.lend_twin-twin.ensures.lent)

pub returns-clause-others : goal.returns-clause-others
returns-clause-others c = λ other.
    lent-same (record c.args.self.now { state = c.lend.new.self }) c.lend_twin-twin.new.self (ap (λ (core : SpaceCore). core.state) c.lend_twin-twin.ensures.core) other ∙ c.in-Some.ensures.lent.lent other
