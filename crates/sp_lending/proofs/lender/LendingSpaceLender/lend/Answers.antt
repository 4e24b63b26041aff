use Rattle.std.proofs.Common.{sym, subst}
use Rattle.sp_lender.specs.Hands.{IsHistorys}
use Rattle.sp_rules.specs.State.{ready_at}
use Rattle.sp_lending.specs.Hands.{IsTask}
use Rattle.sp_lending.specs.Spaces.{IsSpace}
use Rattle.sp_lending.specs.declared.task_parts.TaskParts.{TaskParts}
use Rattle.sp_lending.proofs.SpaceLemmas.{in-some}
use Rattle.sp_lending.proofs.lender.LendingSpaceLender.lend.Goals as goal

pub of-requires : goal.of-requires
of-requires b c = c.in-Some.ensures.of b.N.Setup.setting c.self.invariant.state c.self.invariant.is

pub returns-clause-of : goal.returns-clause-of
returns-clause-of b c = λ g s is. subst (λ (t : TaskParts). IsTask g t) (sym c.of.ensures) (c.in-Some.ensures.of g s (subst (IsSpace g s) (sym c.self.view_is) is))

pub returns-clause-historys : goal.returns-clause-historys
returns-clause-historys b c = λ g s is.
    subst (λ (t : TaskParts). IsHistorys (ready_at s c.args.task) t.hand.task) (sym c.of.ensures) (c.in-Some.ensures.historys g s (subst (IsSpace g s) (sym c.self.view_is) is))

pub invariant_of-self-2 : goal.invariant_of-self-2
invariant_of-self-2 b c =
    let n = b.N.Setup.setting in
    let k = c.self.invariant in
    in-some n _ _ (c.lend.ensures.state n k.state k.is)
