use Rattle.std.proofs.Common.{sym, subst}
use Rattle.sp_lender.specs.Hands.{IsHistorys, given_back}
use Rattle.sp_rules.specs.Space.{on}
use Rattle.sp_rules.specs.State.{ready_at}
use Rattle.sp_lending.specs.Hands.{IsTask}
use Rattle.sp_lending.specs.Spaces.{IsSpace}
use Rattle.sp_lending.specs.declared.task_parts.TaskParts.{TaskParts}
use Rattle.sp_lending.proofs.SpaceLemmas.{in-some}
use Rattle.sp_lending.proofs.lender.LendingSpaceLender.give_back.Goals as goal

pub give_back-requires : goal.give_back-requires
give_back-requires b c = let k = c.self.invariant in record { known = record { setting = b.N.Setup.setting; state = k.state; is = k.is } }

pub of-requires : goal.of-requires
of-requires b c = subst (λ (t : TaskParts). IsTask b.N.Setup.setting t) (sym c.in-Err.ensures.task) c.into_parts.ensures.of

pub invariant_of-self : goal.invariant_of-self
invariant_of-self b c =
    let n = b.N.Setup.setting in
    let k = c.self.invariant in
    in-some n _ _ (c.in-Ok.ensures.state n k.state k.is c.into_parts.ensures.of)

pub invariant_of-self-2 : goal.invariant_of-self-2
invariant_of-self-2 b c =
    let n = b.N.Setup.setting in
    let k = c.self.invariant in
    in-some n _ _ (c.in-Err.ensures.unchanged n k.state k.is)

pub returns-in-Ok-clause-state : goal.returns-in-Ok-clause-state
returns-in-Ok-clause-state b c = λ g s is of.
    subst (λ (t : TaskParts). IsTask g t → IsSpace g (on g (given_back t.hand.task) s).0 c.give_back.new.self) c.into_parts.ensures.parts (c.in-Ok.ensures.state g s (subst (IsSpace g s) (sym c.self.view_is) is)) of

pub returns-in-Ok-clause-historys : goal.returns-in-Ok-clause-historys
returns-in-Ok-clause-historys b c = λ g s is of.
    subst (λ (t : TaskParts). IsHistorys (ready_at s t.hand.task.id) t.hand.task) c.into_parts.ensures.parts (c.in-Ok.ensures.historys g s (subst (IsSpace g s) (sym c.self.view_is) is))
