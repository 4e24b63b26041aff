use Rattle.std.proofs.Common.{◌≡◌, sym, subst}
use Rattle.std.specs.Prelude.{map}
use Rattle.sp_lender.specs.Hands.{IsHistorys, parked}
use Rattle.sp_outputs.specs.Notes.{output_of}
use Rattle.sp_rules.specs.Space.{on}
use Rattle.sp_rules.specs.State.{ready_at}
use Rattle.sp_lending.specs.Hands.{IsTask}
use Rattle.sp_lending.specs.Spaces.{IsSpace}
use Rattle.sp_lending.specs.declared.task_parts.TaskParts.{TaskParts}
use Rattle.sp_lending.proofs.SpaceLemmas.{in-some}
use Rattle.sp_lending.proofs.lender.LendingSpaceLender.park.Goals as goal

pub park-requires : goal.park-requires
park-requires b c = let k = c.self.invariant in record { known = record { setting = b.N.Setup.setting; state = k.state; is = k.is; of = c.into_parts.ensures.of } }

pub of-requires : goal.of-requires
of-requires b c = c.in-Err.ensures.of b.N.Setup.setting c.into_parts.ensures.of

pub invariant_of-self : goal.invariant_of-self
invariant_of-self b c =
    let n = b.N.Setup.setting in
    let k = c.self.invariant in
    in-some n _ _ (c.in-Ok.ensures.state n k.state k.is c.into_parts.ensures.of)

pub invariant_of-self-2 : goal.invariant_of-self-2
invariant_of-self-2 b c =
    let n = b.N.Setup.setting in
    let k = c.self.invariant in
    in-some n _ _ (c.in-Err.ensures.unchanged n k.state k.is)

pub returns-in-Ok-clause-outputs : goal.returns-in-Ok-clause-outputs
returns-in-Ok-clause-outputs b c = λ g s is of.
    subst (λ (t : TaskParts). IsTask g t → map output_of c.in-Ok.outputs.items ≡ (on g (parked t.hand.task) s).1) c.into_parts.ensures.parts (c.in-Ok.ensures.outputs g s (subst (IsSpace g s) (sym c.self.view_is) is)) of

pub returns-in-Ok-clause-state : goal.returns-in-Ok-clause-state
returns-in-Ok-clause-state b c = λ g s is of.
    subst (λ (t : TaskParts). IsTask g t → IsSpace g (on g (parked t.hand.task) s).0 c.park.new.self) c.into_parts.ensures.parts (c.in-Ok.ensures.state g s (subst (IsSpace g s) (sym c.self.view_is) is)) of

pub returns-in-Ok-clause-historys : goal.returns-in-Ok-clause-historys
returns-in-Ok-clause-historys b c = λ g s is of.
    subst (λ (t : TaskParts). IsTask g t → IsHistorys (ready_at s t.hand.task.id) t.hand.task) c.into_parts.ensures.parts (c.in-Ok.ensures.historys g s (subst (IsSpace g s) (sym c.self.view_is) is)) of
