use Rattle.std.proofs.lemmas.Result.{IfOk-weaker}
use Rattle.std.proofs.Common.{subst, sym}
use Rattle.sp_state.specs.Spaces.{IsSpace}
use Rattle.sp_state.specs.declared.space_state.SpaceState.{SpaceState}
use Rattle.sp_changes.proofs.boxed_state.BoxedState.copy.Goals as goal

pub returns-clause-stands : goal.returns-clause-stands
returns-clause-stands c = IfOk-weaker c.new.result _ _ (λ boxed same. λ g s is rest. subst (λ (x : SpaceState). IsSpace g s x) (sym same)
    (c.in_ok-copy.ensures.stands g s (subst (λ (x : SpaceState). IsSpace g s x) (sym c.state.ensures) is) rest)) c.new.ensures
