use Rattle.std.proofs.Common.{subst, sym, ◌∙◌}
use Rattle.sp_state.specs.Spaces.{IsSpace}
use Rattle.sp_state.specs.declared.space_state.SpaceState.{SpaceState}
use Rattle.sp_changes.proofs.boxed_state.BoxedState.lend.Goals as goal

pub returns-clause-same : goal.returns-clause-same
returns-clause-same c = λ g s is. c.lend.ensures.same g s (subst (λ (x : SpaceState). IsSpace g s x) (sym (c.deref_mut.ensures.value ∙ c.self.view_is)) is)
