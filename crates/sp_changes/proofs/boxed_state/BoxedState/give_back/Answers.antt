use Rattle.std.proofs.Common.{subst, sym, ◌∙◌}
use Rattle.sp_state.specs.Spaces.{IsSpace}
use Rattle.sp_state.specs.declared.space_state.SpaceState.{SpaceState}
use Rattle.sp_changes.proofs.boxed_state.BoxedState.give_back.Goals as goal

pub returns-clause-back : goal.returns-clause-back
returns-clause-back c = λ g s is. c.give_back.ensures.back g s (subst (λ (x : SpaceState). IsSpace g s x) (sym (c.deref_mut.ensures.value ∙ c.self.view_is)) is)
