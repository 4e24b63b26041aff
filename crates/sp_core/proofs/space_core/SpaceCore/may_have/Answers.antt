use Rattle.std.proofs.Common.{subst, sym, ◌∙◌}
use Rattle.sp_state.specs.Spaces.{IsSpace}
use Rattle.sp_state.specs.declared.space_state.SpaceState.{SpaceState}
use Rattle.sp_core.proofs.RootLemmas.{free-argument, leased-argument, own-argument}
use Rattle.sp_core.proofs.TwinLemmas.{if-ok}
use Rattle.sp_core.proofs.space_core.SpaceCore.may_have.Goals as goal

pub returns-then-eq : goal.returns-then-eq
returns-then-eq c = λ g s is.
    own-argument g s c.args.reference.now c.args.self.now.id c.is_own_standing.result is.id (sym c.eq.ensures ∙ c.if-eq.true) (c.is_own_standing.ensures g s (c.owner.ensures g s is.state))

pub returns-then-not-is_leased : goal.returns-then-not-is_leased
returns-then-not-is_leased c = λ g s is. free-argument g s c.args.reference.now c.args.self.now.id c.is_leased.result is.id (sym c.eq.ensures ∙ c.if-eq.false) (c.is_leased.ensures g s is) c.if-not-is_leased.true

pub returns : goal.returns
returns c = if-ok c.has_holder.result _ _ (λ held told. λ g s is.
    leased-argument g s c.args.reference.now c.args.self.now.id held c.is_leased.result is.id (sym c.eq.ensures ∙ c.if-eq.false) (told g s (subst (λ (x : SpaceState). IsSpace g s x) (sym c.state.ensures) is.state)) (c.is_leased.ensures g s is) c.if-not-is_leased.false) c.has_holder.ensures.held
