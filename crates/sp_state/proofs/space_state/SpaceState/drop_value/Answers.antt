use Rattle.std.proofs.Common.{[], ◌∷◌, sym, subst}
use Rattle.space_ids.specs.declared.value.Value.{Value}
use Rattle.sp_rules.specs.Holders.{drop}
use Rattle.sp_rules.specs.References.{reference_of}
use Rattle.sp_state.specs.Spaces.{IsSpace}
use Rattle.sp_state.specs.declared.space_state.SpaceState.{SpaceState}
use Rattle.sp_state.proofs.OpLemmas.{dropped-space, no-reference, none-dropped}
use Rattle.sp_state.proofs.space_state.SpaceState.drop_value.Goals as goal

pub returns-in-Ref-clause-dropped : goal.returns-in-Ref-clause-dropped
returns-in-Ref-clause-dropped c = λ g s is.
    let x : SpaceState = record c.args.self.now { living = c.drop_holders.new.self } in
    subst (λ (v : Value). IsSpace g (drop g (reference_of v) s) x) (sym c.in-Ref.is) (dropped-space g (c.in-Ref.reference ∷ []) s c.args.self.now c.drop_holders.new.self is (c.drop_holders.ensures.dropped g s is.living))

pub returns-in_default-clause-dropped : goal.returns-in_default-clause-dropped
returns-in_default-clause-dropped c = λ g s is. none-dropped g c.args.value.now s c.args.self.now (no-reference c.args.value.now c.in_default.not-Ref) is
