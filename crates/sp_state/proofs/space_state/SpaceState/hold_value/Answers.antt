use Rattle.std.proofs.Common.{[], ◌∷◌, sym, subst}
use Rattle.std.proofs.lemmas.Result.{on_ok_weaker}
use Rattle.space_ids.specs.declared.value.Value.{Value}
use Rattle.sp_rules.specs.Holders.{hold}
use Rattle.sp_rules.specs.References.{reference_of}
use Rattle.sp_state.specs.Spaces.{IsSpace}
use Rattle.sp_state.specs.declared.space_state.SpaceState.{SpaceState}
use Rattle.sp_state.proofs.OpLemmas.{held-space, no-reference, none-held}
use Rattle.sp_state.proofs.space_state.SpaceState.hold_value.Goals as goal

pub returns-in-Ref-clause-held : goal.returns-in-Ref-clause-held
returns-in-Ref-clause-held c = on_ok_weaker c.hold.result (λ held. λ g s is.
    let x : SpaceState = record c.args.self.now { living = c.hold.new.self } in
    subst (λ (v : Value). IsSpace g (hold g (reference_of v) s) x) (sym c.in-Ref.is) (held-space g (c.in-Ref.reference ∷ []) s c.args.self.now c.hold.new.self is (held g s is.living))) c.hold.ensures.held

pub returns-in_default-clause-held : goal.returns-in_default-clause-held
returns-in_default-clause-held c = λ g s is. none-held g c.args.value.now s c.args.self.now (no-reference c.args.value.now c.in_default.not-Ref) is
