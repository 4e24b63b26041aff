use Rattle.std.proofs.Common.{Option, Some, ap, sym, subst, ◌∙◌}
use Rattle.std.specs.Prelude.{IfSome}
use Rattle.sp_state.specs.declared.space_state.SpaceState.{SpaceState}
use Rattle.sp_core.specs.Hands.{IsSecond, fits}
use Rattle.sp_core.proofs.TwinLemmas.{if-ok, spare-gone, zipped}
use Rattle.sp_core.proofs.space_core.SpaceCore.take_second.Goals as goal

pub returns-in-Some-clause-own : goal.returns-in-Some-clause-own
returns-in-Some-clause-own c =
    let both = zipped c.take.result c.args.twin c.in-Some.second c.in-Some.ensures in
    (λ j. fits (sym both.0 j) c.args.hand.now (sym both.1 j)) ∙ ap (λ (o : Option SpaceState). fits o c.args.hand.now c.args.twin) c.take.ensures.value ∙ c.requires.fits

pub returns-in-Some-clause-state : goal.returns-in-Some-clause-state
returns-in-Some-clause-state c = λ g s is.
    let both = zipped c.take.result c.args.twin c.in-Some.second c.in-Some.ensures in
    subst (λ (o : Option SpaceState). IfSome o (IsSecond g s c.args.self.now.state)) (sym c.take.ensures.value ∙ both.0) is.spare

pub returns-in-None-clause-state : goal.returns-in-None-clause-state
returns-in-None-clause-state c = if-ok c.copy_for.result _ _ (λ second told. λ g s is. told g s (spare-gone g s c.args.self.now c.take.new.self c.take.ensures.after is)) c.copy_for.ensures.state
