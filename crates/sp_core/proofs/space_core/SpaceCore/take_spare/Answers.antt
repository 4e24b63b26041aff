use Rattle.std.proofs.Common.{Option, sym, subst}
use Rattle.std.specs.Prelude.{IfSome}
use Rattle.sp_tasks.proofs.LentLemmas.{lent-rows}
use Rattle.sp_state.specs.declared.space_state.SpaceState.{SpaceState}
use Rattle.sp_core.specs.Hands.{IsSecond}
use Rattle.sp_core.proofs.TwinLemmas.{ok-both}
use Rattle.sp_core.proofs.space_core.SpaceCore.take_spare.Goals as goal

pub returns-in-Some-clause-spare : goal.returns-in-Some-clause-spare
returns-in-Some-clause-spare c = λ g s is. subst (λ (o : Option SpaceState). IfSome o (IsSecond g s c.args.self.now.state)) (sym c.in-Some.ensures.value) is.spare

pub returns-in-None-clause-spare : goal.returns-in-None-clause-spare
returns-in-None-clause-spare c = ok-both c.copy.result _ _ _ (λ space told rows. λ g s is. record { state = told g s is.state is.rest; lent = lent-rows rows }) c.copy.ensures.stands c.copy.ensures.rows
